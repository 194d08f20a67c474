-- Certificates of small tables and edits of one of them, each with the first failure, computed.
use Rattle.std.proofs.Common.{◌≡◌, ℕ, List, [], ◌∷◌, ◌++◌, ◌-◌, refl, take, drop, Option, Some, None}
use Rattle.job_model.specs.Table.{table_of}
use Rattle.job_model.proofs.Tables.{table_a, table_b, table_c, table_d}
use Rattle.cert_text.specs.declared.line.Pair.{Pair}
use Rattle.cert_text.specs.declared.line.EndOf.{EndOf}
use Rattle.cert_text.specs.declared.line.Mark.TheVariants as mark
use Rattle.cert_text.specs.declared.line.CertLine.{CertLine}
use Rattle.cert_text.specs.declared.line.CertLine.TheVariants as line
use Rattle.graph_check.specs.declared.clause.Clause.{Clause}
use Rattle.graph_check.specs.declared.clause.Clause.TheVariants.{K1, K2, K3, K4, K5, K6, K7, K8, K9, K10, K11}
use Rattle.graph_check.specs.Kept.{Failure, first_failure}

abbrev pair : ℕ → ℕ → Pair
pair lo hi = record { lo = lo; hi = hi }

abbrev tracked : ℕ → ℕ → ℕ → EndOf
tracked job lo hi = record { job = job; lo = lo; hi = hi }

-- the clause breaks at the line
abbrev at_line : Clause → ℕ → Option Failure
at_line clause line = Some (record { clause = clause; line = line })

-- ---- whole certificates

-- two jobs on one core
abbrev cert_a : List CertLine
cert_a =
    line.Head 2 1
    ∷ line.Level 0 1
    ∷ line.Root (pair 0 0 ∷ [])
    ∷ line.Level 1 2
    ∷ line.State 0 0 (pair 1 2 ∷ []) [] []
    ∷ line.State 0 1 (pair 2 3 ∷ []) [] []
    ∷ line.Edge 0 0 0 0 0
    ∷ line.Edge 0 1 0 0 1
    ∷ line.Level 2 1
    ∷ line.State 0 1 (pair 3 5 ∷ []) [] []
    ∷ line.Edge 0 1 1 2 0
    ∷ line.Edge 1 0 2 3 0
    ∷ line.Job 0 1 5 mark.Ok
    ∷ line.Job 1 2 5 mark.Ok
    ∷ line.Verdict mark.Ok
    ∷ line.End ∷ []

a_passes : first_failure table_a 1 cert_a ≡ None
a_passes = refl

-- a job with a successor, on two cores
abbrev cert_b : List CertLine
cert_b =
    line.Head 3 2
    ∷ line.Level 0 1
    ∷ line.Root (pair 0 0 ∷ pair 0 0 ∷ [])
    ∷ line.Level 1 1
    ∷ line.State 0 0 (pair 0 0 ∷ pair 2 4 ∷ []) (tracked 0 2 4 ∷ []) (0 ∷ [])
    ∷ line.Edge 0 0 0 0 0
    ∷ line.Level 2 1
    ∷ line.State 0 1 (pair 1 1 ∷ pair 2 4 ∷ []) (tracked 0 2 4 ∷ []) (0 ∷ [])
    ∷ line.Edge 0 1 0 0 0
    ∷ line.Level 3 1
    ∷ line.State 0 2 (pair 2 4 ∷ pair 3 6 ∷ []) [] []
    ∷ line.Edge 0 2 2 4 0
    ∷ line.Job 0 2 4 mark.Ok
    ∷ line.Job 1 1 1 mark.Ok
    ∷ line.Job 2 3 6 mark.Ok
    ∷ line.Verdict mark.Ok
    ∷ line.End ∷ []

b_passes : first_failure table_b 2 cert_b ≡ None
b_passes = refl

-- the same with other last jobs in the first state line
abbrev b_with : List ℕ → Option Failure
b_with last =
    first_failure table_b 2
    (take 4 cert_b ++ line.State 0 0 (pair 0 0 ∷ pair 2 4 ∷ []) (tracked 0 2 4 ∷ []) last ∷ drop 5 cert_b)

-- job 0 is last on its core again where it was not before
no_last : b_with [] ≡ at_line K8 9
no_last = refl

-- job 1 is not dispatched, the table has no job 3, and numbers rise
other_last : b_with (1 ∷ []) ≡ at_line K5 5
other_last = refl

past_last : b_with (3 ∷ []) ≡ at_line K5 5
past_last = refl

twice_last : b_with (0 ∷ 0 ∷ []) ≡ at_line K5 5
twice_last = refl

-- two states that merge
abbrev cert_c : List CertLine
cert_c =
    line.Head 2 1
    ∷ line.Level 0 1
    ∷ line.Root (pair 0 0 ∷ [])
    ∷ line.Level 1 2
    ∷ line.State 0 0 (pair 1 5 ∷ []) [] []
    ∷ line.State 0 1 (pair 6 6 ∷ []) [] []
    ∷ line.Edge 0 0 0 4 0
    ∷ line.Edge 0 1 5 5 1
    ∷ line.Level 2 1
    ∷ line.State 0 1 (pair 6 11 ∷ []) [] []
    ∷ line.Edge 0 1 5 5 0
    ∷ line.Edge 1 0 6 10 0
    ∷ line.Job 0 1 11 mark.Ok
    ∷ line.Job 1 6 6 mark.Ok
    ∷ line.Verdict mark.Ok
    ∷ line.End ∷ []

c_passes : first_failure table_c 1 cert_c ≡ None
c_passes = refl

-- two states of one set that do not merge, on two cores
abbrev cert_d : List CertLine
cert_d =
    line.Head 3 2
    ∷ line.Level 0 1
    ∷ line.Root (pair 0 0 ∷ pair 0 0 ∷ [])
    ∷ line.Level 1 2
    ∷ line.State 0 0 (pair 0 0 ∷ pair 10 10 ∷ []) [] []
    ∷ line.State 0 1 (pair 0 0 ∷ pair 3 3 ∷ []) [] []
    ∷ line.Edge 0 0 0 0 0
    ∷ line.Edge 0 1 0 0 1
    ∷ line.Level 2 2
    ∷ line.State 0 1 (pair 3 3 ∷ pair 10 10 ∷ []) [] []
    ∷ line.State 1 2 (pair 3 3 ∷ pair 4 4 ∷ []) [] []
    ∷ line.Edge 0 1 0 0 0
    ∷ line.Edge 1 0 0 0 0
    ∷ line.Edge 1 2 0 0 1
    ∷ line.Level 3 2
    ∷ line.State 0 2 (pair 7 7 ∷ pair 10 10 ∷ []) [] []
    ∷ line.State 1 0 (pair 4 4 ∷ pair 13 15 ∷ []) [] []
    ∷ line.Edge 0 2 3 3 0
    ∷ line.Edge 1 0 3 5 1
    ∷ line.Job 0 10 15 mark.Ok
    ∷ line.Job 1 3 3 mark.Ok
    ∷ line.Job 2 4 7 mark.Ok
    ∷ line.Verdict mark.Ok
    ∷ line.End ∷ []

d_passes : first_failure table_d 2 cert_d ≡ None
d_passes = refl

-- no jobs
abbrev cert_none : List CertLine
cert_none = line.Head 0 2 ∷ line.Level 0 1 ∷ line.Root (pair 0 0 ∷ pair 0 0 ∷ []) ∷ line.Verdict mark.Ok ∷ line.End ∷ []

none_passes : first_failure (table_of []) 2 cert_none ≡ None
none_passes = refl

-- ---- the two jobs: one edit for each row

-- the certificate with other lines in place of the one of this number
abbrev edited : ℕ → List CertLine → List CertLine
edited number lines = take (number - 1) cert_a ++ lines ++ drop number cert_a

abbrev failure_with : ℕ → List CertLine → Option Failure
failure_with number lines = first_failure table_a 1 (edited number lines)

k1_line_1 : failure_with 1 (line.Head 3 1 ∷ []) ≡ at_line K1 1
k1_line_1 = refl

k2_line_7 : failure_with 4 (line.Level 1 3 ∷ []) ≡ at_line K2 7
k2_line_7 = refl

k2_line_9 : failure_with 9 (line.Level 3 1 ∷ []) ≡ at_line K2 9
k2_line_9 = refl

k3_line_2 : failure_with 2 (line.Level 0 2 ∷ []) ≡ at_line K3 2
k3_line_2 = refl

k3_line_3 : failure_with 3 (line.Root (pair 1 1 ∷ []) ∷ []) ≡ at_line K3 3
k3_line_3 = refl

k4_line_6 : failure_with 6 (line.State 1 1 (pair 2 3 ∷ []) [] [] ∷ []) ≡ at_line K4 6
k4_line_6 = refl

k4_line_10 : failure_with 10 (line.State 0 0 (pair 3 5 ∷ []) [] [] ∷ []) ≡ at_line K4 10
k4_line_10 = refl

k5_line_5 : failure_with 5 (line.State 0 0 (pair 2 1 ∷ []) [] [] ∷ []) ≡ at_line K5 5
k5_line_5 = refl

k5_line_3 : failure_with 3 (line.Root (pair 0 0 ∷ pair 0 0 ∷ []) ∷ []) ≡ at_line K5 3
k5_line_3 = refl

k5_line_6 : failure_with 6 (line.State 0 1 (pair 2 3 ∷ []) (tracked 1 2 3 ∷ []) [] ∷ []) ≡ at_line K5 6
k5_line_6 = refl

k6_line_8 : failure_with 8 [] ≡ at_line K6 8
k6_line_8 = refl

k6_line_9 : failure_with 8 (line.Edge 0 1 0 0 1 ∷ line.Edge 0 1 0 0 1 ∷ []) ≡ at_line K6 9
k6_line_9 = refl

k7_line_8 : failure_with 8 (line.Edge 0 1 0 1 1 ∷ []) ≡ at_line K7 8
k7_line_8 = refl

k8_line_11 : failure_with 10 (line.State 0 1 (pair 3 4 ∷ []) [] [] ∷ []) ≡ at_line K8 11
k8_line_11 = refl

k8_line_8 : failure_with 8 (line.Edge 0 1 0 0 2 ∷ []) ≡ at_line K8 8
k8_line_8 = refl

k8_line_8_2 : failure_with 6 (line.State 0 0 (pair 2 3 ∷ []) [] [] ∷ []) ≡ at_line K8 8
k8_line_8_2 = refl

k9_line_13 : failure_with 13 (line.Job 0 1 4 mark.Ok ∷ []) ≡ at_line K9 13
k9_line_13 = refl

k10_line_13 : failure_with 13 (line.Job 0 1 5 mark.Miss ∷ []) ≡ at_line K10 13
k10_line_13 = refl

k11_line_15 : failure_with 15 (line.Verdict mark.Miss ∷ []) ≡ at_line K11 15
k11_line_15 = refl

k2_line_13 : first_failure table_a 1 (take 12 cert_a ++ line.Job 1 2 5 mark.Ok ∷ line.Job 0 1 5 mark.Ok ∷ drop 14 cert_a) ≡ at_line K2 13
k2_line_13 = refl

k2_line_15 : failure_with 15 [] ≡ at_line K2 15
k2_line_15 = refl

-- ---- the two jobs: lines that no edit of one line brings

-- the first lines of the certificate, and then others
abbrev failure_behind : ℕ → List CertLine → Option Failure
failure_behind count lines = first_failure table_a 1 (take count cert_a ++ lines)

-- wider states and a wider interval are as good
wider : first_failure table_a 1
    (take 4 cert_a ++ line.State 0 0 (pair 1 3 ∷ []) [] [] ∷ take 4 (drop 5 cert_a)
    ++ line.State 0 1 (pair 3 6 ∷ []) [] [] ∷ line.Edge 0 1 1 3 0 ∷ line.Edge 1 0 2 3 0 ∷ line.Job 0 1 5 mark.Ok ∷ line.Job 1 2 6 mark.Ok ∷ drop 14 cert_a)
    ≡ None
wider = refl

other_cores : first_failure table_a 2 cert_a ≡ at_line K1 1
other_cores = refl

no_head : failure_behind 0 (line.Level 0 1 ∷ []) ≡ at_line K2 1
no_head = refl

second_head : failure_behind 1 (line.Head 2 1 ∷ []) ≡ at_line K2 2
second_head = refl

first_level_late : failure_behind 1 (line.Level 1 1 ∷ []) ≡ at_line K2 2
first_level_late = refl

level_0_twice : failure_behind 3 (line.Level 0 1 ∷ []) ≡ at_line K2 4
level_0_twice = refl

edge_behind_root : failure_behind 3 (line.Edge 0 0 0 0 0 ∷ []) ≡ at_line K2 4
edge_behind_root = refl

-- an edge is due at once, and no state can take it
level_without_states : failure_behind 3 (line.Level 1 0 ∷ line.Edge 0 0 0 0 0 ∷ []) ≡ at_line K8 5
level_without_states = refl

no_such_job : failure_behind 4 (line.State 0 2 (pair 1 2 ∷ []) [] [] ∷ []) ≡ at_line K4 5
no_such_job = refl

edge_before_states : failure_behind 5 (line.Edge 0 0 0 0 0 ∷ []) ≡ at_line K2 6
edge_before_states = refl

head_for_edge : failure_behind 6 (line.Head 2 1 ∷ []) ≡ at_line K6 7
head_for_edge = refl

state_for_edge : failure_behind 6 (line.State 0 1 (pair 2 3 ∷ []) [] [] ∷ []) ≡ at_line K6 7
state_for_edge = refl

end_for_edge : failure_behind 7 (line.End ∷ []) ≡ at_line K6 8
end_for_edge = refl

edge_behind_last_edge : failure_behind 12 (line.Edge 1 0 2 3 0 ∷ []) ≡ at_line K6 13
edge_behind_last_edge = refl

level_past_last : failure_behind 12 (line.Level 3 1 ∷ []) ≡ at_line K2 13
level_past_last = refl

edge_behind_job : failure_behind 13 (line.Edge 1 0 2 3 0 ∷ []) ≡ at_line K2 14
edge_behind_job = refl

job_too_many : failure_behind 14 (line.Job 2 0 0 mark.Ok ∷ []) ≡ at_line K2 15
job_too_many = refl

line_behind_end : failure_behind 16 (line.End ∷ []) ≡ at_line K2 17
line_behind_end = refl
