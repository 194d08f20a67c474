-- What is printed of a check.
--     job_text table entry      the line of a job with its number: its IDs, its interval, its mark
--     are_all_ok jobs           whether each mark is ok
--     yes_text table jobs       a valid certificate: yes, a line for each job, and the verdict
--     clause_number clause      the number in a clause's name
--     no_text failure           the clause that is broken, and the line that breaks it
use Rattle.std.specs.Prelude.{ℕ, ◌++◌, ◌∷◌, [], List, Bool, codes, cond, decimal}
use Rattle.std.specs.List.{enumerate_from, flat_map, list_all}
use Rattle.job_model.specs.Table.{Table, job_at}
use Rattle.cert_text.specs.Spelling.{mark_text}
use Rattle.cert_text.specs.declared.line.Mark.TheVariants as mark
use Rattle.graph_check.specs.declared.clause.Clause.{Clause}
use Rattle.graph_check.specs.declared.clause.Clause.TheVariants as clauses
use Rattle.graph_check.specs.Entries.{JobEntry, is_ok_mark}
use Rattle.graph_check.specs.Kept.{Failure}

-- a job's IDs, interval and mark
abbrev pub entry_text : ℕ → ℕ → JobEntry → List ℕ
entry_text task job e =
    codes "job " ++ decimal task ++ 32 ∷ [] ++ decimal job ++ 32 ∷ [] ++ decimal e.span.lo ++ 32 ∷ [] ++ decimal e.span.hi ++ 32 ∷ [] ++ mark_text e.mark

-- the line of a job with its number
abbrev pub job_text : Table → ℕ × JobEntry → List ℕ
job_text table e = entry_text (job_at table e.0).task (job_at table e.0).job e.1

-- whether each mark is ok
abbrev pub are_all_ok : List JobEntry → Bool
are_all_ok jobs = list_all (λ e. is_ok_mark e.mark) jobs

-- yes, a line for each job, and the verdict
unfoldable pub yes_text : Table → List JobEntry → List ℕ
yes_text table jobs = codes "yes\n" ++ flat_map (job_text table) (enumerate_from 0 jobs) ++ codes "verdict " ++ mark_text (cond (are_all_ok jobs) mark.Ok mark.Miss)

-- the number in a clause's name
abbrev pub clause_number : Clause → ℕ
clause_number clauses.K1 = 1
clause_number clauses.K2 = 2
clause_number clauses.K3 = 3
clause_number clauses.K4 = 4
clause_number clauses.K5 = 5
clause_number clauses.K6 = 6
clause_number clauses.K7 = 7
clause_number clauses.K8 = 8
clause_number clauses.K9 = 9
clause_number clauses.K10 = 10
clause_number clauses.K11 = 11

-- the clause that is broken, and the line that breaks it
unfoldable pub no_text : Failure → List ℕ
no_text failure = codes "no K" ++ decimal (clause_number failure.clause) ++ codes " line " ++ decimal failure.line ++ 10 ∷ []
