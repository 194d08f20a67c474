-- Workloads: words job by job, and that their jobs and chains are a table.
use Rattle.std.proofs.Common.{◌≡◌, ◌≢◌, ◌∙◌, ◌<◌, ◌≤◌, ◌+◌, ◌*◌, ◌/◌, ◌%◌, ◌∷◌, ◌++◌, [], All, AllPairs, Contains, List, ap, arith, get_or, length, map, refl, sym, suc, zero, ℕ}
use Rattle.std.proofs.lemmas.List.{length-map}
use Rattle.std.proofs.lemmas.List.FromFn.{get_or-map-range_with_len, length-range_with_len, map-range_with_len_more}
use Rattle.rand_pcg.specs.Lcg.{Lcg, advance, next_state, state_after}
use Rattle.rand_pcg.specs.Pcg.{multiplier_64}
use Rattle.lists.specs.Numbers.{numbers_below}
use Rattle.job_model.specs.declared.job_row.Job.{Job}
use Rattle.job_model.specs.declared.limits.TheConstants.{MOST_EDGES, MOST_JOBS}
use Rattle.job_model.specs.Cycles.{HoldsCycle}
use Rattle.job_model.specs.EdgeFaults.{KeepEdgeRules}
use Rattle.job_model.specs.Neighbours.{JoinJobs}
use Rattle.job_model.specs.Table.{HaveOneId, IsJob, IsTable, Walk, table_of}
use Rattle.job_model.proofs.TableLemmas.{IsTable-jobs}
use Rattle.workload_gen.specs.declared.job_words.JobWords.{JobWords}
use Rattle.workload_gen.specs.Workload.{chains, generator_of, job_with_words, words_of, workload_job, workload_jobs}

-- steps after steps
state_after-append : (w m p a b s : ℕ) → state_after w m p b (state_after w m p a s) ≡ state_after w m p (a + b) s
unfolding state_after
state_after-append w m p zero b s =
    let none : b ≡ 0 + b = omega arith in
    ap (λ n. state_after w m p n s) none
state_after-append w m p (suc a) b s =
    let more : suc (a + b) ≡ suc a + b = omega arith in
    state_after-append w m p a b (next_state w m p s) ∙ ap (λ n. state_after w m p n s) more

-- the words of job number i
abbrev words_at : ℕ → ℕ → JobWords
words_at number i = words_of (advance 64 multiplier_64 (5 * i) (generator_of number))

-- no words yet
pub words_none : (g : Lcg) → g ≡ advance 64 multiplier_64 0 g
unfolding state_after
words_none g = refl

-- the generator after the words of one job more
pub words_more : (i : ℕ) (g : Lcg) → advance 64 multiplier_64 5 (advance 64 multiplier_64 (5 * i) g) ≡ advance 64 multiplier_64 (5 * (i + 1)) g
words_more i g =
    let more : 5 * i + 5 ≡ 5 * (i + 1) = omega arith in
    ap (λ s. record g { state = s }) (state_after-append 64 multiplier_64 g.increment (5 * i) 5 g.state ∙ ap (λ n. state_after 64 multiplier_64 g.increment n g.state) more)

-- one job more
pub jobs_more : (number i : ℕ) (jobs : List Job) (g : Lcg) (words : JobWords) (job : Job) → jobs ≡ workload_jobs number i
    → g ≡ advance 64 multiplier_64 (5 * i) (generator_of number) → words ≡ words_of g → job ≡ job_with_words i words
    → jobs ++ job ∷ [] ≡ workload_jobs number (i + 1)
unfolding workload_job
jobs_more number i jobs g words job jobs_are g_is words_are job_is =
    let made : job ≡ workload_job number i = job_is ∙ ap (job_with_words i) (words_are ∙ ap words_of g_is) in
    rw (jobs_are, made) (sym (map-range_with_len_more (workload_job number) 0 i i (omega arith)))

-- one chain more
pub chains_more : (group : ℕ) (edges : List (ℕ × ℕ)) → edges ≡ map (λ group. (6 * group, 6 * group + 5)) (numbers_below group)
    → edges ++ (6 * group, 6 * group + 5) ∷ [] ≡ map (λ group. (6 * group, 6 * group + 5)) (numbers_below (group + 1))
chains_more group edges edges_are =
    rw edges_are (sym (map-range_with_len_more (λ group. (6 * group, 6 * group + 5)) 0 group group (omega arith)))

-- how many are made of the numbers below a number
pub length-made : {X : Type 0} (f : ℕ → X) (n : ℕ) → length (map f (numbers_below n)) ≡ n
length-made f n = length-map (numbers_below n) f ∙ length-range_with_len 0 n

made-at : {X : Type 0} (f : ℕ → X) (n k : ℕ) (d : X) → k < length (map f (numbers_below n)) → get_or (map f (numbers_below n)) k d ≡ f k
made-at f n k d within =
    let long = length-made f n in
    get_or-map-range_with_len f 0 n k k d (omega arith) (omega arith)

-- each job keeps the rules of jobs
is_job : (i : ℕ) (words : JobWords) → i < 4096 → IsJob (job_with_words i words)
is_job i words few = record {
  releases = omega arith;
  arrival_limit = omega arith;
  costs_something = omega arith;
  costs = omega arith;
  cost_limit = omega arith;
}

-- two jobs have different IDs
ids-apart : (i j : ℕ) (one other : JobWords) → i < j → ¬ HaveOneId (job_with_words i one) (job_with_words j other)
ids-apart i j one other before same =
    let task : 1 + i % 6 ≡ 1 + j % 6 = same.0 in
    let job : 1 + i / 6 ≡ 1 + j / 6 = same.1 in
    absurd (omega arith)

-- the jobs are a table
pub jobs-are_table : (number count : ℕ) → count ≤ 4096 → IsTable (table_of (workload_jobs number count))
unfolding workload_job
jobs-are_table number count few =
    let long = length-made (workload_job number) count in
    IsTable-jobs (workload_jobs number count) (omega arith)
    (λ k d within. rw (made-at (workload_job number) count k d within) (is_job k (words_at number k) (omega arith)))
    (λ i j d before within.
    rw (made-at (workload_job number) count i d (omega arith), made-at (workload_job number) count j d within) (ids-apart i j (words_at number i) (words_at number j) before))

-- an edge leads from the first of six jobs to the last of six
chain-edge : (count : ℕ) (e : ℕ × ℕ) → Contains (chains count) e → (e.0 % 6 ≡ 0) × (e.1 % 6 ≡ 5)
chain-edge count e there =
    let k = there.0 in
    let is : (6 * k, 6 * k + 5) ≡ e = sym (made-at (λ group. (6 * group, 6 * group + 5)) (count / 6) k e there.1) ∙ there.2 in
    let from : 6 * k ≡ e.0 = ap (λ e. e.0) is in
    let to : 6 * k + 5 ≡ e.1 = ap (λ e. e.1) is in
    (omega arith, omega arith)

-- so they close no cycle
no_walk : (count j n : ℕ) → ¬ Walk (chains count) j j (suc n)
no_walk count j zero walk =
    let edge = chain-edge count (j, walk.0) walk.1 in
    let back : walk.0 ≡ j = walk.2 in
    let first : j % 6 ≡ 0 = edge.0 in
    let last : walk.0 % 6 ≡ 5 = edge.1 in
    absurd (omega arith)
no_walk count j (suc n) walk =
    let here = chain-edge count (j, walk.0) walk.1 in
    let next = chain-edge count (walk.0, walk.2.0) walk.2.1 in
    let last : walk.0 % 6 ≡ 5 = here.1 in
    let first : walk.0 % 6 ≡ 0 = next.0 in
    absurd (omega arith)

-- the chains keep the rules of edges
pub chains-keep_rules : (count : ℕ) → count ≤ 4096 → KeepEdgeRules (chains count)
chains-keep_rules count few =
    let long : length (chains count) ≡ count / 6 = length-made (λ group. (6 * group, 6 * group + 5)) (count / 6) in
    record {
      few = omega arith;
      no_cycle = λ cycle. no_walk count cycle.job cycle.further cycle.walk;
    }

-- and join jobs that are there
pub chains-join_jobs : (number count : ℕ) → JoinJobs (length (workload_jobs number count)) (chains count)
chains-join_jobs number count =
    let jobs : length (workload_jobs number count) ≡ count = length-made (workload_job number) count in
    let long : length (chains count) ≡ count / 6 = length-made (λ group. (6 * group, 6 * group + 5)) (count / 6) in
    λ k d within. rw (made-at (λ group. (6 * group, 6 * group + 5)) (count / 6) k d within) (omega arith, omega arith)
