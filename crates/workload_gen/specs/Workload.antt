-- The workload of a number: jobs in groups of six, made of the words of a generator.
--     generator_of number                the generator of that number, on stream 54
--     word_after k g                     the word that the generator gives after k others
--     words_of g                         its next words, as those of a job
--     job_with_words i words             job number i, by its words
--     workload_job number i              job number i: five words are taken for each job
--     workload_jobs number count         the first jobs
--     chains count                       from the first job of each whole group to its last
--     generated number count chained     the table of the first jobs
use Rattle.std.specs.Prelude.{ℕ, ◌+◌, ◌*◌, ◌/◌, ◌%◌, Bool, List, [], map, if◌then◌else◌}
use Rattle.rand_pcg.specs.Lcg.{Lcg, advance, increment_of, started}
use Rattle.rand_pcg.specs.Pcg.{multiplier_64, pcg32}
use Rattle.lists.specs.Numbers.{numbers_below}
use Rattle.job_model.specs.declared.job_row.Job.{Job}
use Rattle.job_model.specs.EdgeFaults.{with_edges}
use Rattle.job_model.specs.Table.{Table, table_of}
use Rattle.workload_gen.specs.declared.job_words.JobWords.{JobWords}

-- the generator of that number
abbrev pub generator_of : ℕ → Lcg
generator_of number = started 64 multiplier_64 number (increment_of 64 54)

-- the word that the generator gives after k others
abbrev pub word_after : ℕ → Lcg → ℕ
word_after k g = (pcg32 (advance 64 multiplier_64 k g)).0

-- the next words, as those of a job
abbrev pub words_of : Lcg → JobWords
words_of g = record {
  release = word_after 0 g;
  jitter = word_after 1 g;
  cost = word_after 2 g;
  more_cost = word_after 3 g;
  priority = word_after 4 g;
}

-- Job number i, by its words. Group i / 6 begins at 80 times its number.
abbrev pub job_with_words : ℕ → JobWords → Job
job_with_words i words =
    let rmin = 80 * (i / 6) + words.release % 8 in
    let rmax = rmin + words.jitter % 4 in
    let cmin = 1 + words.cost % 6 in
    record {
      task = 1 + i % 6;
      job = 1 + i / 6;
      rmin = rmin;
      rmax = rmax;
      cmin = cmin;
      cmax = cmin + words.more_cost % 4;
      deadline = rmax + 40;
      priority = words.priority % 8;
    }

-- job number i, by the five words of the generator after those of the jobs before it
unfoldable pub workload_job : ℕ → ℕ → Job
workload_job number i = job_with_words i (words_of (advance 64 multiplier_64 (5 * i) (generator_of number)))

-- the first jobs
abbrev pub workload_jobs : ℕ → ℕ → List Job
workload_jobs number count = map (workload_job number) (numbers_below count)

-- from the first job of each whole group to its last: (predecessor, successor)
abbrev pub chains : ℕ → List (ℕ × ℕ)
chains count = map (λ group. (6 * group, 6 * group + 5)) (numbers_below (count / 6))

-- the table of the first jobs, chained or without precedence
abbrev pub generated : ℕ → ℕ → Bool → Table
generated number count chained =
    with_edges (table_of (workload_jobs number count)) (if chained then chains count else [])
