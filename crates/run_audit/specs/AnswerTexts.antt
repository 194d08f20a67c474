-- What is printed of an audit.
--     legal_text                  a run that breaks no rule
--     broken_text table broken    the rule that is broken, by which job, and when
use Rattle.std.specs.Prelude.{ℕ, ◌++◌, ◌∷◌, [], List, codes, decimal}
use Rattle.job_model.specs.Table.{Table, job_at}
use Rattle.run_audit.specs.declared.broken.Break.{Break}
use Rattle.run_audit.specs.FirstBreak.{rule_index}

-- a run that breaks no rule
abbrev pub legal_text : List ℕ
legal_text = codes "legal\n"

-- the rule, the task ID and the job ID, and the time
unfoldable pub broken_text : Table → Break → List ℕ
broken_text table broken =
    codes "broken L" ++ decimal (rule_index broken.rule) ++ codes " job " ++ decimal (job_at table broken.job).task ++ 32 ∷ [] ++ decimal (job_at table broken.job).job
    ++ codes " time " ++ decimal broken.time ++ 10 ∷ []
