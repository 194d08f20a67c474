-- The words of `unroll`.
--   unroll_app        the grammar of `unroll`
--   HasUnrollValues   the values are those of these tasks, this horizon and this policy
use Rattle.std.specs.Prelude.{◌≡◌, [], ◌∷◌, ℕ, Some, codes}
use Rattle.clap.specs.Words.{App, Text}
use Rattle.task_unroll.specs.declared.task.Policy.{Policy}
use Rattle.sag_words.specs.Apps.{Values, app_with, place}
use Rattle.sag_words.specs.Numbers.{GivesHorizon}
use Rattle.sag_words.specs.Policies.{GivesPolicy}

-- unroll TASKS HORIZON POLICY
abbrev pub unroll_app : App
unroll_app = app_with (codes "unroll") (place (codes "TASKS") ∷ place (codes "HORIZON") ∷ place (codes "POLICY") ∷ [])

-- the values are those of these tasks, this horizon and this policy
abbrev pub HasUnrollValues : Values → Text → ℕ → Policy → Type 0
HasUnrollValues given tasks horizon policy = (given (codes "TASKS") ≡ Some tasks) × GivesHorizon (given (codes "HORIZON")) horizon
    × GivesPolicy (given (codes "POLICY")) policy
