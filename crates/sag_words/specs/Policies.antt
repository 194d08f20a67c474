-- The words for the policies by which jobs get their priorities.
--   policy_word   how a policy is spelled
--   GivesPolicy   the text of a place gives this policy
use Rattle.std.specs.Prelude.{◌≡◌, Option, Some, codes}
use Rattle.clap.specs.Words.{Text}
use Rattle.task_unroll.specs.declared.task.Policy.{Policy}
use Rattle.task_unroll.specs.declared.task.Policy.TheVariants.{Rate, Deadline, Edf}

-- how a policy is spelled
abbrev pub policy_word : Policy → Text
policy_word Rate = codes "rate"
policy_word Deadline = codes "deadline"
policy_word Edf = codes "edf"

-- the text is there, and is the word for the policy
abbrev pub GivesPolicy : Option Text → Policy → Type 0
GivesPolicy text policy = text ≡ Some (policy_word policy)
