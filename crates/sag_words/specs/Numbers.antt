-- The numbers that places and options give.
--   GivesNumber    the text of a place gives this number
--   GivesHorizon   the text of a place gives this horizon
--   GivesCores     the text of `--cores`, where there is one, gives this number of cores
--   GivesBudget    the text of `--budget`, where there is one, gives this budget
--   GivesTrial     the text of `--trial`, where there is one, gives the number of this trial
use Rattle.std.specs.Prelude.{◌≡◌, ◌≤◌, ◌<◌, ◌^◌, ℕ, Option, None, Some}
use Rattle.clap.specs.Words.{Text}
use Rattle.csv_numbers.specs.Fields.{Spells}
use Rattle.job_model.specs.declared.limits.TheConstants.{MOST_CORES}
use Rattle.sag_graph.specs.declared.TheConstants.{MOST_BUDGET}
use Rattle.task_unroll.specs.declared.limits.TheConstants.{MOST_HORIZON}
use Rattle.sag_words.specs.declared.numbers.TheConstants.{DEFAULT_BUDGET}

-- the text is there, and spells the number as a field of a CSV file does
abbrev pub GivesNumber : Option Text → ℕ → Type 0
GivesNumber None number = ⊥
GivesNumber (Some text) number = Spells text number

-- the text is there, and spells a moment from 1 to the latest horizon, as a field of a CSV file does
abbrev pub GivesHorizon : Option Text → ℕ → Type 0
GivesHorizon None horizon = ⊥
GivesHorizon (Some text) horizon = Spells text horizon × (1 ≤ horizon) × (horizon ≤ MOST_HORIZON)

-- the text spells a number from 1 to the most cores, as a field of a CSV file does; without a text there is one core
abbrev pub GivesCores : Option Text → ℕ → Type 0
GivesCores None cores = cores ≡ 1
GivesCores (Some text) cores = Spells text cores × (1 ≤ cores) × (cores ≤ MOST_CORES)

-- the text spells a budget from 1 to the greatest, as a field of a CSV file does; without a text it is the default
abbrev pub GivesBudget : Option Text → ℕ → Type 0
GivesBudget None budget = budget ≡ DEFAULT_BUDGET
GivesBudget (Some text) budget = Spells text budget × (1 ≤ budget) × (budget ≤ MOST_BUDGET)

-- the text spells a number of 32 bits, as a field of a CSV file does; without a text there is none
abbrev pub GivesTrial : Option Text → Option ℕ → Type 0
GivesTrial None trial = trial ≡ None
GivesTrial (Some text) None = ⊥
GivesTrial (Some text) (Some trial) = Spells text trial × (trial < 2 ^ 32)
