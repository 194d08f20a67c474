-- Which command the words ask for.
use Rattle.std.proofs.Common.{Bor, ◌≡◌, ◌∙◌, [], ◌∷◌, ℕ, Bool, List, Option, ap, codes, false, nat_eq, option_map, refl, sym, true}
use Rattle.std.specs.Cmp.Lexicographic.{pointwise}
use Rattle.std.proofs.lemmas.Bool.{and_from, eq-eqb, true≢false}
use Rattle.clap.proofs.WalkLemmas.{first_value-rows}
use Rattle.clap.specs.Words.{App, Text, first_of, first_value, matches_of, rows_of}
use Rattle.clap.specs.declared.parser.matches.Found.{Found}
use Rattle.sag_words.specs.Apps.{IsInGrammar, value_at}
use Rattle.sag_words.specs.Analyse.{analyse_app}
use Rattle.sag_words.specs.Attain.{attain_app}
use Rattle.sag_words.specs.Audit.{audit_app}
use Rattle.sag_words.specs.Check.{check_app}
use Rattle.sag_words.specs.Convert.{convert_app}
use Rattle.sag_words.specs.Gap.{gap_app}
use Rattle.sag_words.specs.Replay.{replay_app}
use Rattle.sag_words.specs.Report.{report_app}
use Rattle.sag_words.specs.Selftest.{selftest_app}
use Rattle.sag_words.specs.Unroll.{unroll_app}
use Rattle.sag_words.specs.WhatIf.{whatif_app}
use Rattle.sag_words.specs.Words.{Asks, HasValues, name_of}
use Rattle.job_model.specs.declared.interval_end.End.{End}
use Rattle.task_unroll.specs.declared.task.Policy.{Policy}
use Rattle.sag_words.specs.declared.command.Command.{Command}
use Rattle.sag_words.specs.declared.command.Command.TheVariants.{Analyse, Check, Replay, Attain, Report, Selftest, Convert, Audit, Unroll, WhatIf, Gap}

-- what a getter reads is the value of the argument
pub value_read : (app : App) (words : List Text) (found : Found) (id : Text) (read : Option (Bor Text))
    → option_map (λ s. s.now) read ≡ first_value found id → rows_of found ≡ matches_of app words → option_map (λ s. s.now) read ≡ value_at app words id
unfolding value_at
value_read app words found id read gets rows = gets ∙ first_value-rows found id ∙ ap (first_of id) rows

is_itself : (text : Text) → pointwise nat_eq text text ≡ true
is_itself [] = refl
is_itself (b ∷ text) = and_from (nat_eq b b) (pointwise nat_eq text text) (eq-eqb b b refl) (is_itself text)

-- two texts that a test tells apart are not equal
pub names_differ : (one other : Text) → pointwise nat_eq one other ≡ false → one ≡ other → ⊥
names_differ one other apart same = true≢false (sym (is_itself one) ∙ ap (pointwise nat_eq one) same ∙ apart)

-- words that give no `analyse` ask for nothing under that name
pub analyse_refused : (rest : List Text)
    → ((jobs : Text) (prec : Option Text) (cores budget : ℕ) → IsInGrammar analyse_app rest → HasValues (value_at analyse_app rest) (Analyse jobs prec cores budget) → ⊥)
    → (command : Command) → Asks (codes "analyse") rest command → ⊥
unfolding Asks
analyse_refused rest none (Analyse jobs prec cores budget) asks = none jobs prec cores budget asks.1 asks.2
analyse_refused rest none other asks = names_differ (codes "analyse") (name_of other) refl asks.0

-- nor do words that give no `check`
pub check_refused : (rest : List Text)
    → ((jobs cert : Text) (prec : Option Text) (cores : ℕ) → IsInGrammar check_app rest → HasValues (value_at check_app rest) (Check jobs cert prec cores) → ⊥)
    → (command : Command) → Asks (codes "check") rest command → ⊥
unfolding Asks
check_refused rest none (Check jobs cert prec cores) asks = none jobs cert prec cores asks.1 asks.2
check_refused rest none other asks = names_differ (codes "check") (name_of other) refl asks.0

-- nor do words that give no `replay`
pub replay_refused : (rest : List Text)
    → ((jobs scenario : Text) (prec : Option Text) (cores : ℕ) → IsInGrammar replay_app rest → HasValues (value_at replay_app rest) (Replay jobs scenario prec cores) → ⊥)
    → (command : Command) → Asks (codes "replay") rest command → ⊥
unfolding Asks
replay_refused rest none (Replay jobs scenario prec cores) asks = none jobs scenario prec cores asks.1 asks.2
replay_refused rest none other asks = names_differ (codes "replay") (name_of other) refl asks.0

-- nor do words that give no `attain`
pub attain_refused : (rest : List Text)
    → ((jobs : Text) (task job : ℕ) (end : End) (budget : ℕ) → IsInGrammar attain_app rest → HasValues (value_at attain_app rest) (Attain jobs task job end budget) → ⊥)
    → (command : Command) → Asks (codes "attain") rest command → ⊥
unfolding Asks
attain_refused rest none (Attain jobs task job end budget) asks = none jobs task job end budget asks.1 asks.2
attain_refused rest none other asks = names_differ (codes "attain") (name_of other) refl asks.0

-- nor do words that give no `report`
pub report_refused : (rest : List Text)
    → ((jobs cert : Text) (prec : Option Text) (cores : ℕ) (tasks : Bool) → IsInGrammar report_app rest → HasValues (value_at report_app rest) (Report jobs cert prec cores tasks) → ⊥)
    → (command : Command) → Asks (codes "report") rest command → ⊥
unfolding Asks
report_refused rest none (Report jobs cert prec cores tasks) asks = none jobs cert prec cores tasks asks.1 asks.2
report_refused rest none other asks = names_differ (codes "report") (name_of other) refl asks.0

-- nor do words that give no `selftest`
pub selftest_refused : (rest : List Text)
    → ((number cores : ℕ) → IsInGrammar selftest_app rest → HasValues (value_at selftest_app rest) (Selftest number cores) → ⊥)
    → (command : Command) → Asks (codes "selftest") rest command → ⊥
unfolding Asks
selftest_refused rest none (Selftest number cores) asks = none number cores asks.1 asks.2
selftest_refused rest none other asks = names_differ (codes "selftest") (name_of other) refl asks.0

-- nor do words that give no `convert`
pub convert_refused : (rest : List Text)
    → ((cert : Text) → IsInGrammar convert_app rest → HasValues (value_at convert_app rest) (Convert cert) → ⊥)
    → (command : Command) → Asks (codes "convert") rest command → ⊥
unfolding Asks
convert_refused rest none (Convert cert) asks = none cert asks.1 asks.2
convert_refused rest none other asks = names_differ (codes "convert") (name_of other) refl asks.0

-- nor do words that give no `audit`
pub audit_refused : (rest : List Text)
    → ((jobs scenario run : Text) (prec : Option Text) (cores : ℕ) → IsInGrammar audit_app rest → HasValues (value_at audit_app rest) (Audit jobs scenario run prec cores) → ⊥)
    → (command : Command) → Asks (codes "audit") rest command → ⊥
unfolding Asks
audit_refused rest none (Audit jobs scenario run prec cores) asks = none jobs scenario run prec cores asks.1 asks.2
audit_refused rest none other asks = names_differ (codes "audit") (name_of other) refl asks.0

-- nor do words that give no `unroll`
pub unroll_refused : (rest : List Text)
    → ((tasks : Text) (horizon : ℕ) (policy : Policy) → IsInGrammar unroll_app rest → HasValues (value_at unroll_app rest) (Unroll tasks horizon policy) → ⊥)
    → (command : Command) → Asks (codes "unroll") rest command → ⊥
unfolding Asks
unroll_refused rest none (Unroll tasks horizon policy) asks = none tasks horizon policy asks.1 asks.2
unroll_refused rest none other asks = names_differ (codes "unroll") (name_of other) refl asks.0

-- nor do words that give no `whatif`
pub whatif_refused : (rest : List Text)
    → ((jobs edits : Text) (prec : Option Text) (cores budget : ℕ) → IsInGrammar whatif_app rest → HasValues (value_at whatif_app rest) (WhatIf jobs edits prec cores budget) → ⊥)
    → (command : Command) → Asks (codes "whatif") rest command → ⊥
unfolding Asks
whatif_refused rest none (WhatIf jobs edits prec cores budget) asks = none jobs edits prec cores budget asks.1 asks.2
whatif_refused rest none other asks = names_differ (codes "whatif") (name_of other) refl asks.0

-- nor do words that give no `gap`
pub gap_refused : (rest : List Text)
    → ((jobs : Text) (prec : Option Text) (cores budget : ℕ) (trial : Option ℕ) → IsInGrammar gap_app rest → HasValues (value_at gap_app rest) (Gap jobs prec cores budget trial) → ⊥)
    → (command : Command) → Asks (codes "gap") rest command → ⊥
unfolding Asks
gap_refused rest none (Gap jobs prec cores budget trial) asks = none jobs prec cores budget trial asks.1 asks.2
gap_refused rest none other asks = names_differ (codes "gap") (name_of other) refl asks.0

-- a name that is no command's asks for nothing
pub unknown_refused : (name : Text) (rest : List Text) → (name ≡ codes "analyse" → ⊥) → (name ≡ codes "check" → ⊥) → (name ≡ codes "replay" → ⊥) → (name ≡ codes "attain" → ⊥) → (name ≡ codes "report" → ⊥)
    → (name ≡ codes "selftest" → ⊥) → (name ≡ codes "convert" → ⊥) → (name ≡ codes "audit" → ⊥) → (name ≡ codes "unroll" → ⊥) → (name ≡ codes "whatif" → ⊥) → (name ≡ codes "gap" → ⊥)
    → (command : Command) → Asks name rest command → ⊥
unfolding Asks
unknown_refused name rest analyse check replay attain report selftest convert audit unroll whatif gap (Analyse jobs prec cores budget) asks = analyse asks.0
unknown_refused name rest analyse check replay attain report selftest convert audit unroll whatif gap (Check jobs cert prec cores) asks = check asks.0
unknown_refused name rest analyse check replay attain report selftest convert audit unroll whatif gap (Replay jobs scenario prec cores) asks = replay asks.0
unknown_refused name rest analyse check replay attain report selftest convert audit unroll whatif gap (Attain jobs task job end budget) asks = attain asks.0
unknown_refused name rest analyse check replay attain report selftest convert audit unroll whatif gap (Report jobs cert prec cores tasks) asks = report asks.0
unknown_refused name rest analyse check replay attain report selftest convert audit unroll whatif gap (Selftest number cores) asks = selftest asks.0
unknown_refused name rest analyse check replay attain report selftest convert audit unroll whatif gap (Convert cert) asks = convert asks.0
unknown_refused name rest analyse check replay attain report selftest convert audit unroll whatif gap (Audit jobs scenario run prec cores) asks = audit asks.0
unknown_refused name rest analyse check replay attain report selftest convert audit unroll whatif gap (Unroll tasks horizon policy) asks = unroll asks.0
unknown_refused name rest analyse check replay attain report selftest convert audit unroll whatif gap (WhatIf jobs edits prec cores budget) asks = whatif asks.0
unknown_refused name rest analyse check replay attain report selftest convert audit unroll whatif gap (Gap jobs prec cores budget trial) asks = gap asks.0
