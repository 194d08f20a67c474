use Rattle.std.proofs.Common.{◌∙◌, ap, ap₂, arith, map, string_bytes, sym}
use Rattle.std.proofs.lemmas.List.{take_all}
use Rattle.clap.specs.Words.{fault_of, is_simple_and_free, matches_of, with_rule}
use Rattle.sag_words.specs.Apps.{IsInGrammar, app_with, argument_rule}
use Rattle.sag_words.proofs.AppLemmas.{faulty, left_of_and, rules-take_more}
use Rattle.sag_words.proofs.parse.matched.Goals as goal

pub loop-argument-preserved : goal.loop-argument-preserved
loop-argument-preserved c =
    let more = rules-take_more c.args.arguments.now c.loop-argument.argument-index _ (omega arith) in
    c.in_ok-command.ensures.shape c.arg_of.ensures.own ∙ ap₂ with_rule c.loop-argument.invariant c.arg_of.ensures.rule
    ∙ ap (app_with c.args.name.now) (sym more)

pub returns-in-Ok-clause-takes : goal.returns-in-Ok-clause-takes
unfolding IsInGrammar
returns-in-Ok-clause-takes c =
    let whole = take_all c.loop-argument.argument-index c.args.arguments.now (omega arith) in
    let app = c.loop-argument.invariant ∙ ap (λ arguments. app_with c.args.name.now (map argument_rule arguments)) whole in
    sym (ap (λ a. fault_of a (map string_bytes c.args.words.now)) app) ∙ c.in-Ok.ensures.kinds (ap is_simple_and_free app ∙ c.requires)

pub returns-in-Ok-clause-reads : goal.returns-in-Ok-clause-reads
returns-in-Ok-clause-reads c =
    let whole = take_all c.loop-argument.argument-index c.args.arguments.now (omega arith) in
    let app = c.loop-argument.invariant ∙ ap (λ arguments. app_with c.args.name.now (map argument_rule arguments)) whole in
    let simple = left_of_and _ _ (ap is_simple_and_free app ∙ c.requires) in
    (c.in-Ok.ensures.matches simple).0 ∙ ap (λ a. matches_of a (map string_bytes c.args.words.now)) app

pub returns-clause-usage : goal.returns-clause-usage
unfolding IsInGrammar
returns-clause-usage c u taken =
    let whole = take_all c.loop-argument.argument-index c.args.arguments.now (omega arith) in
    let app = c.loop-argument.invariant ∙ ap (λ arguments. app_with c.args.name.now (map argument_rule arguments)) whole in
    let kinds = c.in-Err.ensures.kinds (ap is_simple_and_free app ∙ c.requires) in
    let same = ap (λ a. fault_of a (map string_bytes c.args.words.now)) app in
    faulty _ c.in-Err.error kinds (λ memory. c.in_default.not-OutOfMemory (c.kind.ensures ∙ memory)) (same ∙ taken)
