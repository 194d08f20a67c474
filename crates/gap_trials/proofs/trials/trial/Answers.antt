use Rattle.std.proofs.Common.{◌≡◌, ◌∙◌, ℕ, List, true, false, ap, subst, sym}
use Rattle.std.specs.Prelude.{IfOk, nat_le}
use Rattle.std.proofs.lemmas.Bool.{and_parts, leb-true}
use Rattle.sag_graph.specs.Graph.{graph_of}
use Rattle.gap_trials.specs.Trials.{has_extremes, is_extreme_trial}
use Rattle.gap_trials.proofs.FittingTrials.{is_the_extreme, is_the_plain, no_edges, one_core_is}
use Rattle.gap_trials.proofs.trials.trial.Goals as goal

pub extreme_trial-requires : goal.extreme_trial-requires
extreme_trial-requires c =
    let table = c.args.table.now in
    let has : is_extreme_trial table c.args.cores c.args.k ≡ true = sym c.is_extreme_trial.ensures ∙ c.if-is_extreme_trial.true in
    let parts = and_parts (nat_le 4 c.args.k) (has_extremes table c.args.cores) has in
    record {
      no_edges = no_edges table c.args.cores parts.1;
      graph = c.requires.graph ∙ ap (graph_of table) (one_core_is table c.args.cores parts.1);
      first = leb-true 4 c.args.k parts.0;
      last = c.requires.trial;
    }

pub returns-then-is_extreme_trial-clause-trial : goal.returns-then-is_extreme_trial-clause-trial
returns-then-is_extreme_trial-clause-trial c =
    let has : is_extreme_trial c.args.table.now c.args.cores c.args.k ≡ true = sym c.is_extreme_trial.ensures ∙ c.if-is_extreme_trial.true in
    subst (λ (t : List (ℕ × ℕ)). IfOk c.extreme_trial.result (λ s. s ≡ t)) (is_the_extreme c.args.table.now c.args.cores c.args.k has) c.extreme_trial.ensures.extreme

pub returns-else-is_extreme_trial-clause-trial : goal.returns-else-is_extreme_trial-clause-trial
returns-else-is_extreme_trial-clause-trial c =
    let none : is_extreme_trial c.args.table.now c.args.cores c.args.k ≡ false = sym c.is_extreme_trial.ensures ∙ c.if-is_extreme_trial.false in
    subst (λ (t : List (ℕ × ℕ)). IfOk c.plain_trial.result (λ s. s ≡ t)) (is_the_plain c.args.table.now c.args.cores c.args.k none) c.plain_trial.ensures.trial
