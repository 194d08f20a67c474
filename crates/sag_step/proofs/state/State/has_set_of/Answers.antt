use Rattle.std.proofs.Common.{◌≡◌, ◌∙◌, ap, sym}
use Rattle.job_sets.specs.Subset.{Subset}
use Rattle.sag_step.specs.State.{HeldState}
use Rattle.sag_step.specs.Widen.{same_set}
use Rattle.sag_step.proofs.Sets.{same_set-from}
use Rattle.sag_step.proofs.state.State.has_set_of.Goals as goal

pub returns : goal.returns
returns c =
    let own : c.self.inside.set ≡ c.args.self.now.state.set = ap (λ (h : HeldState). h.state.set) c.self.view_is in
    let fellow : c.other.inside.set ≡ c.args.other.now.state.set = ap (λ (h : HeldState). h.state.set) c.other.view_is in
    let size = ap (λ (s : Subset). s.size) own ∙ c.requires ∙ ap (λ (s : Subset). s.size) (sym fellow) in
    same_set-from c.same.result c.self.inside.set c.other.inside.set size c.same.ensures ∙ (λ k. same_set (own k) (fellow k))
