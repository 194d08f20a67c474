use Rattle.std.proofs.Common.{◌≡◌, ◌++◌, ◌∷◌, ◌+◌, [], ap, drop, map, ◌∙◌}
use Rattle.cert_text.specs.declared.line.EndOf.{EndOf}
use Rattle.lists.proofs.Elements.{drop_next}
use Rattle.graph_builder.proofs.StateLineLemmas.{end_line}
use Rattle.graph_builder.proofs.TextLemmas.{moved}
use Rattle.graph_builder.proofs.state_line.ends_of.Goals as goal

pub loop-place-preserved : goal.loop-place-preserved
loop-place-preserved c =
    let items = c.ends-ends.result.now.items in
    let place = c.loop-place.place in
    let e = c.at-job.result in
    let item : record { job = c.from.result; lo = c.lo.result; hi = c.hi.result } ≡ end_line e =
    (let job : c.from.result ≡ e.0 = cc in λ i. record { job = job i; lo = c.lo.ensures.lo i; hi = c.hi.ensures.hi i }) in
    let pushed : c.push.new.self ≡ c.loop-place.list ++ end_line e ∷ [] = c.in_ok-push.ensures.ok ∙ ap (λ (x : EndOf). c.loop-place.list ++ x ∷ []) item in
    ap (λ l. l ++ map end_line (drop (place + 1) items)) pushed
    ∙ moved c.loop-place.list (end_line e) (map end_line (drop (place + 1) items)) (map end_line (drop place items)) _
    (ap (map end_line) (drop_next items place e c.at-job.ensures.item)) c.loop-place.invariant
