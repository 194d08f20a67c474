use Rattle.std.proofs.Common.{◌≡◌, None, ap, map, replicate, refl, ◌∙◌}
use Rattle.graph_check.proofs.JobLists.{no-hulls}
use Rattle.graph_check.proofs.progress.Progress.new.Goals as goal

pub returns : goal.returns
returns c =
    let jobs = c.args.table.now.jobs in
    let hulls : c.in_ok-hulls.hulls ≡ map (λ _. None) jobs = c.in_ok-hulls.ensures ∙ ap (λ n. replicate n None) c.len.ensures.count ∙ no-hulls jobs in
    rw (c.in_ok-new.ensures, c.new-2.ensures.items, c.new-3.ensures.items, hulls) refl
