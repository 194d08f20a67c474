use Rattle.std.proofs.Common.{◌≡◌, ◌<◌, ◌+◌, ◌≤◌, ap, arith, length, ◌∙◌}
use Rattle.std.proofs.lemmas.List.{length_push}
use Rattle.job_model.specs.Marks.{unseen}
use Rattle.job_model.specs.declared.walk_back.Mark.TheVariants as mark
use Rattle.job_model.proofs.WalkBack.{HoldsCycle-behind, IsPath-finished, IsPath-next, before_in_range, fewer_next, finished_unseen, kept_entered, kept_finished, met_marked, on_path_unseen, unseen-finished, visit_in_range}
use Rattle.job_model.proofs.walk_back.walks_into_cycle.Goals as goal

pub returns-in-OnPath-look_behind-clause-cycle : goal.returns-in-OnPath-look_behind-clause-cycle
returns-in-OnPath-look_behind-clause-cycle c =
    HoldsCycle-behind c.args.edges.now c.loop-visit.marks c.pop.new.self.items c.in-Some.visit (rw c.in-Some.ensures.items at c.loop-visit.invariant.is_path) c.in-OnPath-look_behind.ensures

pub set_mark-requires-in-Finished : goal.set_mark-requires-in-Finished
set_mark-requires-in-Finished c =
    visit_in_range c.args.edges.now c.loop-visit.marks c.pop.new.self.items c.in-Some.visit (rw c.in-Some.ensures.items at c.loop-visit.invariant.is_path)

pub loop-visit-smaller-in-Finished : goal.loop-visit-smaller-in-Finished
loop-visit-smaller-in-Finished c =
    let is_job = visit_in_range c.args.edges.now c.loop-visit.marks c.pop.new.self.items c.in-Some.visit (rw c.in-Some.ensures.items at c.loop-visit.invariant.is_path) in
    let fewer : unseen c.set_mark-in-Finished.new.marks ≤ unseen c.loop-visit.marks = rw c.set_mark-in-Finished.ensures (unseen-finished c.loop-visit.marks c.in-Some.visit.job is_job) in
    let shorter : length c.loop-visit.path.items ≡ length c.pop.new.self.items + 1 = ap length c.in-Some.ensures.items ∙ length_push c.pop.new.self.items c.in-Some.visit in
    omega (arith, fewer, shorter)

pub loop-visit-preserved-in-Finished : goal.loop-visit-preserved-in-Finished
loop-visit-preserved-in-Finished c =
    let is = rw c.in-Some.ensures.items at c.loop-visit.invariant.is_path in
    let is_job = visit_in_range c.args.edges.now c.loop-visit.marks c.pop.new.self.items c.in-Some.visit is in
    rw c.set_mark-in-Finished.ensures (record {
      is_path = IsPath-finished c.args.edges.now c.loop-visit.marks c.pop.new.self.items c.in-Some.visit is c.in-Finished.ensures;
      met = met_marked c.loop-visit.marks c.in-Some.visit.job is_job mark.Finished finished_unseen c.args.job c.loop-visit.invariant.met;
      finished_kept = λ i e. kept_finished c.loop-visit.marks c.in-Some.visit.job is_job i (c.loop-visit.invariant.finished_kept i e);
    })

pub loop-visit-smaller : goal.loop-visit-smaller
loop-visit-smaller c =
    let found = c.in-Unseen-look_behind.ensures in
    let joins = before_in_range c.args.edges.now (length c.args.marks.now) c.in-Unseen-look_behind.before c.in-Some.visit.job c.requires.in_range found.1 in
    let is_job : c.in-Unseen-look_behind.before < length c.loop-visit.marks = omega (arith, joins) in
    let fewer : unseen c.set_mark-in-Unseen-look_behind.new.marks + 1 ≡ unseen c.loop-visit.marks = rw c.set_mark-in-Unseen-look_behind.ensures (fewer_next c.loop-visit.marks c.in-Unseen-look_behind.before is_job found.2) in
    omega (arith, fewer, ap length c.in-Some.ensures.items, length_push c.pop.new.self.items c.in-Some.visit)

pub loop-visit-preserved : goal.loop-visit-preserved
loop-visit-preserved c =
    let edges = c.args.edges.now in
    let marks = c.loop-visit.marks in
    let found = c.in-Unseen-look_behind.ensures in
    let is = rw c.in-Some.ensures.items at c.loop-visit.invariant.is_path in
    let joins = before_in_range edges (length c.args.marks.now) c.in-Unseen-look_behind.before c.in-Some.visit.job c.requires.in_range found.1 in
    let is_job : c.in-Unseen-look_behind.before < length marks = omega (arith, joins) in
    rw (c.set_mark-in-Unseen-look_behind.ensures, c.in_ok-push-in-Unseen-look_behind-2.ensures.items, c.in_ok-push-in-Unseen-look_behind.ensures.items) (record {
      is_path = IsPath-next edges marks c.pop.new.self.items c.in-Some.visit is c.in-Unseen-look_behind.passed found.0 c.in-Unseen-look_behind.before is_job found.2 found.1;
      met = met_marked marks c.in-Unseen-look_behind.before is_job mark.OnPath on_path_unseen c.args.job c.loop-visit.invariant.met;
      finished_kept = λ i e. kept_entered marks c.in-Unseen-look_behind.before is_job found.2 i (c.loop-visit.invariant.finished_kept i e);
    })
