use Rattle.std.proofs.Common.{◌≡◌, ◌+◌, ◌-◌, ◌<◌, ◌∷◌, suc, List, length, map, min, drop, ap, sym, ◌∙◌, arith}
use Rattle.job_model.specs.Table.{job_at}
use Rattle.start_windows.specs.declared.eligibility.Prospect.{Prospect}
use Rattle.start_windows.specs.Window.{ready_beside}
use Rattle.start_windows.specs.Prospects.{capped, jobs_of, window_of}
use Rattle.start_windows.proofs.Caps.{capped-le, left, left-taken, left-late, window_of-none}
use Rattle.start_windows.proofs.Collecting.{looked_at, rest_more}
use Rattle.start_windows.proofs.Sweep.{ready_beside-above}
use Rattle.start_windows.proofs.eligibility.window_beside.Goals as goal
use Rattle.start_windows.proofs.eligibility.window_beside.Goals.{then-other-lst+else-limit-est, else-other-lst}

pub returns-then-last-est : goal.returns-then-last-est
returns-then-last-est c =
    let limits = map (ready_beside c.args.table.now c.args.ends.now.items c.args.job) (jobs_of c.args.urgent.now) in
    sym (window_of-none c.args.est (capped (suc c.args.last) limits) (omega (arith, capped-le (suc c.args.last) limits)))

pub loop-other-preserved : goal.loop-other-preserved
loop-other-preserved c =
    let table = c.args.table.now in
    let ends = c.args.ends.now.items in
    let urgent = c.args.urgent.now in
    let f = ready_beside table ends c.args.job in
    let est = c.args.est in
    let lst = c.loop-other.lst in
    let x = c.other-item.result in
    let rest = drop (c.loop-other.other-index + 1) urgent in
    let below : c.loop-other.other-index < length urgent = omega arith in
    let here = rest_more urgent c.loop-other.other-index x below c.other-item.is in
    let looked = looked_at table ends urgent c.loop-other.other-index x c.requires.prospects below c.other-item.is in
    let released : x.released ≡ (job_at table x.job).rmax = ap (λ (y : Prospect). y.released) looked.0 in
    let back : left f est lst (x ∷ rest) ≡ window_of est (capped (suc c.args.last) (map f (jobs_of urgent))) = ap (λ (l : List Prospect). left f est lst l) (sym here) ∙ c.loop-other.invariant.window in
    elim c.if-other-lst.branch [
      | then-other-lst+else-limit-est w ↦
          let limit = w.ready_once-limit.result in
          let is : c.if-other-lst.lst ≡ min lst (limit - 1) = w.lst-is ∙ w.min-lst.ensures in
          let after : est < limit = omega arith in
          let step = left-taken f est lst limit x rest w.ready_once-limit.ensures after in
          record { in_order = omega (arith, is, after); window = ap (λ n. left f est n rest) is ∙ step ∙ back }
      | else-other-lst w ↦
          let late : lst < f x.job = omega (arith, w.if-other-lst.false, released, ready_beside-above table ends c.args.job x.job) in
          record { in_order = omega (arith, w.lst-is); window = ap (λ n. left f est n rest) w.lst-is ∙ left-late f est lst x rest late ∙ back }
    ]
