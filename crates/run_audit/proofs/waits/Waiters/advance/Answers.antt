use Rattle.run_audit.proofs.WaiterLemmas.{FindsWaiter-found, HasAllReady-drops}
use Rattle.run_audit.proofs.waits.Waiters.advance.Goals as goal

pub returns-clause-stands : goal.returns-clause-stands
returns-clause-stands c = HasAllReady-drops c.args.entries.now c.args.order.now c.requires.order c.args.now c.admit.new.self c.first.new.self c.in_ok-admit.ensures c.first.ensures.drops

pub returns-clause-first : goal.returns-clause-first
returns-clause-first c = FindsWaiter-found c.args.entries.now c.args.order.now c.requires.order c.args.now c.admit.new.self c.first.result c.in_ok-admit.ensures c.first.ensures.found
