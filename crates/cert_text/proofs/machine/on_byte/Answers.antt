use Rattle.cert_text.proofs.machine.on_byte.Goals as goal

pub returns-in-Forked : goal.returns-in-Forked
returns-in-Forked c = rw c.in-Forked.is (c.second_byte.ensures c.args.grammar c.args.standing c.args.draft.now)

pub returns-in-PairGap : goal.returns-in-PairGap
returns-in-PairGap c = rw c.in-PairGap.is (c.behind_pair.ensures c.args.standing)

pub returns-in-EndGap : goal.returns-in-EndGap
returns-in-EndGap c = rw c.in-EndGap.is (c.behind_end.ensures c.args.standing)

pub returns-in-MarkDue : goal.returns-in-MarkDue
returns-in-MarkDue c = rw c.in-MarkDue.is (c.first_mark_byte.ensures c.args.grammar c.args.standing c.args.draft.now)
