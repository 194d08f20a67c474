use Rattle.job_model.proofs.RankLemmas.{HasKeys, HasRanks, IsUrgencyOrder}
use Rattle.job_model.proofs.ranks.ranks.Given as goal

-- the jobs so far are there
abbrev pub invariant-loop-i : goal.invariant-loop-i
invariant-loop-i l = HasKeys l.jobs l.i l.order.items

-- the jobs at the places so far have their ranks
abbrev pub invariant-loop-place : goal.invariant-loop-place
invariant-loop-place l = record { sorted : IsUrgencyOrder l.jobs l.entry-items; ranks : HasRanks l.jobs l.entry-items l.place l.ranks.items }
