use Rattle.graph_check.proofs.offer_walk.OfferWalk.is_covered_by.Given as goal

abbrev pub ghosts-make_next : goal.ghosts-make_next
ghosts-make_next a = record { name = a.blank.name; parts = a.blank.parts }
