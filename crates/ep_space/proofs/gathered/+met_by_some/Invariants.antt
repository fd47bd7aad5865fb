use Rattle.ep_space.proofs.gathered.+met_by_some.Given as goal

abbrev pub decreases-met_by_some : goal.decreases-met_by_some
decreases-met_by_some l = l.doublings
