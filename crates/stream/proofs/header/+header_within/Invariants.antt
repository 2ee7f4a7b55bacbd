use Rattle.stream.proofs.header.+header_within.Given as goal

abbrev pub decreases-header_within : goal.decreases-header_within
decreases-header_within l = l.k
