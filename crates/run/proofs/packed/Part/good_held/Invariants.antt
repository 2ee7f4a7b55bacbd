use Rattle.std.proofs.Common.{◌≡◌, ◌+◌, length}
use Rattle.run.specs.Packed.{numbers, good}
use Rattle.run.proofs.packed.Part.good_held.Given as goal

abbrev pub invariant-loop-rest : goal.invariant-loop-rest
invariant-loop-rest l = (l.k + good l.limit (numbers l.rest) ≡ good l.limit (numbers l.self)) × (length l.held ≡ 256)

abbrev pub decreases-loop-rest : goal.decreases-loop-rest
decreases-loop-rest l = l.rest.count
