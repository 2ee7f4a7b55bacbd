use Rattle.std.proofs.Common.{◌≡◌, take, replicate}
use Rattle.element.proofs.slices.fill_all.Given as goal

abbrev pub invariant-loop-slot : goal.invariant-loop-slot
invariant-loop-slot g l = take l.slot-index l.out ≡ replicate l.slot-index l.x
