use Rattle.std.proofs.Common.{◌≡◌, map, take}
use Rattle.element.proofs.slices.write_each.Given as goal

abbrev pub invariant-loop-i : goal.invariant-loop-i
invariant-loop-i g l = take l.i l.out ≡ map g.T.Number.from (take l.i l.numbers)
