use Rattle.std.proofs.Common.{◌≡◌, map, take}
use Rattle.run.specs.Packed.{numbers}
use Rattle.run.proofs.packed.Part.one_by_one.Given as goal

abbrev pub invariant-loop-i : goal.invariant-loop-i
invariant-loop-i g l = take l.i l.out ≡ map g.T.Number.from (take l.i (numbers l.self))
