use Rattle.std.proofs.Common.{◌≡◌, ◌*◌, map, take}
use Rattle.stream.specs.Packing.{low_first}
use Rattle.run.proofs.low.by_groups.Given as goal

abbrev pub invariant-loop-g : goal.invariant-loop-g
invariant-loop-g g l = take (8 * l.g) l.out ≡ map g.T.Number.from (low_first g.row.W (8 * l.g) l.bytes)
