use Rattle.std.proofs.Common.{◌≡◌, map, take}
use Rattle.stream.specs.Packing.{low_first}
use Rattle.run.proofs.low.group.Given as goal

abbrev pub invariant-loop-k : goal.invariant-loop-k
invariant-loop-k g l = take l.k l.out ≡ map g.T.Number.from (take l.k (low_first g.row.W 8 l.bytes))
