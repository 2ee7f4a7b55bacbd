use Rattle.std.proofs.Common.{arith}
use Rattle.run.specs.Packed.{numbers}
use Rattle.run.proofs.Goods.{good_most}
use Rattle.run.proofs.PackedParts.{numbers_length}
use Rattle.run.proofs.packed.Part.good_held.Goals as goal

pub overflow_add-k : goal.overflow_add-k
overflow_add-k c = let s = c.args.self in omega (arith, good_most c.args.limit (numbers s), numbers_length s)

pub returns : goal.returns
returns c = let r = c.loop-rest.rest in omega (arith, good_most c.args.limit (numbers r), numbers_length r)
