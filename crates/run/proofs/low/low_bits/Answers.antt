use Rattle.std.proofs.Common.{arith}
use Rattle.run.proofs.Laws.{low_read}
use Rattle.run.proofs.low.low_bits.Goals as goal

pub returns : goal.returns
returns c =
    low_read c.args.bytes.now c.args.at c.bits.result c.args.width.bits c.window.result (λ k. omega (arith, c.type_inv.bytes k)) c.bits.ensures.is c.bits.ensures.small c.window.ensures
