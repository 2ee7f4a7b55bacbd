use Rattle.std.proofs.Common.{arith}
use Rattle.run.proofs.Highs.{high_read}
use Rattle.run.proofs.high.high_bits.Goals as goal

pub returns : goal.returns
returns c =
    high_read c.args.bytes.now c.args.at c.bits-width.result c.args.width.bits c.window.result c.swap_bytes.result (λ k. omega (arith, c.type_inv.bytes k)) c.bits-width.ensures.is
    c.bits-width.ensures.small c.requires c.window.ensures c.swap_bytes.ensures
