use Rattle.level_bytes.proofs.Widths.{wide}
use Rattle.level_bytes.proofs.width.level_width.Goals as goal

pub returns : goal.returns
returns c = let w = wide c.args.max_level c.leading_zeros.result c.ranges.max_level c.if-max_level-le0.false c.leading_zeros.ensures in record { is = w.is; bits = w.bits_of; small = w.small }
