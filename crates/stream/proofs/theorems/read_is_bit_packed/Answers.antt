use Rattle.stream.proofs.BitPacked.{lies}
use Rattle.stream.proofs.theorems.read_is_bit_packed.Goals as goal

pub returns : goal.returns
returns c = lies
