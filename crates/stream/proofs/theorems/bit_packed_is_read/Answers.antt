use Rattle.stream.proofs.BitPacked.{reads}
use Rattle.stream.proofs.theorems.bit_packed_is_read.Goals as goal

pub returns : goal.returns
returns c = reads
