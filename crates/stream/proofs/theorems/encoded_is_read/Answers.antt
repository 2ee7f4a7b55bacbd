use Rattle.stream.proofs.Encoding.{reads}
use Rattle.stream.proofs.theorems.encoded_is_read.Goals as goal

pub returns : goal.returns
returns c = reads
