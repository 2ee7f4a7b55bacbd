use Rattle.stream.proofs.Encoding.{encoded}
use Rattle.stream.proofs.theorems.read_is_encoded.Goals as goal

pub returns : goal.returns
returns c = encoded
