use Rattle.stream.proofs.Encoding.{classified}
use Rattle.stream.proofs.theorems.clean_is_encoded_or_ours.Goals as goal

pub returns : goal.returns
returns c = classified
