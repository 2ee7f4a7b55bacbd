use Rattle.run.proofs.Sums.{adds}
use Rattle.run.proofs.theorems.calls_add_up.Goals as goal

pub returns : goal.returns
returns c = adds
