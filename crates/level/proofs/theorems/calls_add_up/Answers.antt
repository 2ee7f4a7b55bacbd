use Rattle.level.proofs.Alike.{adds}
use Rattle.level.proofs.theorems.calls_add_up.Goals as goal

pub returns : goal.returns
returns c = adds
