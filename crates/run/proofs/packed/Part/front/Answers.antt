use Rattle.run.proofs.PackedParts.{part_front}
use Rattle.run.proofs.packed.Part.front.Goals as goal

pub returns-clause-numbers : goal.returns-clause-numbers
returns-clause-numbers c = let s = c.args.self in part_front s.order s.width.bits s.skip c.args.n s.count s.bytes.now c.requires
