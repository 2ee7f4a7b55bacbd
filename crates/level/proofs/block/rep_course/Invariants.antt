use Rattle.std.proofs.Common.{◌-◌}
use Rattle.run.specs.Coming.{to_come}
use Rattle.level.proofs.Stands.{Stands}
use Rattle.level.proofs.block.rep_course.Given as goal

abbrev pub invariant-walks : goal.invariant-walks
invariant-walks l = Stands l.asked (to_come l.reader) l.walk (to_come l.ahead)

abbrev pub decreases-walks : goal.decreases-walks
decreases-walks l = l.asked.levels - l.walk.taken
