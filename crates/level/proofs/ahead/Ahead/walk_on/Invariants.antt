use Rattle.std.proofs.Common.{◌≡◌, ◌-◌, min, map, take}
use Rattle.area.specs.Areas.{room, appended}
use Rattle.level.specs.Levels.{level}
use Rattle.level.specs.Lookahead.{coming}
use Rattle.level.proofs.Stands.{Stands}
use Rattle.level.proofs.ahead.Ahead.walk_on.Given as goal

abbrev pub invariant-walks : goal.invariant-walks
invariant-walks l = record {
  stands : Stands l.asked (coming l.initial.self) l.walk (coming l.self);
  holds : l.out ≡ appended l.initial.out (map level (take (min l.walk.taken (room l.initial.out)) (coming l.initial.self).numbers));
}

abbrev pub decreases-walks : goal.decreases-walks
decreases-walks l = l.asked.levels - l.walk.taken
