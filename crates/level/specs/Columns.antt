-- Where a decoder stands, and where a call leaves it.
use Rattle.std.specs.Prelude.{ℕ, Bool, Result}
use Rattle.stream.specs.Streams.{Stream}
use Rattle.run.specs.declared.kind.StreamFault.{StreamFault}
use Rattle.level.specs.declared.course.Course.{Course}
use Rattle.level.specs.Courses.{left, open_after, def_course}
use Rattle.level.specs.Records.{rep_course}

-- the greatest level, the levels to come, and whether a record is open
pub record Column : Type 0 where
  pub maximum : ℕ
  pub levels : Stream
  pub opened : Bool

-- what a call for `m` definition levels comes to there
abbrev pub def_call : ℕ → Column → Result Course StreamFault
def_call m d = def_course d.maximum m d.levels

-- what a call for `q` records and `m` levels comes to there
abbrev pub rep_call : ℕ → ℕ → Column → Result Course StreamFault
rep_call q m d = rep_course d.opened q m d.levels

-- where a call leaves it, where there is room for `n` levels
abbrev pub after_call : ℕ → Result Course StreamFault → Column → Column
after_call n c d = record { maximum = d.maximum; levels = left n c d.levels; opened = open_after n c }
