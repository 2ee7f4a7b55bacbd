-- Where a call for records stops.
use Rattle.std.specs.Prelude.{ℕ, ◌+◌, ◌-◌, Bool, true, false, cond, not, ◌&&◌, ◌||◌, List, [], ◌∷◌, take, Ok, Result, ◌==◌, nat_le}
use Rattle.stream.specs.Streams.{Stream}
use Rattle.run.specs.declared.kind.StreamFault.{StreamFault}
use Rattle.run.specs.Reading.{fails}
use Rattle.level.specs.declared.course.Course.{Course}
use Rattle.level.specs.declared.asked.Asked.{Asked}
use Rattle.level.specs.declared.walk.Walk.{Walk}
use Rattle.level.specs.Courses.{broken}

-- levels that were walked over, then the walk `w` behind them
abbrev pub joined : Walk → Walk → Walk
joined v w = record { taken = v.taken + w.taken; closed = v.closed + w.closed; opened = w.opened; stopped = w.stopped }

-- one level, which closes `k` records and leaves one open
abbrev pub one : ℕ → Walk
one k = record { taken = 1; closed = k; opened = true; stopped = false }

-- no level, with a record open or not
abbrev pub none : Bool → Walk
none o = record { taken = 0; closed = 0; opened = o; stopped = false }

-- before a 0 that closes the last record
abbrev pub last : Walk
last = record { taken = 0; closed = 1; opened = false; stopped = true }

-- Level by level until `q` records are closed: a 0 met with a record open closes it, and the walk stops before the 0 that closes the last.
abbrev pub walk : Bool → ℕ → List ℕ → Walk
walk o q [] = none o
walk o q (x ∷ xs) = cond (o && x == 0) (cond (nat_le q 1) last (joined (one 1) (walk true (q - 1) xs))) (joined (one 0) (walk true q xs))

-- how many levels a call may take: none where it asks for no record
abbrev pub asked : ℕ → ℕ → ℕ
asked q m = cond (q == 0) 0 m

-- what a walk makes of a call, which has all that was asked for or not
abbrev pub found : Walk → Bool → Course
found w f = record { full = f; taken = w.taken; told = w.closed; opened = w.opened }

-- what the walk over the next `m` levels makes of a call: one that was not stopped before meets the fault or the end behind them
abbrev pub by_walk : Walk → ℕ → Stream → Result Course StreamFault
by_walk w m s = cond (not w.stopped && fails m s) broken (Ok (found w (w.stopped || (w.taken == m))))

-- a call for `q` records and `m` levels, with a record open or not
abbrev pub rep_course : Bool → ℕ → ℕ → Stream → Result Course StreamFault
rep_course o q m s = by_walk (walk o q (take (asked q m) s.numbers)) (asked q m) s

-- the same of what is asked for
abbrev pub course_of : Asked → Stream → Result Course StreamFault
course_of a s = by_walk (walk a.opened a.records (take a.levels s.numbers)) a.levels s
