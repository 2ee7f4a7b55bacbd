-- What a call for levels replies and leaves, as a function of the levels to come, the open record and the area's room.
use Rattle.std.specs.Prelude.{ℕ, min, Bool, false, cond, ◌&&◌, List, count_by, map, take, Ok, Err, Result, ◌==◌, nat_lt}
use Rattle.stream.specs.Streams.{Stream, ended, clean}
use Rattle.run.specs.declared.kind.StreamFault.{StreamFault}
use Rattle.run.specs.Reading.{fails, given, after}
use Rattle.area.specs.declared.area.Area.{Area}
use Rattle.area.specs.Areas.{room, appended, blanked}
use Rattle.level_bytes.specs.declared.fault.LevelFault.TheVariants.{Unreadable}
use Rattle.level.specs.declared.refusal.LevelRefusal.{LevelRefusal}
use Rattle.level.specs.declared.refusal.LevelRefusal.TheVariants.{Fault, NoRoom}
use Rattle.level.specs.declared.course.Course.{Course}

-- a call that meets a fault
abbrev pub broken : Result Course StreamFault
broken = Err (record {})

-- it took all levels that were asked for, and an area with room for `n` does not hold them
abbrev pub no_room : ℕ → Course → Bool
no_room n c = c.full && nat_lt n c.taken

-- what comes of a call where there is room for `n` levels: a fault refuses it, whatever the room
abbrev pub admitted : ℕ → Result Course StreamFault → Result Course LevelRefusal
admitted n (Err _) = Err (Fault Unreadable)
admitted n (Ok c) = cond (no_room n c) (Err NoRoom) (Ok c)

-- what a call replies that was taken or refused
abbrev pub reply_of : Result Course LevelRefusal → Result (ℕ × ℕ) LevelRefusal
reply_of (Ok c) = Ok (c.told, c.taken)
reply_of (Err e) = Err e

-- what is to come after it: after a refusal nothing, and a clean end
abbrev pub left_of : Result Course LevelRefusal → Stream → Stream
left_of (Ok c) s = after c.taken s
left_of (Err e) s = ended clean

-- whether a record is open after it: after a refusal none is
abbrev pub open_of : Result Course LevelRefusal → Bool
open_of (Ok c) = c.opened
open_of (Err e) = false

-- what the area holds after it, with `f x` for the level `x` and the blank `b`: the levels that were taken, or the front of them that fits; after a refusal
-- what was filled before, and blanks behind it
abbrev pub area_of : {X : Type 0} → (ℕ → X) → X → Result Course LevelRefusal → Stream → Area X → Area X
area_of f b (Ok c) s a = appended a (map f (take (min c.taken (room a)) s.numbers))
area_of f b (Err e) s a = blanked b a a.count

-- the same of a call where there is room for `n` levels
abbrev pub reply : ℕ → Result Course StreamFault → Result (ℕ × ℕ) LevelRefusal
reply n c = reply_of (admitted n c)

abbrev pub left : ℕ → Result Course StreamFault → Stream → Stream
left n c s = left_of (admitted n c) s

abbrev pub open_after : ℕ → Result Course StreamFault → Bool
open_after n c = open_of (admitted n c)

-- and of one for an area
abbrev pub area_after : {X : Type 0} → (ℕ → X) → X → Result Course StreamFault → Stream → Area X → Area X
area_after f b c s a = area_of f b (admitted (room a) c) s a

-- how many of the levels equal the maximum
abbrev pub equal_to : ℕ → List ℕ → ℕ
equal_to max xs = count_by (λ x. x == max) xs

-- a call for `m` definition levels: it takes them, or those before a clean end, and tells how many equal the maximum
abbrev pub def_course : ℕ → ℕ → Stream → Result Course StreamFault
def_course max m s =
    cond (fails m s) broken
    (Ok (record { full = (given m s == m); taken = given m s; told = equal_to max (take m s.numbers); opened = false }))
