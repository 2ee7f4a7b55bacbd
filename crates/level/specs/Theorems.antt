-- What decoders have in common, and what two calls are.
use Rattle.std.specs.Prelude.{◌≡◌, ℕ, ◌+◌, ◌≤◌, Bool, ◌++◌, length, take, ℤ, pos, Ok, Err, Result}
use Rattle.stream.specs.Streams.{Stream}
use Rattle.run.specs.declared.kind.StreamFault.{StreamFault}
use Rattle.run.specs.declared.reader.RunReader.{RunReader}
use Rattle.run.specs.Coming.{to_come}
use Rattle.run.specs.Reading.{after}
use Rattle.area.specs.declared.area.Area.{Area}
use Rattle.level.specs.declared.ahead.Ahead.{Ahead}
use Rattle.level.specs.declared.course.Course.{Course}
use Rattle.level.specs.declared.definition.DefinitionLevelDecoderImpl.{DefinitionLevelDecoderImpl}
use Rattle.level.specs.declared.repetition.RepetitionDecoder.{RepetitionDecoder}
use Rattle.level.specs.Courses.{reply, left, open_after, area_after, def_course}
use Rattle.level.specs.Levels.{level}
use Rattle.level.specs.Lookahead.{coming}
use Rattle.level.specs.Records.{rep_course}

-- a call of a decoder of repetition levels, with the levels `s` to come and a record open or not, and of another
pub record SameRep (s t : Stream) (o p : Bool) (room q m : ℕ) : Type 0 where
  pub told : reply room (rep_course o q m s) ≡ reply room (rep_course p q m t)
  pub comes : left room (rep_course o q m s) s ≡ left room (rep_course p q m t) t
  pub closed : open_after room (rep_course o q m s) ≡ open_after room (rep_course p q m t)
  pub holds : (a : Area ℤ) → area_after level (pos 0) (rep_course o q m s) s a ≡ area_after level (pos 0) (rep_course p q m t) t a

-- Where the plain decoder and the one that works ahead mean the same, each call replies the same and fills an area with the same, and they mean the same again.
abbrev pub RepAlike : Type 0
RepAlike =
    (x : RepetitionDecoder RunReader) (y : RepetitionDecoder Ahead) → to_come x.source ≡ coming y.source → x.partial ≡ y.partial
    → (room q m : ℕ) → SameRep (to_come x.source) (coming y.source) x.partial y.partial room q m

-- the same of decoders of definition levels
pub record SameDef (s t : Stream) (max room m : ℕ) : Type 0 where
  pub told : reply room (def_course max m s) ≡ reply room (def_course max m t)
  pub comes : left room (def_course max m s) s ≡ left room (def_course max m t) t

-- Where decoders of any two kinds of level mean the same, as that of levels and that of a mask, each call replies the same, and they mean the same again.
abbrev pub DefAlike : Type 0 → Type 0 → Type 0
DefAlike A B =
    (x : DefinitionLevelDecoderImpl A) (y : DefinitionLevelDecoderImpl B) → to_come x.reader ≡ to_come y.reader
    → (max room m : ℕ) → SameDef (to_come x.reader) (to_come y.reader) max room m

-- a call that took `c`, and one behind it, as one call
abbrev pub behind : Course → Result Course StreamFault → Result Course StreamFault
behind c (Err e) = Err e
behind c (Ok d) = Ok (record { full = d.full; taken = c.taken + d.taken; told = c.told + d.told; opened = d.opened })

-- A call for `n` definition levels and then one for `m`, and one call for `n + m`.
pub record Added (max : ℕ) (s : Stream) (n m : ℕ) : Type 0 where
  pub course : Course
  pub first : def_course max n s ≡ Ok course
  pub many : course.taken ≡ n
  pub both : def_course max (n + m) s ≡ behind course (def_course max m (after n s))
  pub levels : take (n + m) s.numbers ≡ take n s.numbers ++ take m (after n s).numbers
  pub rest : after (n + m) s ≡ after m (after n s)

-- Where the first call's levels are all there, the two calls are the one.
abbrev pub Adds : Type 0
Adds = (max : ℕ) (s : Stream) (n m : ℕ) → n ≤ length s.numbers → Added max s n m
