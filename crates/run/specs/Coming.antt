-- What a reader is still to give.
use Rattle.std.specs.Prelude.{◌≡◌, ◌<◌, ◌≤◌, ◌⊎◌, ℕ, List, [], take, Bool, true, false, Result, Ok, Err, length}
use Rattle.stream.specs.Streams.{Stream, within, hybrid, ended, clean, fault}
use Rattle.run.specs.Runs.{left_of}
use Rattle.run.specs.Reading.{onto}
use Rattle.run.specs.declared.kind.StreamFault.{StreamFault}
use Rattle.run.specs.declared.reader.RunReader.{RunReader}

-- the numbers left of the run that is being read, held against the limit, then what the bytes behind it mean
abbrev pub to_come : RunReader → Stream
to_come r = within r.limit (left_of r.run) (hybrid r.width.bits r.limit r.bytes.now)

-- the next `n` numbers of the run that is being read
abbrev pub next_of : RunReader → ℕ → List ℕ
next_of r n = take n (left_of r.run)

-- from the reader `s` to the reader `t`, over the next `k` numbers of the run, which are good
pub record Steps (s : RunReader) (k : ℕ) (t : RunReader) : Type 0 where
  pub there : k ≤ length (left_of s.run)
  pub passes : to_come s ≡ onto (next_of s k) (to_come t)
  pub bytes : t.bytes.now ≡ s.bytes.now

-- the run is read, or a number that is not good comes next
abbrev pub Stopped : RunReader → Type 0
Stopped r = (left_of r.run ≡ []) ⊎ (to_come r ≡ ended fault)

-- what going on from the reader `s`, which has stopped, replies and leaves: the reader `t` at the next run, or at the end
abbrev pub Continues : RunReader → Result Bool StreamFault → RunReader → Type 0
Continues s (Ok true) t = (to_come s ≡ to_come t) × (length t.bytes.now < length s.bytes.now)
Continues s (Ok false) t = (to_come s ≡ ended clean) × (to_come t ≡ ended clean)
Continues s (Err f) t = (to_come s ≡ ended fault) × (to_come t ≡ ended fault)
