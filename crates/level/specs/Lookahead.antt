-- What a decoder that works ahead is still to give.
use Rattle.std.specs.Prelude.{ℕ, ◌-◌, List, take, drop}
use Rattle.stream.specs.Streams.{Stream}
use Rattle.run.specs.Coming.{to_come}
use Rattle.run.specs.Reading.{onto}
use Rattle.level.specs.declared.ahead.Ahead.{Ahead}

-- the levels that were read ahead and are not handed on yet
abbrev pub held : Ahead → List ℕ
held a = take (a.len - a.offset) (drop a.offset a.buffer)

-- those, then what the reader is to give
abbrev pub coming : Ahead → Stream
coming a = onto (held a) (to_come a.reader)
