use Rattle.std.proofs.Common.{◌≡◌, ◌++◌, length}
use Rattle.hex_words.specs.Words.{spelled}
use Rattle.hex_words.proofs.bytes_of.Given as goal

abbrev pub invariant-loop-rest : goal.invariant-loop-rest
invariant-loop-rest l = l.bytes.items ++ spelled l.rest ≡ spelled l.word

abbrev pub decreases-loop-rest : goal.decreases-loop-rest
decreases-loop-rest l = length l.rest
