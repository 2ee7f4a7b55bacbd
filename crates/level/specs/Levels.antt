-- What bytes mean as levels.
use Rattle.std.specs.Prelude.{ℕ, ◌+◌, ◌%◌, List, ℤ, pos}
use Rattle.stream.specs.Streams.{Stream, hybrid, bit_packed}
use Rattle.level_bytes.specs.Bits.{bits}
use Rattle.level_bytes.specs.declared.encoding.LevelEncoding.{LevelEncoding}
use Rattle.level_bytes.specs.declared.encoding.LevelEncoding.TheVariants.{Rle, BitPacked}

-- the levels in bytes: numbers of as many bits as the maximum has, and none above it
abbrev pub levels : ℕ → LevelEncoding → List ℕ → Stream
levels max Rle bs = hybrid (bits 16 max) (max + 1) bs
levels max BitPacked bs = bit_packed (bits 16 max) (max + 1) bs

-- a level as an element of an area
abbrev pub level : ℕ → ℤ
level x = pos (x % 32768)
