-- The encodings that levels have.
use Rattle.std.specs.Prelude.{ℕ, cond, Ok, Err, Result, ◌==◌}
use Rattle.level_bytes.specs.declared.encoding.LevelEncoding.{LevelEncoding}
use Rattle.level_bytes.specs.declared.encoding.LevelEncoding.TheVariants.{Rle, BitPacked}
use Rattle.level_bytes.specs.declared.fault.LevelFault.{LevelFault}
use Rattle.level_bytes.specs.declared.fault.LevelFault.TheVariants.{UnknownEncoding}

-- the encoding that a number tells: 3 and 4 have one
abbrev pub encoding_of : ℕ → Result LevelEncoding LevelFault
encoding_of n = cond (n == 3) (Ok Rle) (cond (n == 4) (Ok BitPacked) (Err (UnknownEncoding n)))
