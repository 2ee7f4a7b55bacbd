-- The numbers by which refusals tell the faults of levels.
use Rattle.std.specs.Prelude.{ℕ}
use Rattle.level_bytes.specs.declared.fault.LevelFault.{LevelFault}
use Rattle.level_bytes.specs.declared.fault.LevelFault.TheVariants.{UnknownEncoding, NegativeLength, Past, Unreadable, Missing}

abbrev pub number : LevelFault → ℕ
number (UnknownEncoding _) = 4
number NegativeLength = 5
number Past = 6
number Unreadable = 8
number Missing = 9
