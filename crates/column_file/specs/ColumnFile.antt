-- The column file: one byte repetition maximum, one byte definition maximum, one byte type, four bytes strip length, strip, data.
use Rattle.std.specs.Prelude.{ℕ, cond, List, length, take, drop, Ok, Err, Result, ◌==◌, nat_lt, slice_index}
use Rattle.page.specs.declared.fault.MakingFault.{MakingFault}
use Rattle.page.specs.declared.fault.MakingFault.TheVariants.{FileTooShort, FileType, FileStrip}
use Rattle.column_file.specs.declared.PhysicalType.{PhysicalType}
use Rattle.column_file.specs.declared.PhysicalType.TheVariants.{Boolean, Int32, Int64}
use Rattle.column_file.specs.declared.ColumnFile.{ColumnFile}
use Rattle.page.specs.Bytes.{le4}

-- a column file, with its bytes as lists
pub record File : Type 0 where
  pub repetition : ℕ
  pub definition : ℕ
  pub of_type : PhysicalType
  pub strip : List ℕ
  pub column : List ℕ

-- 0 is BOOLEAN, 1 INT32, 2 INT64
abbrev pub type_made : ℕ → Result PhysicalType MakingFault
type_made t = cond (t == 0) (Ok Boolean) (cond (t == 1) (Ok Int32) (cond (t == 2) (Ok Int64) (Err (FileType t))))

abbrev pub type_number : PhysicalType → ℕ
type_number Boolean = 0
type_number Int32 = 1
type_number Int64 = 2

-- strip and data
pub record Parts : Type 0 where
  pub strip : List ℕ
  pub column : List ℕ

-- a strip of n bytes, and all behind it
abbrev pub parts_made : List ℕ → ℕ → Result Parts MakingFault
parts_made bs n = cond (nat_lt (length bs) n) (Err FileStrip) (Ok (record { strip = take n bs; column = drop n bs }))

abbrev pub whole_file : ℕ → ℕ → Result PhysicalType MakingFault → Result Parts MakingFault → Result File MakingFault
whole_file r d (Err e) parts = Err e
whole_file r d (Ok t) (Err e) = Err e
whole_file r d (Ok t) (Ok p) = Ok (record { repetition = r; definition = d; of_type = t; strip = p.strip; column = p.column })

-- what a file means: the column in it, or refusal 14 where it is shorter than its seven bytes of header, has another type, or its strip reaches past its end
abbrev pub file_made : List ℕ → Result File MakingFault
file_made bs =
    cond (nat_lt (length bs) 7) (Err FileTooShort)
    (whole_file (slice_index bs 0) (slice_index bs 1) (type_made (slice_index bs 2)) (parts_made (drop 7 bs) (le4 bs 3)))

-- the code's file
abbrev pub file_of : ColumnFile → File
file_of f = record { repetition = f.max_rep_level; definition = f.max_def_level; of_type = f.physical_type; strip = f.strip.now; column = f.«data».now }
