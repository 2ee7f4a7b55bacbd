-- Where the level bytes of a page stand.
use Rattle.std.specs.Prelude.{ℕ, ◌+◌, ◌*◌, ◌/◌, cond, List, [], length, take, drop, ℤ, pos, negsuc, Ok, Err, Result, ◌==◌, nat_le}
use Rattle.std.specs.Borrow.{Bor}
use Rattle.stream.specs.Packing.{le}
use Rattle.level_bytes.specs.Bits.{bits}
use Rattle.level_bytes.specs.declared.fault.LevelFault.{LevelFault}
use Rattle.level_bytes.specs.declared.fault.LevelFault.TheVariants.{UnknownEncoding, NegativeLength, Past}

-- level bytes and the bytes behind them, or a fault
pub data Cut : Type 0 where
  cut : (levels rest : List ℕ) → Cut
  bad : LevelFault → Cut

-- the first `n` bytes, and those behind them
abbrev pub front : ℕ → List ℕ → Cut
front n bs = cond (nat_le n (length bs)) (cut (take n bs) (drop n bs)) (bad Past)

-- so many bytes, where the length is signed: numbers from 2^31 on are negative, the last four of them -4 to -1
abbrev pub signed_front : ℕ → List ℕ → Cut
signed_front n bs = cond (nat_le 4294967292 n) (bad NegativeLength) (cond (nat_le 2147483648 n) (bad Past) (front n bs))

-- the bytes behind a length of four bytes, lowest byte first
abbrev pub by_length : List ℕ → Cut
by_length bs = cond (nat_le 4 (length bs)) (signed_front (le (take 4 bs)) (drop 4 bs)) (bad Past)

-- the bytes of so many levels of so many bits, rounded up
abbrev pub packed_bytes : ℕ → ℕ → ℕ
packed_bytes levels width = (levels * width + 7) / 8

-- a maximum, or 0 where it is below
abbrev pub above_zero : ℤ → ℕ
above_zero (pos n) = n
above_zero (negsuc n) = 0

-- the bits of a level, by the greatest
abbrev pub width : ℤ → ℕ
width max = bits 16 (above_zero max)

-- The level bytes of a V1 page: none at maximum 0, whatever the encoding; else in encoding 3 by the length in front of them,
-- in encoding 4 by the number of levels.
abbrev pub v1_level : ℤ → ℕ → ℕ → List ℕ → Cut
v1_level max levels encoding bs =
    cond (above_zero max == 0) (cut [] bs)
    (cond (encoding == 3) (by_length bs)
    (cond (encoding == 4) (front (packed_bytes levels (width max)) bs) (bad (UnknownEncoding encoding))))

-- what a call's reply tells
abbrev pub cut_of : Result (Bor (List ℕ) × Bor (List ℕ)) LevelFault → Cut
cut_of (Ok p) = cut p.0.now p.1.now
cut_of (Err e) = bad e

-- repetition levels, definition levels and values, or a fault
pub data Parts : Type 0 where
  parts : (rep def values : List ℕ) → Parts
  none : LevelFault → Parts

-- the parts of a V2 page: the first `r + d` bytes are levels, and of these the first `r` repetition levels
abbrev pub v2_levels : ℕ → ℕ → List ℕ → Parts
v2_levels r d bs = cond (nat_le (r + d) (length bs)) (parts (take r (take (r + d) bs)) (drop r (take (r + d) bs)) (drop (r + d) bs)) (none Past)

-- what a call's reply tells
abbrev pub parts_of : Result (Bor (List ℕ) × Bor (List ℕ) × Bor (List ℕ)) LevelFault → Parts
parts_of (Ok p) = parts p.0.now p.1.now p.2.now
parts_of (Err e) = none e
