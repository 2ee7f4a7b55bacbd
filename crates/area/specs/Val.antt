-- A column's values, of every kind: numbers, bits and byte strings.
use Rattle.std.specs.Prelude.{ℕ, Bool, List, ℤ}

pub data Val : Type 0 where
  int : ℤ → Val
  bit : Bool → Val
  bytes : List ℕ → Val
