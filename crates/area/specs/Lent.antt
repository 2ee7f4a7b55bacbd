-- What an area shows of its memory, as values.
use Rattle.std.specs.Prelude.{ℕ, ◌+◌, ◌-◌, min, Bool, not, List, ◌++◌, map, length, take, drop, replicate, nat_le}
use Rattle.area.specs.declared.area.Area.{Area}
use Rattle.area.specs.Areas.{cells, filled}
use Rattle.area.specs.Val.{Val}

-- the filled part, what stands behind it, whether the area is there, and which memory was lent
pub record Lent : Type 0 where
  pub filled : List Val
  pub behind : List Val
  pub there : Bool
  pub who : ℕ

-- what an area shows, where `means` says what value an element is
abbrev pub lent : {X : Type 0} → (X → Val) → Area X → Lent
lent means a = record { filled = map means (filled a); behind = map means (drop a.count (cells a)); there = a.there; who = a.slice.ghost_name }

-- `xs` appended: they take the place of what stood behind the filled part
abbrev pub more : Lent → List Val → Lent
more l xs = record { filled = l.filled ++ xs; behind = drop (length xs) l.behind; there = l.there; who = l.who }

-- how many values there is room for: the count stays below 2^64
abbrev pub free : Lent → ℕ
free l = min (length l.behind) (18446744073709551615 - length l.filled)

-- whether so many values fit
abbrev pub has_room : Lent → List Val → Bool
has_room l xs = nat_le (length xs) (free l)

-- how many values are filled in
abbrev pub held_count : Lent → ℕ
held_count l = length l.filled

-- set back to the first `n` values, or left at fewer, with the blank `b` behind them
abbrev pub set_back : Val → Lent → ℕ → Lent
set_back b l n = record { filled = take n l.filled; behind = replicate ((length l.filled - n) + length l.behind) b; there = l.there; who = l.who }

-- whether the area tells that it is missing
abbrev pub is_missing : Lent → Bool
is_missing l = not l.there
