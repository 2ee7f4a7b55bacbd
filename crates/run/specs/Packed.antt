-- Parts of packed numbers, and numbers held against a limit.
use Rattle.std.specs.Prelude.{ℕ, ◌+◌, List, take, drop, nat_lt}
use Rattle.std.specs.List.{prefix_len}
use Rattle.stream.specs.Packing.{low_first, high_first}
use Rattle.run.specs.declared.packed.Part.{Part}
use Rattle.run.specs.declared.order.Order.{Order}
use Rattle.run.specs.declared.order.Order.TheVariants.{LowFirst, HighFirst}

-- the `n` numbers behind the first `a` of those packed from the lowest bit up
abbrev pub lows : ℕ → ℕ → ℕ → List ℕ → List ℕ
lows w a n bs = drop a (low_first w (a + n) bs)

-- the `n` numbers behind the first `a` of those packed from the highest bit down
abbrev pub highs : ℕ → ℕ → ℕ → List ℕ → List ℕ
highs w a n bs = drop a (high_first w (a + n) bs)

-- the same, in either order
abbrev pub part : Order → ℕ → ℕ → ℕ → List ℕ → List ℕ
part LowFirst w a n bs = lows w a n bs
part HighFirst w a n bs = highs w a n bs

-- the numbers of a part
abbrev pub numbers : Part → List ℕ
numbers p = part p.order p.width.bits p.skip p.count p.bytes.now

-- how many numbers stand in front of the first that is not below the limit
abbrev pub good : ℕ → List ℕ → ℕ
good limit xs = prefix_len (λ x. nat_lt x limit) xs

-- those numbers
abbrev pub all_good : ℕ → List ℕ → List ℕ
all_good limit xs = take (good limit xs) xs
