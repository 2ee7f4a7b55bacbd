-- What an area holds, and what each call makes of it. The memory stays as long as it was.
use Rattle.std.specs.Prelude.{ℕ, ◌+◌, ◌-◌, min, List, ◌++◌, length, take, replicate}
use Rattle.std.proofs.Math.Seq.{paste}
use denote.Ref.{at_last}
use Rattle.area.specs.declared.area.Area.{Area}

-- all elements of the lent memory
abbrev pub cells : {X : Type 0} → Area X → List X
cells a = a.slice.now

-- how many elements are filled: a count past the end counts all
abbrev pub counted : {X : Type 0} → Area X → ℕ
counted a = min a.count (length (cells a))

-- the elements that are filled
abbrev pub filled : {X : Type 0} → Area X → List X
filled a = take (counted a) (cells a)

-- how many elements are free: none where the count is past the end
abbrev pub room : {X : Type 0} → Area X → ℕ
room a = length (cells a) - a.count

-- the same lent memory, with these elements, so many of them filled
abbrev pub holding : {X : Type 0} → Area X → List X → ℕ → Area X
holding a xs n = record { slice = at_last a.slice xs; count = n; there = a.there }

-- `xs` appended: what stands behind them is as it was
abbrev pub appended : {X : Type 0} → Area X → List X → Area X
appended a xs = holding a (paste (cells a) a.count xs (length xs)) (a.count + length xs)

-- `k` more elements counted as filled, at most the room
abbrev pub advanced : {X : Type 0} → Area X → ℕ → Area X
advanced a k = holding a (cells a) (a.count + min k (room a))

-- `m` elements filled, with the blank `b` from there to the end
abbrev pub blank_from : {X : Type 0} → X → Area X → ℕ → Area X
blank_from b a m = holding a (take m (cells a) ++ replicate (length (cells a) - m) b) m

-- set back to `n` elements, or left at fewer
abbrev pub blanked : {X : Type 0} → X → Area X → ℕ → Area X
blanked b a n = blank_from b a (min n a.count)

-- empty, with the blank `b` everywhere
abbrev pub emptied : {X : Type 0} → X → Area X → Area X
emptied b a = blank_from b a 0
