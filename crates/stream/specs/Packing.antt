-- How numbers of a few bits lie in bytes.
use Rattle.std.specs.Prelude.{ℕ, zero, suc, ◌+◌, ◌-◌, ◌*◌, ◌/◌, ◌%◌, ◌^◌, List, [], ◌∷◌, length}

-- the number in bytes, lowest byte first
abbrev pub le : List ℕ → ℕ
le [] = 0
le (b ∷ bs) = b + 256 * le bs

-- the number in bytes, highest byte first
abbrev pub be : List ℕ → ℕ
be [] = 0
be (b ∷ bs) = b * 256 ^ length bs + be bs

-- the `n` lowest numbers of `w` bits in `x`, the lowest first
abbrev pub from_below : ℕ → ℕ → ℕ → List ℕ
from_below w zero x = []
from_below w (suc n) x = x % 2 ^ w ∷ from_below w n (x / 2 ^ w)

-- the `n` highest numbers of `w` bits in the lowest `t` bits of `x`, the highest first
abbrev pub from_above : ℕ → ℕ → ℕ → ℕ → List ℕ
from_above w zero t x = []
from_above w (suc n) t x = x / 2 ^ (t - w) % 2 ^ w ∷ from_above w n (t - w) x

-- The bit order of the hybrid's packed runs: from the lowest bit of each byte up.
-- These are the first `n` numbers of `w` bits in the bytes.
abbrev pub low_first : ℕ → ℕ → List ℕ → List ℕ
low_first w n bs = from_below w n (le bs)

-- The bit order of BIT_PACKED, encoding 4: from the highest bit of each byte down.
-- These are the first `n` numbers of `w` bits in the bytes.
abbrev pub high_first : ℕ → ℕ → List ℕ → List ℕ
high_first w n bs = from_above w n (8 * length bs) (be bs)
