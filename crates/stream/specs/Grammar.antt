-- The format's grammar: which bytes stand for which numbers. It speaks of bits as lists, and shares no arithmetic with the definition of a stream.
use Rattle.std.specs.Prelude.{◌≡◌, ℕ, zero, suc, ◌+◌, ◌*◌, ◌/◌, ◌%◌, ◌^◌, ◌<◌, ◌≤◌, List, [], ◌∷◌, ◌++◌, reverse, length, replicate}
use Rattle.std.specs.List.{flat_map, AllByRecursion}

-- the `w` lowest bits of `x`, from the lowest up
abbrev pub up : ℕ → ℕ → List ℕ
up zero x = []
up (suc w) x = x % 2 ∷ up w (x / 2)

-- the same from the highest down
abbrev pub down : ℕ → ℕ → List ℕ
down w x = reverse (up w x)

-- the bits of numbers of `w` bits, one number after another
abbrev pub bits_up : ℕ → List ℕ → List ℕ
bits_up w xs = flat_map (up w) xs

abbrev pub bits_down : ℕ → List ℕ → List ℕ
bits_down w xs = flat_map (down w) xs

-- each is below `m`
abbrev pub Below : ℕ → List ℕ → Type 0
Below m xs = AllByRecursion (λ x. x < m) xs

-- The numbers of `w` bits fill the bytes, from the lowest bit of each byte up.
pub record Fills (w : ℕ) (xs bs : List ℕ) : Type 0 where
  pub fit : Below (2 ^ w) xs
  pub bytes : Below 256 bs
  pub bits : bits_up w xs ≡ bits_up 8 bs

-- The numbers of `w` bits lie in front in the bytes, from the highest bit of each byte down: BIT_PACKED.
pub record PacksDown (w : ℕ) (xs bs : List ℕ) : Type 0 where
  pub fit : Below (2 ^ w) xs
  pub bytes : Below 256 bs
  pub behind : List ℕ
  pub bits : bits_down w xs ++ behind ≡ bits_down 8 bs

-- varint, ULEB-128: seven bits to a byte, the lowest first, the top bit set on every byte but the last
pub data Varint : ℕ → List ℕ → Type 0 where
  last_byte : (b : ℕ) → b < 128 → Varint b (b ∷ [])
  byte_then : (b n : ℕ) (bs : List ℕ) → b < 128 → Varint n bs → Varint (b + 128 * n) ((128 + b) ∷ bs)

-- The hybrid: runs one after another.
--   rle_run: a header of twice the count, then the value in `k` bytes, the width rounded up to whole bytes.
--   bit_packed_run: a header of twice the number of groups and one, then eight numbers for each group.
-- A run has 1 to 2^31 - 1 numbers. That a header has at most ten bytes is our limit; it is enough for any such run.
pub data Encodes (w : ℕ) : List ℕ → List ℕ → Type 0 where
  nothing : Encodes w [] []
  rle_run : (count k v : ℕ) (head value xs bs : List ℕ) → 1 ≤ count → count < 2 ^ 31 → Varint (2 * count) head → length head ≤ 10
      → w ≤ 8 * k → 8 * k < w + 8 → Fills (8 * k) (v ∷ []) value
      → Encodes w xs bs → Encodes w (replicate count v ++ xs) (head ++ (value ++ bs))
  bit_packed_run : (g : ℕ) (head ys run xs bs : List ℕ) → 1 ≤ g → 8 * g < 2 ^ 31 → Varint (2 * g + 1) head → length head ≤ 10
      → length ys ≡ 8 * g → Fills w ys run
      → Encodes w xs bs → Encodes w (ys ++ xs) (head ++ (run ++ bs))
