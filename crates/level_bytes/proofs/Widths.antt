-- The bits of a number.
use Rattle.std.proofs.Common.{◌≡◌, ℕ, zero, suc, ◌+◌, ◌-◌, ◌*◌, ◌/◌, ◌^◌, ◌<◌, ◌≤◌, false, ℤ, pos, negsuc, refl, pow-suc, arith, lit<, w16, SFits, to_z, of_z}
use lib.Signed.{le_z}
use lib.Count.{count_leading_zeros, leading_length}
use Rattle.std.proofs.lemmas.Int.{to_z-of_z}
use Rattle.level_bytes.specs.Bits.{bits, BitsOf}
use Rattle.level_bytes.specs.Cuts.{above_zero, width}

pub zeros_and_bits : (k n : ℕ) → count_leading_zeros k n + bits k n ≡ k
unfolding count_leading_zeros
zeros_and_bits zero n = refl
zeros_and_bits (suc k) zero = omega arith
zeros_and_bits (suc k) (suc n) = let h = zeros_and_bits k (suc n / 2) in omega (arith, h)

-- the bits of a number hold it, and no fewer do
pub bits_are : (k n : ℕ) → n < 2 ^ k → BitsOf n (bits k n)
bits_are k n h =
    let l = leading_length k n h in
    let e : l.0 ≡ bits k n = omega (arith, l.1, zeros_and_bits k n) in
    record { enough = rw e at l.2; least = rw e at l.3 }

above_fits : (z : ℤ) → SFits w16 z → above_zero z < 2 ^ 15
above_fits (pos n) h = h.sfits
above_fits (negsuc n) h = lit< tt

-- a maximum above zero lies in its bits as itself
bits_of_max : (z : ℤ) → le_z z (pos 0) ≡ false → of_z w16 z ≡ above_zero z
bits_of_max (pos n) h = refl
bits_of_max (negsuc n) h = cc

-- a number of at most `j` bits has them among the lowest
pub bits_within : (k j n : ℕ) → n < 2 ^ j → bits k n ≤ j
bits_within zero j n h = omega arith
bits_within (suc k) j zero h = omega arith
bits_within (suc k) zero (suc n) h = absurd (omega arith)
bits_within (suc k) (suc j) (suc n) h =
    let p : 2 ^ suc j ≡ 2 ^ j * 2 = pow-suc 2 j in
    let i = bits_within k j (suc n / 2) (omega (arith, p)) in
    omega (arith, i)

-- what a maximum above zero has for its width
pub record Wide (z : ℤ) (w : ℕ) : Type 0 where
  pub is : w ≡ width z
  pub bits_of : BitsOf (above_zero z) w
  pub small : w ≤ 15

pub wide : (z : ℤ) (l : ℕ) → SFits w16 z → le_z (to_z w16 (of_z w16 z)) (pos 0) ≡ false → l ≡ count_leading_zeros 16 (of_z w16 (to_z w16 (of_z w16 z))) → Wide z (16 - l)
wide z l f h e =
    let n = above_zero z in
    let b = above_fits z f in
    let o : of_z w16 (to_z w16 (of_z w16 z)) ≡ n = rw (to_z-of_z w16 z f) (bits_of_max z (simp to_z-of_z at h)) in
    let i : 16 - l ≡ width z = rw (e, o) (omega (arith, zeros_and_bits 16 n)) in
    record { is = i; bits_of = rw i (bits_are 16 n (omega (arith, b))); small = (let s = bits_within 16 15 n b in omega (arith, s, i)) }
