-- The bits of a number.
use Rattle.std.specs.Prelude.{ℕ, zero, suc, ◌+◌, ◌*◌, ◌/◌, ◌^◌, ◌<◌, ◌≤◌}

-- how many bits a number has, at most `k` of them: it is halved until nothing is left
abbrev pub bits : ℕ → ℕ → ℕ
bits zero n = 0
bits (suc k) zero = 0
bits (suc k) (suc n) = suc (bits k (suc n / 2))

-- `w` bits hold the number `n`, and no fewer do
pub record BitsOf (n w : ℕ) : Type 0 where
  pub enough : n < 2 ^ w
  pub least : 2 ^ w ≤ 2 * n + 1
