-- Numbers in bytes.
use Rattle.std.specs.Prelude.{ℕ, ◌+◌, ◌*◌, List, slice_index}

-- four bytes from the i-th on, lowest first
abbrev pub le4 : List ℕ → ℕ → ℕ
le4 b i = slice_index b i + slice_index b (i + 1) * 256 + slice_index b (i + 2) * 65536 + slice_index b (i + 3) * 16777216
