-- What a header that was read is bound by.
use Rattle.std.specs.Prelude.{ℕ, ◌*◌, ◌^◌, ◌<◌, Option, None, Some, Result, Ok, Err}
use Rattle.stream.specs.declared.header.Header.{Header}
use Rattle.stream.specs.declared.header.RunFault.{RunFault}

-- a header of at most `k` bytes, each of seven bits, that lie within `len` bytes
abbrev pub Small : ℕ → ℕ → Result (Option Header) RunFault → Type 0
Small k len (Err f) = Unit {0}
Small k len (Ok None) = Unit {0}
Small k len (Ok (Some h)) = (h.number < 2 ^ (7 * k)) × (h.more < k) × (h.more < len)
