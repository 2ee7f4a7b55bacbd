-- What some small streams mean, computed from the definition.
use Rattle.std.specs.Prelude.{◌≡◌, ℕ, List, [], ◌∷◌}
use Rattle.stream.specs.Streams.{End, clean, fault, Stream, hybrid, bit_packed, runs_from, repeated, finished, header_zero, long_run, no_runs, then_runs, header_of, header}

-- a stream is these numbers, then this end
abbrev pub Gives : Stream → List ℕ → End → Type 0
Gives s xs e = s ≡ record { numbers = xs; end = e }

abbrev pub zero_to_six : List ℕ
zero_to_six = 0 ∷ 1 ∷ 2 ∷ 3 ∷ 4 ∷ 5 ∷ 6 ∷ []

abbrev pub zero_to_seven : List ℕ
zero_to_seven = 0 ∷ 1 ∷ 2 ∷ 3 ∷ 4 ∷ 5 ∷ 6 ∷ 7 ∷ []

abbrev pub eight_ones : List ℕ
eight_ones = 1 ∷ 1 ∷ 1 ∷ 1 ∷ 1 ∷ 1 ∷ 1 ∷ 1 ∷ []

-- Packed runs: the format text's own example, the same with a number that is too large, and a run of two groups that the bytes end within.
abbrev pub PackedCases : Type 0
PackedCases =
    Gives (hybrid 3 8 (0x03 ∷ 0x88 ∷ 0xC6 ∷ 0xFA ∷ [])) zero_to_seven clean
    × Gives (hybrid 3 7 (0x03 ∷ 0x88 ∷ 0xC6 ∷ 0xFA ∷ [])) zero_to_six fault
    × Gives (hybrid 1 2 (0x05 ∷ 0xFF ∷ [])) eight_ones clean

-- Repeated runs: three copies, a value that is too large, a value that is missing, a dictionary of no entries, a width of no bits.
abbrev pub RepeatedCases : Type 0
RepeatedCases =
    Gives (hybrid 1 2 (0x06 ∷ 0x01 ∷ [])) (1 ∷ 1 ∷ 1 ∷ []) clean
    × Gives (hybrid 1 2 (0x02 ∷ 0x02 ∷ [])) [] fault
    × Gives (hybrid 1 2 (0x02 ∷ [])) [] fault
    × Gives (hybrid 1 0 (0x02 ∷ 0x00 ∷ [])) [] fault
    × Gives (hybrid 0 1 (0x06 ∷ [])) (0 ∷ 0 ∷ 0 ∷ []) clean

-- Where the format text does not say what a reader does: nothing counts behind a header 0, a header that is cut is an end, a packed run of no groups is passed over.
abbrev pub OurCases : Type 0
OurCases =
    Gives (hybrid 1 2 (0x00 ∷ 0x02 ∷ 0x01 ∷ [])) [] clean
    × Gives (hybrid 1 2 (0x80 ∷ [])) [] clean
    × Gives (hybrid 1 2 (0x01 ∷ 0x02 ∷ 0x01 ∷ [])) (1 ∷ []) clean

-- The longest run, as a run since its list is too long to compute, and a run of one more.
abbrev pub LongCases : Type 0
LongCases =
    (runs_from 1 0 (0xFE ∷ 0xFF ∷ 0xFF ∷ 0xFF ∷ 0x0F ∷ 0x01 ∷ []) ≡ then_runs (repeated 2147483647 1) (no_runs finished))
    × (runs_from 1 0 (0x80 ∷ 0x80 ∷ 0x80 ∷ 0x80 ∷ 0x10 ∷ 0x01 ∷ []) ≡ no_runs long_run)

-- Headers of more bytes than they need: the number is what counts, also where it is 0.
abbrev pub HeaderCases : Type 0
HeaderCases =
    (header 10 (0x86 ∷ 0x00 ∷ []) ≡ header_of 6 1)
    × (header 10 (0x80 ∷ 0x00 ∷ []) ≡ header_of 0 1)
    × (runs_from 1 0 (0x80 ∷ 0x00 ∷ 0x02 ∷ 0x01 ∷ []) ≡ no_runs header_zero)

-- BIT_PACKED: the format text's own example.
abbrev pub BitPackedCases : Type 0
BitPackedCases = Gives (bit_packed 3 8 (0x05 ∷ 0x39 ∷ 0x77 ∷ [])) zero_to_seven clean

abbrev pub Cases : Type 0
Cases = PackedCases × RepeatedCases × OurCases × LongCases × HeaderCases × BitPackedCases
