-- What the definition of a stream and the format's grammar have to do with each other.
use Rattle.std.specs.Prelude.{◌≡◌, ℕ, ◌*◌, ◌/◌, ◌^◌, ◌<◌, ◌≤◌, ◌⊎◌, List, [], ◌∷◌, ◌++◌, length}
use Rattle.std.specs.List.{AllByRecursion}
use Rattle.stream.specs.Grammar.{Below, Encodes, PacksDown}
use Rattle.stream.specs.Streams.{clean, Run, repeated, packed, finished, header_zero, cut_header, cut_run, runs_from, hybrid, bit_packed}

-- Whatever bytes the grammar gives to numbers that are all below the limit: the stream in these bytes is those numbers, with a clean end.
abbrev pub ReadsWhatIsEncoded : Type 0
ReadsWhatIsEncoded = (w limit : ℕ) (xs bs : List ℕ) → Encodes w xs bs → Below limit xs → hybrid w limit bs ≡ record { numbers = xs; end = clean }

-- a run that is no packed run of no groups
abbrev pub HasNumbers : Run → Type 0
HasNumbers (repeated n v) = Unit {0}
HasNumbers (packed []) = ⊥
HasNumbers (packed (x ∷ xs)) = Unit {0}

-- And back: bytes that are runs to their very end, none a packed run of no groups, with no number at or above the limit, are an encoding of the numbers that are read from them.
abbrev pub EncodedWhereItReads : Type 0
EncodedWhereItReads =
    (w limit : ℕ) (bs : List ℕ) → Below 256 bs → (runs_from w 0 bs).stop ≡ finished → AllByRecursion HasNumbers (runs_from w 0 bs).runs → (hybrid w limit bs).end ≡ clean
    → Encodes w (hybrid w limit bs).numbers bs

-- the four streams that are ours and not the format's, though they may end clean
pub data Ours (w : ℕ) (bs : List ℕ) : Type 0 where
  with_header_zero : (runs_from w 0 bs).stop ≡ header_zero → Ours w bs
  with_cut_header : (runs_from w 0 bs).stop ≡ cut_header → Ours w bs
  with_cut_run : (runs_from w 0 bs).stop ≡ cut_run → Ours w bs
  with_no_groups : (AllByRecursion HasNumbers (runs_from w 0 bs).runs → ⊥) → Ours w bs

-- There are no others: any stream with a clean end is one of them, or lies in bytes that the grammar gives to its numbers.
abbrev pub CleanIsEncodedOrOurs : Type 0
CleanIsEncodedOrOurs =
    (w limit : ℕ) (bs : List ℕ) → Below 256 bs → (hybrid w limit bs).end ≡ clean → Encodes w (hybrid w limit bs).numbers bs ⊎ Ours w bs

-- BIT_PACKED: numbers below the limit that lie in front in the bytes are the first that are read, unless the bytes hold more than 2^31 - 1 numbers.
abbrev pub BitPackedReadsWhatLiesThere : Type 0
BitPackedReadsWhatLiesThere =
    (w limit : ℕ) (xs bs : List ℕ) → 1 ≤ w → PacksDown w xs bs → Below limit xs → 8 * length bs / w < 2 ^ 31
    → (rest : List ℕ) × ((bit_packed w limit bs).numbers ≡ xs ++ rest)

-- And back: the numbers that are read lie in front in the bytes.
abbrev pub BitPackedLiesThere : Type 0
BitPackedLiesThere = (w limit : ℕ) (bs : List ℕ) → Below 256 bs → PacksDown w (bit_packed w limit bs).numbers bs
