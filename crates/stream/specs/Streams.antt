-- What bytes mean as a stream of numbers, for the hybrid of runs and bit-packing (encoding 3) and for BIT_PACKED (encoding 4).
use Rattle.std.specs.Prelude.{ℕ, zero, suc, ◌+◌, ◌-◌, ◌*◌, ◌/◌, ◌%◌, cond, List, [], ◌∷◌, length, take, drop, replicate, ◌==◌, nat_le, nat_lt, Option, None, Some, Result, Ok, Err}
use Rattle.stream.specs.declared.header.Header.{Header}
use Rattle.stream.specs.declared.header.RunFault.{RunFault}
use Rattle.stream.specs.declared.header.RunFault.TheVariants.{LongHeader, LongRun, NoValue}
use Rattle.stream.specs.declared.header.Start.{Start}
use Rattle.stream.specs.declared.header.Start.TheVariants.{Repeated, Packed}
use Rattle.stream.specs.Packing.{le, low_first, high_first}

-- how a stream ends
pub data End : Type 0 where
  clean : End
  fault : End

-- numbers, then an end
pub record Stream : Type 0 where
  pub numbers : List ℕ
  pub end : End

abbrev pub ended : End → Stream
ended e = record { numbers = []; end = e }

-- `xs`, then the stream `s`. A number is good if it is below the limit (the maximum and one more, or a dictionary's size); any other is a fault there.
abbrev pub within : ℕ → List ℕ → Stream → Stream
within limit [] s = s
within limit (x ∷ xs) s = cond (nat_lt x limit) (record { numbers = x ∷ (within limit xs s).numbers; end = (within limit xs s).end }) (ended fault)

-- a run: as many copies of a value, or the numbers of a packed run
pub data Run : Type 0 where
  repeated : (count value : ℕ) → Run
  packed : (numbers : List ℕ) → Run

-- why there is no further run
pub data Stop : Type 0 where
  -- the bytes are used up
  finished : Stop
  -- a header 0, behind which nothing counts
  header_zero : Stop
  -- the bytes end within a header
  cut_header : Stop
  -- the bytes end within a packed run
  cut_run : Stop
  -- a header of more than ten bytes
  long_header : Stop
  -- a run of more than 2^31 - 1 numbers
  long_run : Stop
  -- the bytes end within a repeated value
  no_value : Stop

-- runs, and why there is no further one
pub record Runs : Type 0 where
  pub runs : List Run
  pub stop : Stop

abbrev pub no_runs : Stop → Runs
no_runs s = record { runs = []; stop = s }

abbrev pub then_runs : Run → Runs → Runs
then_runs r rs = record { runs = r ∷ rs.runs; stop = rs.stop }

abbrev pub end_of : Stop → End
end_of finished = clean
end_of header_zero = clean
end_of cut_header = clean
end_of cut_run = clean
end_of long_header = fault
end_of long_run = fault
end_of no_value = fault

abbrev pub numbers_of : Run → List ℕ
numbers_of (repeated n v) = replicate n v
numbers_of (packed xs) = xs

-- the numbers of the runs, each held against the limit, then the end
abbrev pub flow : ℕ → List Run → Stop → Stream
flow limit [] s = ended (end_of s)
flow limit (r ∷ rs) s = within limit (numbers_of r) (flow limit rs s)

-- the most numbers that a run may have
abbrev pub longest : ℕ
longest = 2147483647

-- the bytes that a repeated value takes: the width, rounded up to whole bytes
abbrev pub value_bytes : ℕ → ℕ
value_bytes w = (w + 7) / 8

-- the header that is the number `h`, with `n` bytes behind its first
abbrev pub header_of : ℕ → ℕ → Result (Option Header) RunFault
header_of h n = Ok (Some (record { number = h; more = n }))

-- the group of seven bits `lo` below the rest of a header
abbrev pub over : ℕ → Result (Option Header) RunFault → Result (Option Header) RunFault
over lo (Err f) = Err f
over lo (Ok None) = Ok None
over lo (Ok (Some h)) = header_of (lo + 128 * h.number) (h.more + 1)

-- The header in front, of at most `k` bytes: groups of seven bits, lowest first, the top bit set on all bytes but the last. There is none where the bytes
-- end within it.
abbrev pub header : ℕ → List ℕ → Result (Option Header) RunFault
header zero bs = Err LongHeader
header (suc k) [] = Ok None
header (suc k) (b ∷ bs) = cond (nat_lt b 128) (header_of b 0) (over (b - 128) (header k bs))

-- how many numbers the run of a header has
abbrev pub run_length : ℕ → ℕ
run_length h = cond (h % 2 == 0) (h / 2) (8 * (h / 2))

-- The rule for a packed run of no groups (header 1). It is passed over; the format text has runs of 1 to 2^31 - 1 numbers and does not say what a reader does with one.
abbrev pub no_groups : Result (Option Start) RunFault
no_groups = Ok (Some (Packed 0))

-- the run that a packed header of `g` groups announces
abbrev pub groups : ℕ → Result (Option Start) RunFault
groups zero = no_groups
groups (suc g) = Ok (Some (Packed (suc g)))

-- the run that the header `h` announces, where `bs` is what lies behind the header; none at header 0, behind which nothing counts
abbrev pub start : ℕ → ℕ → List ℕ → Result (Option Start) RunFault
start w h bs =
    cond (h == 0) (Ok None)
    (cond (nat_lt longest (run_length h)) (Err LongRun)
    (cond (h % 2 == 0)
    (cond (nat_lt (length bs) (value_bytes w)) (Err NoValue) (Ok (Some (Repeated (h / 2) (le (take (value_bytes w) bs))))))
    (groups (h / 2))))

-- why a fault leaves no further run
abbrev pub stop_of : RunFault → Stop
stop_of LongHeader = long_header
stop_of LongRun = long_run
stop_of NoValue = no_value

-- a run and what follows it, where `go k` is the runs in the bytes behind the first `k` of `bs`
abbrev pub follow : ℕ → List ℕ → Result (Option Start) RunFault → (ℕ → Runs) → Runs
follow w bs (Err f) go = no_runs (stop_of f)
follow w bs (Ok None) go = no_runs header_zero
follow w bs (Ok (Some (Repeated n v))) go = then_runs (repeated n v) (go (value_bytes w))
follow w bs (Ok (Some (Packed g))) go =
    cond (nat_le (w * g) (length bs))
    (then_runs (packed (low_first w (8 * g) bs)) (go (w * g)))
    (then_runs (packed (low_first w (8 * length bs / w) bs)) (no_runs cut_run))

-- the same from the header on; `bs` is what lies behind the header's first byte
abbrev pub by_header : ℕ → Result (Option Header) RunFault → List ℕ → (ℕ → Runs) → Runs
by_header w (Err f) bs go = no_runs (stop_of f)
by_header w (Ok None) bs go = no_runs cut_header
by_header w (Ok (Some h)) bs go = follow w (drop h.more bs) (start w h.number (drop h.more bs)) (λ k. go (h.more + k))

-- the runs in the bytes behind the first `k`, at the width `w`
abbrev pub runs_from : ℕ → ℕ → List ℕ → Runs
runs_from w k [] = no_runs finished
runs_from w (suc k) (b ∷ bs) = runs_from w k bs
runs_from w zero (b ∷ bs) = by_header w (header 10 (b ∷ bs)) bs (λ k. runs_from w k bs)

-- the hybrid of runs and bit-packing: the stream in the bytes behind the first `k`, at the width `w`, of numbers below the limit
abbrev pub hybrid_from : ℕ → ℕ → ℕ → List ℕ → Stream
hybrid_from w limit k bs = flow limit (runs_from w k bs).runs (runs_from w k bs).stop

abbrev pub hybrid : ℕ → ℕ → List ℕ → Stream
hybrid w limit bs = hybrid_from w limit 0 bs

-- BIT_PACKED: one packed run of all numbers that lie whole in the bytes; at width 0 it holds none
abbrev pub bit_packed : ℕ → ℕ → List ℕ → Stream
bit_packed zero limit bs = ended clean
bit_packed (suc w) limit bs =
    cond (nat_lt longest (8 * length bs / suc w)) (ended fault)
    (within limit (high_first (suc w) (8 * length bs / suc w) bs) (ended clean))
