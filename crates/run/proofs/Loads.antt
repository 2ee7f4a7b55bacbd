-- Laws of going on to the next run.
use Rattle.std.proofs.Common.{◌≡◌, ℕ, zero, suc, ◌+◌, ◌-◌, ◌*◌, ◌/◌, ◌<◌, ◌≤◌, min, cond, None, Some, Ok, Err, leb, List, [], length, take, drop, replicate, sym, ap, ◌∙◌, inl, inr, mul_assoc, mul_comm, zero-add, zero-mul, div-mul-le_self, arith}
use Rattle.std.proofs.lemmas.Nat.{div_below}
use Rattle.std.proofs.lemmas.List.{take_rest, drop-drop, length-drop, drop_all}
use Rattle.std.proofs.lemmas.Bool.{le-leb, lt-leb, cond-true, cond-false, cases_lt}
use Rattle.stream.specs.Packing.{low_first}
use Rattle.stream.specs.Streams.{ended, clean, fault, within, value_bytes, header, header_of, start, hybrid, hybrid_from}
use Rattle.stream.specs.declared.header.RunFault.{RunFault}
use Rattle.stream.specs.declared.header.Start.TheVariants.{Repeated, Packed}
use Rattle.stream.proofs.Runs.{hybrid_at, at_cut, at_fault, at_over, at_no_run, at_repeated, at_packed, at_packed_cut}
use Rattle.run.specs.Packed.{lows}
use Rattle.run.specs.declared.reader.RunReader.{RunReader}
use Rattle.run.specs.Runs.{left_of}
use Rattle.run.specs.Coming.{to_come}

-- once the run is read, the bytes behind it are to come
pub run_done : (r : RunReader) → left_of r.run ≡ [] → to_come r ≡ hybrid r.width.bits r.limit r.bytes.now
run_done r e = ap (λ xs. within r.limit xs (hybrid r.width.bits r.limit r.bytes.now)) e

-- the first numbers of a packed run
pub lows_first : (w n : ℕ) (bs : List ℕ) → lows w 0 n bs ≡ low_first w n bs
lows_first w n bs = ap (λ k. low_first w k bs) (zero-add n)

module _ (w limit h n : ℕ) (d rest : List ℕ) (is : header_of h n ≡ header 10 d) (there : rest ≡ take (length d - (n + 1)) (drop (n + 1) d)) where
  at : 0 + 1 + n ≡ n + 1
  at = omega arith

  rest_is : drop (0 + 1 + n) d ≡ rest
  rest_is = ap (λ k. drop k d) at ∙ (sym (take_rest d (n + 1)) ∙ sym there)

  rest_length : length rest ≡ length d - (n + 1)
  rest_length = ap length (sym rest_is ∙ ap (λ k. drop k d) at) ∙ length-drop (n + 1) d

  behind_is : (k : ℕ) → hybrid_from w limit (0 + 1 + n + k) d ≡ hybrid w limit (drop k rest)
  behind_is k = hybrid_at w limit (0 + 1 + n + k) d ∙ (ap (hybrid w limit) (sym (drop-drop k (0 + 1 + n) d)) ∙ ap (λ xs. hybrid w limit (drop k xs)) rest_is)

  pub over_next : Ok None ≡ start w h rest → hybrid w limit d ≡ ended clean
  over_next e = at_over w limit 0 d h n (sym is) (ap (start w h) rest_is ∙ sym e)

  pub no_run_next : (f : RunFault) → Err f ≡ start w h rest → hybrid w limit d ≡ ended fault
  no_run_next f e = at_no_run w limit 0 d h n f (sym is) (ap (start w h) rest_is ∙ sym e)

  pub repeated_next : (c v : ℕ) → Ok (Some (Repeated c v)) ≡ start w h rest → hybrid w limit d ≡ within limit (replicate c v) (hybrid w limit (drop (value_bytes w) rest))
  repeated_next c v e =
      at_repeated w limit 0 d h n c v (sym is) (ap (start w h) rest_is ∙ sym e) ∙ ap (within limit (replicate c v)) (behind_is (value_bytes w))

  pub packed_next : (g : ℕ) → Ok (Some (Packed g)) ≡ start w h rest
      → hybrid w limit d ≡ cond (leb (w * g) (length rest)) (within limit (low_first w (8 * g) rest) (hybrid w limit (drop (w * g) rest))) (within limit (low_first w (8 * length rest / w) rest) (ended clean))
  packed_next g e =
      let f = ap (start w h) rest_is ∙ sym e in
      let l = rest_length in
      elim (cases_lt (length rest) (w * g)) [
        | inl c ↦ (let m : length d - (0 + 1 + n) < w * g = omega arith in
            let k : length d - (0 + 1 + n) ≡ length rest = omega arith in
            at_packed_cut w limit 0 d h n g (sym is) f m
            ∙ (ap (λ i. within limit (low_first w (8 * i / w) (drop (0 + 1 + n) d)) (ended clean)) k
            ∙ (ap (λ xs. within limit (low_first w (8 * length rest / w) xs) (ended clean)) rest_is
            ∙ sym (cond-false (leb (w * g) (length rest)) _ _ (lt-leb (w * g) (length rest) c)))))
        | inr c ↦ (let m : w * g ≤ length d - (0 + 1 + n) = omega arith in
            at_packed w limit 0 d h n g (sym is) f m
            ∙ (ap (λ xs. within limit (low_first w (8 * g) xs) (hybrid_from w limit (0 + 1 + n + w * g) d)) rest_is
            ∙ (ap (within limit (low_first w (8 * g) rest)) (behind_is (w * g))
            ∙ sym (cond-true (leb (w * g) (length rest)) _ _ (le-leb (w * g) (length rest) c)))))
      ]

pub cut_next : (w limit : ℕ) (d : List ℕ) → Ok None ≡ header 10 d → hybrid w limit d ≡ ended clean
cut_next w limit d e = at_cut w limit 0 d (sym e)

pub fault_next : (w limit : ℕ) (d : List ℕ) (f : RunFault) → Err f ≡ header 10 d → hybrid w limit d ≡ ended fault
fault_next w limit d f e = at_fault w limit 0 d f (sym e)

-- a packed run that is there whole, and one that is cut
pub whole_fits : (w g : ℕ) (bs : List ℕ) → w * g ≤ length bs → (0 + 8 * g) * w ≤ 8 * length bs
whole_fits w g bs h = let a = mul_assoc 8 g w in let b = mul_comm g w in let z : (0 + 8 * g) * w ≡ 8 * g * w = ap (λ k. k * w) (zero-add (8 * g)) in omega arith

pub cut_fits : (w k : ℕ) → (0 + 8 * k / w) * w ≤ 8 * k
cut_fits w k = let a = div-mul-le_self (8 * k) w in let z : (0 + 8 * k / w) * w ≡ 8 * k / w * w = ap (λ j. j * w) (zero-add (8 * k / w)) in omega arith

pub cut_few : (w g k : ℕ) → k < w * g → 8 * k / w ≤ 8 * g
cut_few zero g k h = absurd (omega (arith, zero-mul g))
cut_few (suc w) g k h =
    let a = mul_assoc 8 g (suc w) in
    let b = mul_comm g (suc w) in
    let l : 8 * k < 8 * g * suc w = omega arith in
    let m = div_below (8 * k) (suc w) (8 * g) (omega arith) l in
    omega arith

-- the reader behind the header of a packed run
pub packed_whole : (w b limit g : ℕ) (rest : List ℕ) → b ≡ w → b * g ≤ length rest
    → within limit (lows w 0 (8 * g) rest) (hybrid w limit (take (length rest - b * g) (drop (b * g) rest)))
    ≡ cond (leb (w * g) (length rest)) (within limit (low_first w (8 * g) rest) (hybrid w limit (drop (w * g) rest))) (within limit (low_first w (8 * length rest / w) rest) (ended clean))
packed_whole w b limit g rest e h =
    let t = ap (λ k. k * g) e in
    let l : w * g ≤ length rest = omega arith in
    ap (λ xs. within limit xs (hybrid w limit (take (length rest - b * g) (drop (b * g) rest)))) (lows_first w (8 * g) rest)
    ∙ (ap (λ xs. within limit (low_first w (8 * g) rest) (hybrid w limit xs)) (take_rest rest (b * g) ∙ ap (λ k. drop k rest) t)
    ∙ sym (cond-true (leb (w * g) (length rest)) _ _ (le-leb (w * g) (length rest) l)))

pub packed_cut : (w b limit g : ℕ) (rest : List ℕ) → b ≡ w → length rest < b * g
    → within limit (lows w 0 (8 * length rest / b) rest) (hybrid w limit (take (length rest - length rest) (drop (length rest) rest)))
    ≡ cond (leb (w * g) (length rest)) (within limit (low_first w (8 * g) rest) (hybrid w limit (drop (w * g) rest))) (within limit (low_first w (8 * length rest / w) rest) (ended clean))
packed_cut w b limit g rest e h =
    let t = ap (λ k. k * g) e in
    let l : length rest < w * g = omega arith in
    let z : take (length rest - length rest) (drop (length rest) rest) ≡ [] = take_rest rest (length rest) ∙ drop_all (length rest) rest (omega arith) in
    ap (λ xs. within limit xs (hybrid w limit (take (length rest - length rest) (drop (length rest) rest)))) (lows_first w (8 * length rest / b) rest)
    ∙ (ap (λ xs. within limit (low_first w (8 * length rest / b) rest) (hybrid w limit xs)) z
    ∙ (ap (λ k. within limit (low_first w (8 * length rest / k) rest) (ended clean)) e
    ∙ sym (cond-false (leb (w * g) (length rest)) _ _ (lt-leb (w * g) (length rest) l))))

-- the numbers of a packed run, by which way it goes
pub fits_whole : (w b g n : ℕ) (bs : List ℕ) → b ≡ w → n ≡ 8 * g → b * g ≤ length bs → (0 + n) * w ≤ 8 * length bs
fits_whole w b g n bs e i h =
    let t = ap (λ k. k * g) e in
    let u : (0 + n) * w ≡ (0 + 8 * g) * w = ap (λ k. (0 + k) * w) i in
    omega (arith, u, whole_fits w g bs (omega arith))

pub fits_cut : (w b n : ℕ) (bs : List ℕ) → b ≡ w → n ≡ 8 * length bs / b → (0 + n) * w ≤ 8 * length bs
fits_cut w b n bs e i =
    let u : (0 + n) * w ≡ (0 + 8 * length bs / w) * w = ap (λ k. (0 + k) * w) (i ∙ ap (λ k. 8 * length bs / k) e) in
    omega (arith, u, cut_fits w (length bs))

pub next_whole : (w b limit g n m : ℕ) (rest : List ℕ) → b ≡ w → n ≡ 8 * g → m ≡ min (b * g) (length rest) → b * g ≤ length rest
    → within limit (lows w 0 n rest) (hybrid w limit (take (length rest - m) (drop m rest)))
    ≡ cond (leb (w * g) (length rest)) (within limit (low_first w (8 * g) rest) (hybrid w limit (drop (w * g) rest))) (within limit (low_first w (8 * length rest / w) rest) (ended clean))
next_whole w b limit g n m rest e i j h =
    let k : m ≡ b * g = omega arith in
    ap (λ x. within limit (lows w 0 n rest) (hybrid w limit (take (length rest - x) (drop x rest)))) k
    ∙ (ap (λ x. within limit (lows w 0 x rest) (hybrid w limit (take (length rest - b * g) (drop (b * g) rest)))) i ∙ packed_whole w b limit g rest e h)

pub next_cut : (w b limit g n m : ℕ) (rest : List ℕ) → b ≡ w → n ≡ 8 * length rest / b → m ≡ min (b * g) (length rest) → length rest < b * g
    → within limit (lows w 0 n rest) (hybrid w limit (take (length rest - m) (drop m rest)))
    ≡ cond (leb (w * g) (length rest)) (within limit (low_first w (8 * g) rest) (hybrid w limit (drop (w * g) rest))) (within limit (low_first w (8 * length rest / w) rest) (ended clean))
next_cut w b limit g n m rest e i j h =
    let k : m ≡ length rest = omega arith in
    ap (λ x. within limit (lows w 0 n rest) (hybrid w limit (take (length rest - x) (drop x rest)))) k
    ∙ (ap (λ x. within limit (lows w 0 x rest) (hybrid w limit (take (length rest - length rest) (drop (length rest) rest)))) i ∙ packed_cut w b limit g rest e h)
