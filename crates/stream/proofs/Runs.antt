-- The stream from a place on, by the header that stands there.
use Rattle.std.proofs.Common.{◌≡◌, ℕ, zero, suc, ◌+◌, ◌-◌, ◌*◌, ◌/◌, ◌%◌, ◌<◌, ◌≤◌, Bool, true, false, cond, Option, None, Some, Result, Ok, Err, eqb, ltb, leb, List, [], ◌∷◌, length, take, drop, replicate, sym, refl, ap, ◌∙◌, arith}
use Rattle.std.proofs.lemmas.List.{drop_all, drop-drop, take_rest, length-drop}
use Rattle.std.proofs.lemmas.Bool.{ltb-false, eqb-true, eqb-false, le-leb, lt-leb, cond-true, cond-false}
use Rattle.stream.specs.Packing.{le, low_first}
use Rattle.stream.specs.Streams.{Stream, ended, clean, fault, within, repeated, packed, finished, cut_header, cut_run, stop_of, Runs, no_runs, then_runs, flow, longest, value_bytes, header, header_of, run_length, groups, start, follow, by_header, runs_from, hybrid_from}
use Rattle.stream.specs.declared.header.RunFault.{RunFault}
use Rattle.stream.specs.declared.header.RunFault.TheVariants.{LongHeader, LongRun, NoValue}
use Rattle.stream.specs.declared.header.Start.{Start}
use Rattle.stream.specs.declared.header.Start.TheVariants.{Repeated, Packed}

-- what a function says of `&d[at..]`
pub from_rest : {X : Type 0} (F : List ℕ → X) (d : List ℕ) (at : ℕ) (r : X) → r ≡ F (take (length d - at) (drop at d)) → F (drop at d) ≡ r
from_rest F d at r e = ap F (sym (take_rest d at)) ∙ sym e

-- the bytes that are passed over are dropped
pub runs_at : (w k : ℕ) (d : List ℕ) → runs_from w k d ≡ runs_from w 0 (drop k d)
runs_at w zero d = refl
runs_at w (suc k) [] = refl
runs_at w (suc k) (b ∷ bs) = runs_at w k bs

pub runs_past : (w k : ℕ) (d : List ℕ) → length d ≤ k → runs_from w k d ≡ no_runs finished
runs_past w k d h = runs_at w k d ∙ ap (runs_from w 0) (drop_all k d h)

-- the runs, by the first header
pub first_cut : (w : ℕ) (xs : List ℕ) → header 10 xs ≡ Ok None → 0 < length xs → runs_from w 0 xs ≡ no_runs cut_header
first_cut w [] e l = absurd (omega arith)
first_cut w (b ∷ bs) e l = ap (λ h. by_header w h bs (λ k. runs_from w k bs)) e

pub first_fault : (w : ℕ) (xs : List ℕ) (f : RunFault) → header 10 xs ≡ Err f → runs_from w 0 xs ≡ no_runs (stop_of f)
first_fault w [] f e = let z : ◌≡◌ {A = ℕ} 0 1 = cc in absurd (omega arith)
first_fault w (b ∷ bs) f e = ap (λ h. by_header w h bs (λ k. runs_from w k bs)) e

pub first_is : (w : ℕ) (xs : List ℕ) (h n : ℕ) → header 10 xs ≡ header_of h n
    → runs_from w 0 xs ≡ follow w (drop (suc n) xs) (start w h (drop (suc n) xs)) (λ k. runs_from w (suc (n + k)) xs)
first_is w [] h n e = let z : ◌≡◌ {A = ℕ} 0 1 = cc in absurd (omega arith)
first_is w (b ∷ bs) h n e = ap (λ h. by_header w h bs (λ k. runs_from w k bs)) e

pub follow_ext : (w : ℕ) (bs : List ℕ) (s : Result (Option Start) RunFault) (go go' : ℕ → Runs) → ((k : ℕ) → go k ≡ go' k) → follow w bs s go ≡ follow w bs s go'
follow_ext w bs (Err f) go go' e = refl
follow_ext w bs (Ok None) go go' e = refl
follow_ext w bs (Ok (Some (Repeated n v))) go go' e = ap (then_runs (repeated n v)) (e (value_bytes w))
follow_ext w bs (Ok (Some (Packed g))) go go' e =
    ap
    (λ r. cond (leb (w * g) (length bs)) (then_runs (packed (low_first w (8 * g) bs)) r) (then_runs (packed (low_first w (8 * length bs / w) bs)) (no_runs cut_run)))
    (e (w * g))

-- the runs from a place on, by the header there
pub runs_is : (w at : ℕ) (d : List ℕ) (h n : ℕ) → header 10 (drop at d) ≡ header_of h n
    → runs_from w at d ≡ follow w (drop (at + 1 + n) d) (start w h (drop (at + 1 + n) d)) (λ k. runs_from w (at + 1 + n + k) d)
runs_is w at d h n e =
    let p : at + suc n ≡ at + 1 + n = omega arith in
    let q : drop (suc n) (drop at d) ≡ drop (at + 1 + n) d = drop-drop (suc n) at d ∙ ap (λ j. drop j d) p in
    let r : (k : ℕ) → runs_from w (suc (n + k)) (drop at d) ≡ runs_from w (at + 1 + n + k) d = λ k.
    (let s : at + suc (n + k) ≡ at + 1 + n + k = omega arith in
    runs_at w (suc (n + k)) (drop at d) ∙ (ap (runs_from w 0) (drop-drop (suc (n + k)) at d ∙ ap (λ j. drop j d) s) ∙ sym (runs_at w (at + 1 + n + k) d))) in
    runs_at w at d ∙ (first_is w (drop at d) h n e ∙ (ap (λ bs. follow w bs (start w h bs) (λ k. runs_from w (suc (n + k)) (drop at d))) q ∙ follow_ext w (drop (at + 1 + n) d) (start w h (drop (at + 1 + n) d)) _ _ r))

-- the same, once the run is known
pub runs_start : (w at : ℕ) (d : List ℕ) (h n : ℕ) (s : Result (Option Start) RunFault) → header 10 (drop at d) ≡ header_of h n → start w h (drop (at + 1 + n) d) ≡ s
    → runs_from w at d ≡ follow w (drop (at + 1 + n) d) s (λ k. runs_from w (at + 1 + n + k) d)
runs_start w at d h n s e f = runs_is w at d h n e ∙ ap (λ t. follow w (drop (at + 1 + n) d) t (λ k. runs_from w (at + 1 + n + k) d)) f

-- the stream of runs
abbrev pub flowing : ℕ → Runs → Stream
flowing limit rs = flow limit rs.runs rs.stop

pub hybrid_at : (w limit k : ℕ) (d : List ℕ) → hybrid_from w limit k d ≡ hybrid_from w limit 0 (drop k d)
hybrid_at w limit k d = ap (flowing limit) (runs_at w k d)

pub hybrid_past : (w limit k : ℕ) (d : List ℕ) → length d ≤ k → hybrid_from w limit k d ≡ ended clean
hybrid_past w limit k d h = ap (flowing limit) (runs_past w k d h)

-- The stream from the place `at` on, by the header there: there is none at the end of the bytes either.
pub at_cut : (w limit at : ℕ) (d : List ℕ) → header 10 (drop at d) ≡ Ok None → hybrid_from w limit at d ≡ ended clean
at_cut w limit at d e = hybrid_at w limit at d ∙ cut_first w limit (drop at d) e
  where
    cut_first : (w limit : ℕ) (xs : List ℕ) → header 10 xs ≡ Ok None → hybrid_from w limit 0 xs ≡ ended clean
    cut_first w limit [] e = refl
    cut_first w limit (b ∷ bs) e = ap (λ h. flowing limit (by_header w h bs (λ k. runs_from w k bs))) e

fault_ends : (limit : ℕ) (f : RunFault) → flowing limit (no_runs (stop_of f)) ≡ ended fault
fault_ends limit LongHeader = refl
fault_ends limit LongRun = refl
fault_ends limit NoValue = refl

pub at_fault : (w limit at : ℕ) (d : List ℕ) (f : RunFault) → header 10 (drop at d) ≡ Err f → hybrid_from w limit at d ≡ ended fault
at_fault w limit at d f e = ap (flowing limit) (runs_at w at d ∙ first_fault w (drop at d) f e) ∙ fault_ends limit f

pub at_over : (w limit at : ℕ) (d : List ℕ) (h n : ℕ) → header 10 (drop at d) ≡ header_of h n → start w h (drop (at + 1 + n) d) ≡ Ok None
    → hybrid_from w limit at d ≡ ended clean
at_over w limit at d h n e f = ap (flowing limit) (runs_start w at d h n (Ok None) e f)

pub at_no_run : (w limit at : ℕ) (d : List ℕ) (h n : ℕ) (f : RunFault) → header 10 (drop at d) ≡ header_of h n → start w h (drop (at + 1 + n) d) ≡ Err f
    → hybrid_from w limit at d ≡ ended fault
at_no_run w limit at d h n f e s = ap (flowing limit) (runs_start w at d h n (Err f) e s) ∙ fault_ends limit f

pub at_repeated : (w limit at : ℕ) (d : List ℕ) (h n c v : ℕ) → header 10 (drop at d) ≡ header_of h n → start w h (drop (at + 1 + n) d) ≡ Ok (Some (Repeated c v))
    → hybrid_from w limit at d ≡ within limit (replicate c v) (hybrid_from w limit (at + 1 + n + value_bytes w) d)
at_repeated w limit at d h n c v e f = ap (flowing limit) (runs_start w at d h n (Ok (Some (Repeated c v))) e f)

-- a packed run that is there whole
pub at_packed : (w limit at : ℕ) (d : List ℕ) (h n g : ℕ) → header 10 (drop at d) ≡ header_of h n → start w h (drop (at + 1 + n) d) ≡ Ok (Some (Packed g))
    → w * g ≤ length d - (at + 1 + n)
    → hybrid_from w limit at d ≡ within limit (low_first w (8 * g) (drop (at + 1 + n) d)) (hybrid_from w limit (at + 1 + n + w * g) d)
at_packed w limit at d h n g e f l =
    let bs : List ℕ = drop (at + 1 + n) d in
    let m : w * g ≤ length bs = omega (arith, length-drop (at + 1 + n) d) in
    ap (flowing limit) (runs_start w at d h n (Ok (Some (Packed g))) e f ∙ cond-true (leb (w * g) (length bs)) _ _ (le-leb (w * g) (length bs) m))

-- a packed run that the end of the bytes cuts
pub at_packed_cut : (w limit at : ℕ) (d : List ℕ) (h n g : ℕ) → header 10 (drop at d) ≡ header_of h n → start w h (drop (at + 1 + n) d) ≡ Ok (Some (Packed g))
    → length d - (at + 1 + n) < w * g
    → hybrid_from w limit at d ≡ within limit (low_first w (8 * (length d - (at + 1 + n)) / w) (drop (at + 1 + n) d)) (ended clean)
at_packed_cut w limit at d h n g e f l =
    let bs : List ℕ = drop (at + 1 + n) d in
    let m : length bs < w * g = omega (arith, length-drop (at + 1 + n) d) in
    ap (flowing limit) (runs_start w at d h n (Ok (Some (Packed g))) e f ∙ cond-false (leb (w * g) (length bs)) _ _ (lt-leb (w * g) (length bs) m))
    ∙ ap (λ k. within limit (low_first w (8 * k / w) bs) (ended clean)) (length-drop (at + 1 + n) d)

-- what a run that is announced is bound by
repeated_from : (a b c e : Bool) (x y n v : ℕ) (s : Result (Option Start) RunFault) → cond a (Ok None) (cond b (Err LongRun) (cond c (cond e (Err NoValue) (Ok (Some (Repeated x y)))) s)) ≡ Ok (Some (Repeated n v))
    → ((k u : ℕ) → s ≡ Ok (Some (Repeated k u)) → ⊥) → (a ≡ false) × (b ≡ false) × (c ≡ true) × (e ≡ false) × (x ≡ n) × (y ≡ v)
repeated_from true b c e x y n v s p no_run = let z : ◌≡◌ {A = ℕ} 0 1 = cc in absurd (omega arith)
repeated_from false true c e x y n v s p no_run = let z : ◌≡◌ {A = ℕ} 0 1 = cc in absurd (omega arith)
repeated_from false false true true x y n v s p no_run = let z : ◌≡◌ {A = ℕ} 0 1 = cc in absurd (omega arith)
repeated_from false false true false x y n v s p no_run = (refl, refl, refl, refl, (cc), (cc))
repeated_from false false false e x y n v s p no_run = absurd (no_run n v p)

groups_packed : (g k u : ℕ) → groups g ≡ Ok (Some (Repeated k u)) → ⊥
groups_packed zero k u p = let z : ◌≡◌ {A = ℕ} 0 1 = cc in omega arith
groups_packed (suc g) k u p = let z : ◌≡◌ {A = ℕ} 0 1 = cc in omega arith

even_length : (h : ℕ) → eqb (h % 2) 0 ≡ true → run_length h ≡ h / 2
even_length h e = cond-true (eqb (h % 2) 0) (h / 2) (8 * (h / 2)) e

repeated_facts : (w h : ℕ) (bs : List ℕ) (n v : ℕ) → start w h bs ≡ Ok (Some (Repeated n v))
    → (h ≡ 2 * n) × (0 < n) × (n ≤ longest) × (value_bytes w ≤ length bs) × (v ≡ le (take (value_bytes w) bs))
repeated_facts w h bs n v p =
    let f = repeated_from (eqb h 0) (ltb longest (run_length h)) (eqb (h % 2) 0) (ltb (length bs) (value_bytes w)) (h / 2) (le (take (value_bytes w) bs)) n v (groups (h / 2)) p (groups_packed (h / 2)) in
    let ev : h % 2 ≡ 0 = eqb-true (h % 2) 0 f.2 in
    let nz : h ≡ 0 → ⊥ = eqb-false h 0 f.0 in
    let is : h / 2 ≡ n = f.4 in
    let most : run_length h ≤ longest = ltb-false longest (run_length h) f.1 in
    let len : run_length h ≡ h / 2 = even_length h f.2 in
    (omega arith, omega arith, omega arith, ltb-false (length bs) (value_bytes w) f.3, sym f.5)

pub repeated_header : (w h : ℕ) (bs : List ℕ) (n v : ℕ) → start w h bs ≡ Ok (Some (Repeated n v)) → h ≡ 2 * n
repeated_header w h bs n v p = (repeated_facts w h bs n v p).0

pub repeated_bounds : (w h : ℕ) (bs : List ℕ) (n v : ℕ) → start w h bs ≡ Ok (Some (Repeated n v))
    → (0 < n) × (n ≤ longest) × (value_bytes w ≤ length bs) × (v ≡ le (take (value_bytes w) bs))
repeated_bounds w h bs n v p = let f = repeated_facts w h bs n v p in (f.1, f.2, f.3, f.4)

packed_from : (a b c e : Bool) (x y g : ℕ) (s : Result (Option Start) RunFault) → cond a (Ok None) (cond b (Err LongRun) (cond c (cond e (Err NoValue) (Ok (Some (Repeated x y)))) s)) ≡ Ok (Some (Packed g))
    → (a ≡ false) × (b ≡ false) × (c ≡ false) × (s ≡ Ok (Some (Packed g)))
packed_from true b c e x y g s p = let z : ◌≡◌ {A = ℕ} 0 1 = cc in absurd (omega arith)
packed_from false true c e x y g s p = let z : ◌≡◌ {A = ℕ} 0 1 = cc in absurd (omega arith)
packed_from false false true true x y g s p = let z : ◌≡◌ {A = ℕ} 0 1 = cc in absurd (omega arith)
packed_from false false true false x y g s p = let z : ◌≡◌ {A = ℕ} 0 1 = cc in absurd (omega arith)
packed_from false false false e x y g s p = (refl, refl, refl, p)

groups_of : (k g : ℕ) → groups k ≡ Ok (Some (Packed g)) → k ≡ g
groups_of zero g p = cc
groups_of (suc k) g p = cc

odd_length : (h : ℕ) → eqb (h % 2) 0 ≡ false → run_length h ≡ 8 * (h / 2)
odd_length h e = cond-false (eqb (h % 2) 0) (h / 2) (8 * (h / 2)) e

pub packed_bounds : (w h : ℕ) (bs : List ℕ) (g : ℕ) → start w h bs ≡ Ok (Some (Packed g)) → (8 * g ≤ longest) × (h ≡ 2 * g + 1)
packed_bounds w h bs g p =
    let f = packed_from (eqb h 0) (ltb longest (run_length h)) (eqb (h % 2) 0) (ltb (length bs) (value_bytes w)) (h / 2) (le (take (value_bytes w) bs)) g (groups (h / 2)) p in
    let odd : h % 2 ≡ 0 → ⊥ = eqb-false (h % 2) 0 f.2 in
    let is : h / 2 ≡ g = groups_of (h / 2) g f.3 in
    let most : run_length h ≤ longest = ltb-false longest (run_length h) f.1 in
    let len : run_length h ≡ 8 * (h / 2) = odd_length h f.2 in
    (omega arith, omega arith)
