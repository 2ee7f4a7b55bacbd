-- The hybrid against the grammar.
use Rattle.std.proofs.Common.{◌≡◌, ℕ, zero, suc, ◌+◌, ◌-◌, ◌*◌, ◌/◌, ◌%◌, ◌<◌, ◌≤◌, cond, Option, None, Some, Result, Ok, Err, eqb, ltb, leb, ◌⊎◌, List, [], ◌∷◌, ◌++◌, length, take, drop, replicate, sym, refl, ap, ◌∙◌, subst, inl, inr, mul_assoc, mul_comm, arith}
use Rattle.std.proofs.lemmas.List.{append_assoc, length-append, drop-drop, drop_at, take_at, take-append-drop, length-take-le, length-drop}
use Rattle.std.proofs.ByRecursion.{All-take, All-drop, All-append}
use Rattle.std.proofs.lemmas.Bool.{lt-ltb, le-ltb, le-leb, eq-eqb, ne_eqb, leb-true, cond-true, cond-false, cases_lt, cases_Bool}
use Rattle.std.specs.List.{AllByRecursion}
use Rattle.stream.specs.Grammar.{Below, Fills, Varint, last_byte, byte_then, Encodes, nothing, rle_run, bit_packed_run}
use Rattle.stream.specs.Packing.{le, low_first}
use Rattle.stream.specs.Streams.{Run, repeated, packed, Stop, finished, header_zero, cut_header, cut_run, long_header, long_run, no_value, Runs, no_runs, then_runs, numbers_of, end_of, longest, value_bytes, over, header, header_of, stop_of, run_length, groups, start, follow, runs_from, clean, hybrid}
use Rattle.stream.specs.Theorems.{ReadsWhatIsEncoded, EncodedWhereItReads, CleanIsEncodedOrOurs, HasNumbers, Ours, with_header_zero, with_cut_header, with_cut_run, with_no_groups}
use Rattle.stream.specs.declared.header.Header.{Header}
use Rattle.stream.specs.declared.header.RunFault.{RunFault}
use Rattle.stream.specs.declared.header.RunFault.TheVariants.{LongHeader, LongRun, NoValue}
use Rattle.stream.specs.declared.header.Start.{Start}
use Rattle.stream.specs.declared.header.Start.TheVariants.{Repeated, Packed}
use Rattle.stream.proofs.Filling.{length_below, fills_read, fills_once, fills_length, fills_value}
use Rattle.stream.proofs.Flow.{all_of, flow_good, flow_clean, flow_clean_stop}
use Rattle.stream.proofs.Runs.{runs_at, runs_start, first_cut, first_fault, repeated_bounds, repeated_header, packed_bounds}

-- A varint is what the definition reads as a header.
pub varint_header : {n : ℕ} {hs : List ℕ} → Varint n hs → (k : ℕ) → length hs ≤ k → (rest : List ℕ)
    → (m : ℕ) × (length hs ≡ suc m) × (header k (hs ++ rest) ≡ header_of n m)
varint_header (last_byte b h) zero l rest = absurd (omega arith)
varint_header (last_byte b h) (suc k) l rest = (0, refl, ap (λ t. cond t (header_of b 0) (over (b - 128) (header k rest))) (lt-ltb b 128 h))
varint_header (byte_then b n bs h v) zero l rest = absurd (omega arith)
varint_header (byte_then b n bs h v) (suc k) l rest =
    let r = varint_header v k (omega arith) rest in
    let x : ℕ = 128 + b in
    let big : 128 ≤ x = omega arith in
    let e : x - 128 + 128 * n ≡ b + 128 * n = omega arith in
    let f : r.0 + 1 ≡ suc r.0 = omega arith in (
      suc r.0,
      ap suc r.1,
      ap (λ t. cond t (header_of x 0) (over (x - 128) (header k (bs ++ rest)))) (le-ltb x 128 big)
          ∙ (ap (over (x - 128)) r.2 ∙ (ap (λ z. header_of z (r.0 + 1)) e ∙ ap (header_of (b + 128 * n)) f)),
    )

pub varint_bytes : {n : ℕ} {hs : List ℕ} → Varint n hs → Below 256 hs
varint_bytes (last_byte b h) = (omega arith, tt)
varint_bytes (byte_then b n bs h v) = (omega arith, varint_bytes v)

same_header : (a b h n : ℕ) → header_of a b ≡ header_of h n → (a ≡ h) × (b ≡ n)
same_header a b h n e =
    let p : ◌≡◌ {A = Header} (record { number = a; more = b }) (record { number = h; more = n }) = cc in
    (ap (λ (q : Header). q.number) p, ap (λ (q : Header). q.more) p)

over_is : (lo : ℕ) (r : Result (Option Header) RunFault) (h n : ℕ) → over lo r ≡ header_of h n → (p : ℕ) × (q : ℕ) × (r ≡ header_of p q) × (h ≡ lo + 128 * p) × (n ≡ q + 1)
over_is lo (Ok None) h n e = let z : ◌≡◌ {A = ℕ} 0 1 = cc in absurd (omega arith)
over_is lo (Err f) h n e = let z : ◌≡◌ {A = ℕ} 0 1 = cc in absurd (omega arith)
over_is lo (Ok (Some g)) h n e =
    let s = same_header (lo + 128 * g.number) (g.more + 1) h n e in
    (g.number, g.more, refl, sym s.0, sym s.1)

header_step : (k b : ℕ) (bs : List ℕ) (h n : ℕ) → b < 256 → header (suc k) (b ∷ bs) ≡ header_of h n
    → ((p q : ℕ) → header k bs ≡ header_of p q → (Varint p (take (suc q) bs)) × (q < k) × (q < length bs))
    → (Varint h (take (suc n) (b ∷ bs))) × (n < suc k) × (n < suc (length bs))
header_step k b bs h n lt e more =
    elim (cases_lt b 128) [
      | inl l ↦
          (let s : header_of b 0 ≡ header_of h n = sym (ap (λ t. cond t (header_of b 0) (over (b - 128) (header k bs))) (lt-ltb b 128 l)) ∙ e in
          let f = same_header b 0 h n s in
          let hb : b ≡ h = f.0 in
          let nz : 0 ≡ n = f.1 in
          (subst (λ x. Varint x (take (suc n) (b ∷ bs))) hb (subst (λ j. Varint b (b ∷ take j bs)) nz (last_byte b l)), omega arith, omega arith))
      | inr g ↦
          (let s : over (b - 128) (header k bs) ≡ header_of h n = sym (ap (λ t. cond t (header_of b 0) (over (b - 128) (header k bs))) (le-ltb b 128 g)) ∙ e in
          let o = over_is (b - 128) (header k bs) h n s in
          let p : ℕ = o.0 in
          let q : ℕ = o.1 in
          let r = more p q o.2 in
          let small : b - 128 < 128 = omega arith in
          let byte : 128 + (b - 128) ≡ b = omega arith in
          let eq : suc q ≡ n = omega (arith, o.4) in
          let v : Varint (b - 128 + 128 * p) ((128 + (b - 128)) ∷ take (suc q) bs) = byte_then (b - 128) p (take (suc q) bs) small r.0 in (
            subst (λ x. Varint x (take (suc n) (b ∷ bs))) (sym o.3)
                (subst (λ j. Varint (b - 128 + 128 * p) (b ∷ take j bs)) eq (subst (λ y. Varint (b - 128 + 128 * p) (y ∷ take (suc q) bs)) byte v)),
            omega (arith, r.1),
            omega (arith, r.2),
          ))
    ]

pub header_varint : (k : ℕ) (bs : List ℕ) (h n : ℕ) → Below 256 bs → header k bs ≡ header_of h n → (Varint h (take (suc n) bs)) × (n < k) × (n < length bs)
header_varint zero bs h n b e = let z : ◌≡◌ {A = ℕ} 0 1 = cc in absurd (omega arith)
header_varint (suc k) [] h n b e = let z : ◌≡◌ {A = ℕ} 0 1 = cc in absurd (omega arith)
header_varint (suc k) (x ∷ bs) h n b e = header_step k x bs h n b.0 e (λ p q f. header_varint k bs p q b.1 f)

-- What a header of the grammar announces.
pub start_repeated : (w c : ℕ) (bs : List ℕ) → 1 ≤ c → c ≤ longest → value_bytes w ≤ length bs → start w (2 * c) bs ≡ Ok (Some (Repeated c (le (take (value_bytes w) bs))))
start_repeated w c bs low high l =
    let h : ℕ = 2 * c in
    let nz : h ≡ 0 → ⊥ = λ z. omega arith in
    let ev : h % 2 ≡ 0 = omega arith in
    let half : h / 2 ≡ c = omega arith in
    let len : run_length h ≡ h / 2 = cond-true (eqb (h % 2) 0) (h / 2) (8 * (h / 2)) (eq-eqb (h % 2) 0 ev) in
    let most : run_length h ≤ longest = omega arith in
    cond-false (eqb h 0) _ _ (ne_eqb h 0 nz)
    ∙ (cond-false (ltb longest (run_length h)) _ _ (le-ltb longest (run_length h) most)
    ∙ (cond-true (eqb (h % 2) 0) _ _ (eq-eqb (h % 2) 0 ev)
    ∙ (cond-false (ltb (length bs) (value_bytes w)) _ _ (le-ltb (length bs) (value_bytes w) l) ∙ ap (λ n. Ok (Some (Repeated n (le (take (value_bytes w) bs))))) half)))

groups_some : (g : ℕ) → 1 ≤ g → groups g ≡ Ok (Some (Packed g))
groups_some zero l = absurd (omega arith)
groups_some (suc g) l = refl

pub start_packed : (w g : ℕ) (bs : List ℕ) → 1 ≤ g → 8 * g ≤ longest → start w (2 * g + 1) bs ≡ Ok (Some (Packed g))
start_packed w g bs low high =
    let h : ℕ = 2 * g + 1 in
    let nz : h ≡ 0 → ⊥ = λ z. omega arith in
    let odd : h % 2 ≡ 0 → ⊥ = λ z. omega arith in
    let half : h / 2 ≡ g = omega arith in
    let len : run_length h ≡ 8 * (h / 2) = cond-false (eqb (h % 2) 0) (h / 2) (8 * (h / 2)) (ne_eqb (h % 2) 0 odd) in
    let most : run_length h ≤ longest = omega arith in
    cond-false (eqb h 0) _ _ (ne_eqb h 0 nz)
    ∙ (cond-false (ltb longest (run_length h)) _ _ (le-ltb longest (run_length h) most)
    ∙ (cond-false (eqb (h % 2) 0) _ _ (ne_eqb (h % 2) 0 odd) ∙ (ap groups half ∙ groups_some g low)))

-- The runs behind a header and a body.
pub runs_behind : (w m j : ℕ) (head body bs : List ℕ) → length head ≡ suc m → length body ≡ j → runs_from w (0 + 1 + m + j) (head ++ (body ++ bs)) ≡ runs_from w 0 bs
runs_behind w m j head body bs e f =
    let l : length (head ++ body) ≡ 0 + 1 + m + j = omega (arith, length-append head body) in
    runs_at w (0 + 1 + m + j) (head ++ (body ++ bs))
    ∙ ap (runs_from w 0) (ap (drop (0 + 1 + m + j)) (sym (append_assoc head body bs)) ∙ drop_at (head ++ body) bs (0 + 1 + m + j) l)

-- A run of the grammar in front of bytes is a run in front of the runs in them.
pub repeated_in_front : (w c k v : ℕ) (head value bs : List ℕ) → 1 ≤ c → c ≤ longest → Varint (2 * c) head → length head ≤ 10
    → w ≤ 8 * k → 8 * k < w + 8 → Fills (8 * k) (v ∷ []) value
    → runs_from w 0 (head ++ (value ++ bs)) ≡ then_runs (repeated c v) (runs_from w 0 bs)
repeated_in_front w c k v head value bs low high h ten up_to_lem over_by fills =
    let r = varint_header h 10 ten (value ++ bs) in
    let m : ℕ = r.0 in
    let d : List ℕ = head ++ (value ++ bs) in
    let vb : value_bytes w ≡ k = omega arith in
    let size : length value ≡ k = omega (arith, fills_length (8 * k) (v ∷ []) value fills) in
    let at : drop (0 + 1 + m) d ≡ value ++ bs = drop_at head (value ++ bs) (0 + 1 + m) (omega (arith, r.1)) in
    let long : value_bytes w ≤ length (value ++ bs) = omega (arith, length-append value bs) in
    let front : take (value_bytes w) (value ++ bs) ≡ value = take_at value bs (value_bytes w) (omega arith) in
    let one : (v ∷ []) ≡ (le value ∷ []) = fills_once (8 * k) (le value ∷ []) (v ∷ []) value refl (fills_value k value fills.bytes size) fills in
    let is : le value ≡ v = cc in
    let s : start w (2 * c) (drop (0 + 1 + m) d) ≡ Ok (Some (Repeated c v)) =
    ap (start w (2 * c)) at ∙ (start_repeated w c (value ++ bs) low high long ∙ (ap (λ t. Ok (Some (Repeated c (le t)))) front ∙ ap (λ t. Ok (Some (Repeated c t))) is)) in
    runs_start w 0 d (2 * c) m (Ok (Some (Repeated c v))) r.2 s ∙ ap (then_runs (repeated c v)) (runs_behind w m (value_bytes w) head value bs r.1 (omega arith))

pub packed_in_front : (w g : ℕ) (head ys run bs : List ℕ) → 1 ≤ g → 8 * g ≤ longest → Varint (2 * g + 1) head → length head ≤ 10
    → length ys ≡ 8 * g → Fills w ys run → Below 256 bs
    → runs_from w 0 (head ++ (run ++ bs)) ≡ then_runs (packed ys) (runs_from w 0 bs)
packed_in_front w g head ys run bs low high h ten eight fills rest =
    let r = varint_header h 10 ten (run ++ bs) in
    let m : ℕ = r.0 in
    let d : List ℕ = head ++ (run ++ bs) in
    let bits : 8 * g * w ≡ 8 * (w * g) = mul_assoc 8 g w ∙ ap (λ t. 8 * t) (mul_comm g w) in
    let size : length run ≡ w * g = omega (arith, fills_length w ys run fills, ap (λ t. t * w) eight) in
    let at : drop (0 + 1 + m) d ≡ run ++ bs = drop_at head (run ++ bs) (0 + 1 + m) (omega (arith, r.1)) in
    let long : w * g ≤ length (run ++ bs) = omega (arith, length-append run bs) in
    let front : take (w * g) (run ++ bs) ≡ run = take_at run bs (w * g) size in
    let read : Fills w (low_first w (8 * g) (run ++ bs)) run =
    subst (λ t. Fills w (low_first w (8 * g) (run ++ bs)) t) front (fills_read w (8 * g) (w * g) (run ++ bs) (All-append (λ b. b < 256) run bs fills.bytes rest) bits long) in
    let is : low_first w (8 * g) (run ++ bs) ≡ ys = fills_once w ys (low_first w (8 * g) (run ++ bs)) run (eight ∙ sym (length_below w (8 * g) (le (run ++ bs)))) fills read in
    let s : start w (2 * g + 1) (drop (0 + 1 + m) d) ≡ Ok (Some (Packed g)) = start_packed w g (drop (0 + 1 + m) d) low high in
    runs_start w 0 d (2 * g + 1) m (Ok (Some (Packed g))) r.2 s
    ∙ (ap (λ t. follow w t (Ok (Some (Packed g))) (λ k. runs_from w (0 + 1 + m + k) d)) at
    ∙ (cond-true (leb (w * g) (length (run ++ bs))) _ _ (le-leb (w * g) (length (run ++ bs)) long)
    ∙ (ap (λ t. then_runs (packed t) (runs_from w (0 + 1 + m + w * g) d)) is ∙ ap (then_runs (packed ys)) (runs_behind w m (w * g) head run bs r.1 size))))

pub encodes_bytes : {w : ℕ} {xs bs : List ℕ} → Encodes w xs bs → Below 256 bs
encodes_bytes nothing = tt
encodes_bytes (rle_run c k v head value xs bs low high h ten up_to_lem over_by fills e) =
    All-append (λ b. b < 256) head (value ++ bs) (varint_bytes h) (All-append (λ b. b < 256) value bs fills.bytes (encodes_bytes e))
encodes_bytes (bit_packed_run g head ys run xs bs low high h ten eight fills e) =
    All-append (λ b. b < 256) head (run ++ bs) (varint_bytes h) (All-append (λ b. b < 256) run bs fills.bytes (encodes_bytes e))

-- the runs `rs` come to their end, and have the numbers `xs`
abbrev pub ComeTo : List ℕ → Runs → Type 0
ComeTo xs rs = (rs.stop ≡ finished) × (all_of rs.runs ≡ xs)

one_more : (r : Run) (ys xs : List ℕ) (all rs : Runs) → all ≡ then_runs r rs → numbers_of r ≡ ys → ComeTo xs rs → ComeTo (ys ++ xs) all
one_more r ys xs all rs e f h = (
  ap (λ t. t.stop) e ∙ h.0,
  ap (λ t. all_of t.runs) e ∙ (ap (λ t. t ++ all_of rs.runs) f ∙ ap (λ t. ys ++ t) h.1),
)

pub encodes_runs : {w : ℕ} {xs bs : List ℕ} → Encodes w xs bs → ComeTo xs (runs_from w 0 bs)
encodes_runs nothing = (refl, refl)
encodes_runs {w} (rle_run c k v head value xs bs low high h ten up_to_lem over_by fills e) =
    one_more (repeated c v) (replicate c v) xs (runs_from w 0 (head ++ (value ++ bs))) (runs_from w 0 bs)
    (repeated_in_front w c k v head value bs low (omega arith) h ten up_to_lem over_by fills) refl (encodes_runs e)
encodes_runs {w} (bit_packed_run g head ys run xs bs low high h ten eight fills e) =
    one_more (packed ys) ys xs (runs_from w 0 (head ++ (run ++ bs))) (runs_from w 0 bs)
    (packed_in_front w g head ys run bs low (omega arith) h ten eight fills (encodes_bytes e)) refl (encodes_runs e)

pub reads : ReadsWhatIsEncoded
reads w limit xs bs e h =
    let c = encodes_runs e in
    let rs = runs_from w 0 bs in
    flow_good limit rs.runs rs.stop (subst (Below limit) (sym c.1) h)
    ∙ (ap (λ t. record { numbers = t; end = end_of rs.stop }) c.1 ∙ ap (λ s. record { numbers = xs; end = end_of s }) c.0)

-- Bytes that are runs to their end, none a packed run of no groups.
abbrev pub RunsThrough : ℕ → List ℕ → Type 0
RunsThrough w bs = (Below 256 bs) × ((runs_from w 0 bs).stop ≡ finished) × AllByRecursion HasNumbers (runs_from w 0 bs).runs

-- They are an encoding of their numbers.
abbrev pub Encoded : ℕ → List ℕ → Type 0
Encoded w bs = Encodes w (all_of (runs_from w 0 bs).runs) bs

not_through : (w : ℕ) (bs : List ℕ) (s : Stop) → RunsThrough w bs → runs_from w 0 bs ≡ no_runs s → (s ≡ finished → ⊥) → Encoded w bs
not_through w bs s t e other = absurd (other (sym (ap (λ r. r.stop) e) ∙ t.1))

through_behind : (w : ℕ) (d rest : List ℕ) (r : Run) → RunsThrough w d → Below 256 rest → runs_from w 0 d ≡ then_runs r (runs_from w 0 rest)
    → (RunsThrough w rest) × HasNumbers r
through_behind w d rest r t b e =
    let a : AllByRecursion HasNumbers (r ∷ (runs_from w 0 rest).runs) = subst (λ x. AllByRecursion HasNumbers x.runs) e t.2 in
    ((b, sym (ap (λ x. x.stop) e) ∙ t.1, a.1), a.0)

-- the bytes, cut behind the header and behind the run
three_parts : (n k : ℕ) (d : List ℕ) → take n d ++ (take k (drop n d) ++ drop (n + k) d) ≡ d
three_parts n k d =
    ap (λ t. take n d ++ (take k (drop n d) ++ t)) (sym (drop-drop k n d))
    ∙ (ap (λ t. take n d ++ t) (take-append-drop k (drop n d)) ∙ take-append-drop n d)

runs_cut : (w n k : ℕ) (d : List ℕ) → runs_from w (0 + 1 + n + k) d ≡ runs_from w 0 (drop (suc n + k) d)
runs_cut w n k d = let e : 0 + 1 + n + k ≡ suc n + k = omega arith in runs_at w (0 + 1 + n + k) d ∙ ap (λ j. runs_from w 0 (drop j d)) e

some_groups : (w g : ℕ) (bs : List ℕ) → HasNumbers (packed (low_first w (8 * g) bs)) → 1 ≤ g
some_groups w zero bs h = absurd h
some_groups w (suc g) bs h = omega arith

-- a fault is no end of the bytes
not_finished : (f : RunFault) → stop_of f ≡ finished → ⊥
not_finished LongHeader e = let z : ◌≡◌ {A = ℕ} 0 1 = cc in omega arith
not_finished LongRun e = let z : ◌≡◌ {A = ℕ} 0 1 = cc in omega arith
not_finished NoValue e = let z : ◌≡◌ {A = ℕ} 0 1 = cc in omega arith

-- one run in front of an encoding
module _ (w h n : ℕ) (d : List ℕ) (through : RunsThrough w d) (head : header 10 d ≡ header_of h n) where
  encoded_repeated : (c v : ℕ) → start w h (drop (0 + 1 + n) d) ≡ Ok (Some (Repeated c v)) → ((k : ℕ) → RunsThrough w (drop (suc k) d) → Encoded w (drop (suc k) d)) → Encoded w d
  encoded_repeated c v s ih =
      let k : ℕ = value_bytes w in
      let ds : List ℕ = drop (suc n) d in
      let e1 : 0 + 1 + n ≡ suc n = omega arith in
      let s1 : start w h ds ≡ Ok (Some (Repeated c v)) = ap (λ j. start w h (drop j d)) (sym e1) ∙ s in
      let bound = repeated_bounds w h ds c v s1 in
      let twice : h ≡ 2 * c = repeated_header w h ds c v s1 in
      let varint = header_varint 10 d h n through.0 head in
      let rest : List ℕ = drop (suc n + k) d in
      let run : runs_from w 0 d ≡ then_runs (repeated c v) (runs_from w 0 rest) = runs_start w 0 d h n (Ok (Some (Repeated c v))) head s ∙ ap (then_runs (repeated c v)) (runs_cut w n k d) in
      let on = through_behind w d rest (repeated c v) through (All-drop (λ b. b < 256) (suc n + k) d through.0) run in
      let e2 : suc n + k ≡ suc (n + k) = omega arith in
      let later : Encoded w rest = subst (λ j. RunsThrough w (drop j d) → Encoded w (drop j d)) (sym e2) (ih (n + k)) on.0 in
      let value : List ℕ = take k ds in
      let size : length value ≡ k = length-take-le k ds bound.2 in
      let fills : Fills (8 * k) (le value ∷ []) value = fills_value k value (All-take (λ b. b < 256) k ds (All-drop (λ b. b < 256) (suc n) d through.0)) size in
      let enc : Encodes w (replicate c v ++ all_of (runs_from w 0 rest).runs) (take (suc n) d ++ (value ++ rest)) =
      rle_run c k v (take (suc n) d) value (all_of (runs_from w 0 rest).runs) rest (omega (arith, bound.0)) (omega (arith, bound.1)) (subst (λ x. Varint x (take (suc n) d)) twice varint.0)
      (omega (arith, varint.1, length-take-le (suc n) d (omega (arith, varint.2)))) (omega arith) (omega arith) (subst (λ x. Fills (8 * k) (x ∷ []) value) (sym bound.3) fills) later in
      subst (λ xs. Encodes w xs d) (sym (ap (λ r. all_of r.runs) run)) (subst (Encodes w (replicate c v ++ all_of (runs_from w 0 rest).runs)) (three_parts (suc n) k d) enc)

  encoded_packed : (g : ℕ) → start w h (drop (0 + 1 + n) d) ≡ Ok (Some (Packed g)) → ((k : ℕ) → RunsThrough w (drop (suc k) d) → Encoded w (drop (suc k) d)) → Encoded w d
  encoded_packed g s ih =
      elim (cases_Bool (leb (w * g) (length (drop (0 + 1 + n) d)))) [
        | inl there ↦ whole (leb-true (w * g) (length (drop (0 + 1 + n) d)) there)
            (runs_start w 0 d h n (Ok (Some (Packed g))) head s ∙ cond-true (leb (w * g) (length (drop (0 + 1 + n) d))) _ _ there)
        | inr cut ↦
            (let e : runs_from w 0 d ≡ then_runs (packed (low_first w (8 * length (drop (0 + 1 + n) d) / w) (drop (0 + 1 + n) d))) (no_runs cut_run) =
            runs_start w 0 d h n (Ok (Some (Packed g))) head s ∙ cond-false (leb (w * g) (length (drop (0 + 1 + n) d))) _ _ cut in
            let stops : cut_run ≡ finished = sym (ap (λ r. r.stop) e) ∙ through.1 in
            let z : ◌≡◌ {A = ℕ} 0 1 = cc in
            absurd (omega arith))
      ]
    where
      whole : w * g ≤ length (drop (0 + 1 + n) d)
          → runs_from w 0 d ≡ then_runs (packed (low_first w (8 * g) (drop (0 + 1 + n) d))) (runs_from w (0 + 1 + n + w * g) d) → Encoded w d
      whole l run0 =
          let k : ℕ = w * g in
          let ds : List ℕ = drop (suc n) d in
          let e1 : 0 + 1 + n ≡ suc n = omega arith in
          let l1 : k ≤ length ds = subst (λ j. k ≤ length (drop j d)) e1 l in
          let ys : List ℕ = low_first w (8 * g) ds in
          let bound = packed_bounds w h (drop (0 + 1 + n) d) g s in
          let varint = header_varint 10 d h n through.0 head in
          let rest : List ℕ = drop (suc n + k) d in
          let run : runs_from w 0 d ≡ then_runs (packed ys) (runs_from w 0 rest) =
          run0 ∙ (ap (λ j. then_runs (packed (low_first w (8 * g) (drop j d))) (runs_from w (0 + 1 + n + k) d)) e1 ∙ ap (then_runs (packed ys)) (runs_cut w n k d)) in
          let on = through_behind w d rest (packed ys) through (All-drop (λ b. b < 256) (suc n + k) d through.0) run in
          let e2 : suc n + k ≡ suc (n + k) = omega arith in
          let later : Encoded w rest = subst (λ j. RunsThrough w (drop j d) → Encoded w (drop j d)) (sym e2) (ih (n + k)) on.0 in
          let bits : 8 * g * w ≡ 8 * k = mul_assoc 8 g w ∙ ap (λ t. 8 * t) (mul_comm g w) in
          let fills : Fills w ys (take k ds) = fills_read w (8 * g) k ds (All-drop (λ b. b < 256) (suc n) d through.0) bits l1 in
          let enc : Encodes w (ys ++ all_of (runs_from w 0 rest).runs) (take (suc n) d ++ (take k ds ++ rest)) =
          bit_packed_run g (take (suc n) d) ys (take k ds) (all_of (runs_from w 0 rest).runs) rest (some_groups w g ds on.1) (omega (arith, bound.0)) (subst (λ x. Varint x (take (suc n) d)) bound.1 varint.0)
          (omega (arith, varint.1, length-take-le (suc n) d (omega (arith, varint.2)))) (length_below w (8 * g) (le ds)) fills later in
          subst (λ xs. Encodes w xs d) (sym (ap (λ r. all_of r.runs) run)) (subst (Encodes w (ys ++ all_of (runs_from w 0 rest).runs)) (three_parts (suc n) k d) enc)

  encoded_run : (s : Result (Option Start) RunFault) → start w h (drop (0 + 1 + n) d) ≡ s → ((k : ℕ) → RunsThrough w (drop (suc k) d) → Encoded w (drop (suc k) d)) → Encoded w d
  encoded_run (Err f) s ih = not_through w d (stop_of f) through (runs_start w 0 d h n (Err f) head s) (not_finished f)
  encoded_run (Ok None) s ih = not_through w d header_zero through (runs_start w 0 d h n (Ok None) head s) (λ e. let z : ◌≡◌ {A = ℕ} 0 1 = cc in omega arith)
  encoded_run (Ok (Some (Repeated c v))) s ih = encoded_repeated c v s ih
  encoded_run (Ok (Some (Packed g))) s ih = encoded_packed g s ih

encoded_head : (w : ℕ) (d : List ℕ) (r : Result (Option Header) RunFault) → header 10 d ≡ r → 0 < length d → RunsThrough w d → ((k : ℕ) → RunsThrough w (drop (suc k) d) → Encoded w (drop (suc k) d)) → Encoded w d
encoded_head w d (Err f) e l t ih = not_through w d (stop_of f) t (first_fault w d f e) (not_finished f)
encoded_head w d (Ok None) e l t ih = not_through w d cut_header t (first_cut w d e l) (λ e. let z : ◌≡◌ {A = ℕ} 0 1 = cc in omega arith)
encoded_head w d (Ok (Some p)) e l t ih = encoded_run w p.number p.more d t e (start w p.number (drop (0 + 1 + p.more) d)) refl ih

encoded_upto : (most w : ℕ) (bs : List ℕ) → length bs ≤ most → RunsThrough w bs → Encoded w bs
encoded_upto most w [] l t = nothing
encoded_upto zero w (b ∷ bs) l t = absurd (omega arith)
encoded_upto (suc most) w (b ∷ bs) l t =
    encoded_head w (b ∷ bs) (header 10 (b ∷ bs)) refl (omega arith) t
    (λ k u. encoded_upto most w (drop k bs) (omega (arith, length-drop k bs)) u)

pub encoded : EncodedWhereItReads
encoded w limit bs b s runs clean_End =
    subst (λ xs. Encodes w xs bs) (sym (flow_clean limit (runs_from w 0 bs).runs (runs_from w 0 bs).stop clean_End)) (encoded_upto (length bs) w bs (omega arith) (b, s, runs))

cases_numbers : (rs : List Run) → AllByRecursion HasNumbers rs ⊎ (AllByRecursion HasNumbers rs → ⊥)
cases_numbers [] = inl tt
cases_numbers (repeated n v ∷ rs) = elim (cases_numbers rs) [ inl h ↦ inl (tt, h) | inr h ↦ inr (λ a. h a.1) ]
cases_numbers (packed [] ∷ rs) = inr (λ a. a.0)
cases_numbers (packed (x ∷ xs) ∷ rs) = elim (cases_numbers rs) [ inl h ↦ inl (tt, h) | inr h ↦ inr (λ a. h a.1) ]

encoded_or_ours : (w limit : ℕ) (bs : List ℕ) (s : Stop) → (runs_from w 0 bs).stop ≡ s → end_of s ≡ clean → Below 256 bs → (hybrid w limit bs).end ≡ clean
    → Encodes w (hybrid w limit bs).numbers bs ⊎ Ours w bs
encoded_or_ours w limit bs finished s c b e =
    elim (cases_numbers (runs_from w 0 bs).runs) [ inl h ↦ inl (encoded w limit bs b s h e) | inr h ↦ inr (with_no_groups h) ]
encoded_or_ours w limit bs header_zero s c b e = inr (with_header_zero s)
encoded_or_ours w limit bs cut_header s c b e = inr (with_cut_header s)
encoded_or_ours w limit bs cut_run s c b e = inr (with_cut_run s)
encoded_or_ours w limit bs long_header s c b e = let z : ◌≡◌ {A = ℕ} 0 1 = cc in absurd (omega arith)
encoded_or_ours w limit bs long_run s c b e = let z : ◌≡◌ {A = ℕ} 0 1 = cc in absurd (omega arith)
encoded_or_ours w limit bs no_value s c b e = let z : ◌≡◌ {A = ℕ} 0 1 = cc in absurd (omega arith)

pub classified : CleanIsEncodedOrOurs
classified w limit bs b e =
    let rs = runs_from w 0 bs in
    encoded_or_ours w limit bs rs.stop refl (flow_clean_stop limit rs.runs rs.stop e) b e
