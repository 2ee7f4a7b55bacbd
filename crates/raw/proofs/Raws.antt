-- Raw values by their next page.
use Rattle.std.proofs.Common.{◌≡◌, ℕ, suc, ◌+◌, ◌-◌, ◌*◌, ◌/◌, ◌<◌, ◌≤◌, min, List, [], ◌∷◌, length, take, drop, Some, sym, ap, ◌∙◌, inl, inr, arith, take_all}
use native.Mathlib.Nat.{add-div_right, div-eq_of_lt}
use Rattle.std.proofs.lemmas.List.{drop-drop, length-drop, length-take}
use Rattle.std.proofs.lemmas.Bool.{cases_lt}
use Rattle.page.specs.Coming.{ToCome, clean}
use Rattle.raw.specs.declared.Raw.{Raw}
use Rattle.raw.specs.declared.Width.{Width}
use Rattle.raw.specs.declared.Width.TheVariants.{Four, Eight}
use Rattle.raw.specs.Raw.{raw_page, cut_pages, pages_in, raw_pages, raw_of, by_part, bytes_of, page_bytes_of}

-- no byte needs no page, and each page takes s bytes
no_pages : (s : ℕ) → 0 < s → pages_in s 0 ≡ 0
no_pages s h = div-eq_of_lt (omega arith)

one_more : (s n : ℕ) → 0 < s → 0 < n → pages_in s n ≡ suc (pages_in s (n - s))
one_more s n h k =
    elim (cases_lt n s) [
      | inl l ↦ (
          let a : n + (s - 1) ≡ n - 1 + s = omega arith in
          let b : (n - 1) / s ≡ 0 = div-eq_of_lt (omega arith) in
          let d : n - s ≡ 0 = omega arith in
          let e = no_pages s h in
          let f = add-div_right (n - 1) {k = s} h in
          ap (λ t. t / s) a ∙ (f ∙ (omega arith ∙ sym (ap (λ t. suc (pages_in s t)) d))))
      | inr g ↦ (
          let a : n + (s - 1) ≡ n - s + (s - 1) + s = omega arith in
          let f = add-div_right (n - s + (s - 1)) {k = s} h in
          ap (λ t. t / s) a ∙ (f ∙ omega arith))
    ]

none_in : (s w : ℕ) (place : ℕ) (bs : List ℕ) → 0 < s → length bs ≡ 0 → cut_pages (pages_in s (length bs)) w s place bs ≡ []
none_in s w place bs h e = ap (λ n. cut_pages n w s place bs) (ap (pages_in s) e ∙ no_pages s h)

-- nothing is left
pub raw_end : (w k at : ℕ) (vs : List ℕ) → 0 < w * k → length vs ≤ at → raw_pages w k at (drop at vs) ≡ record { pages = []; ends = clean }
raw_end w k at vs h l =
    ap (λ (ps : List ToCome). record { pages = ps; ends = clean }) (none_in (w * k) w at (drop at vs) h (length-drop at vs ∙ omega arith))

some_in : (s w place n : ℕ) (bs : List ℕ) → 0 < s → 0 < length bs → n ≡ min s (length bs)
    → cut_pages (pages_in s (length bs)) w s place bs ≡ raw_page w place (take n bs) ∷ cut_pages (pages_in s (length (drop n bs))) w s (place + n) (drop n bs)
some_in s w place n bs h l e =
    ap (λ m. cut_pages m w s place bs) (one_more s (length bs) h l)
    ∙ elim (cases_lt (length bs) s) [
      | inl m ↦ (
          let a : n ≡ length bs = omega arith in
          let p : take s bs ≡ take n bs = take_all s bs (omega arith) ∙ sym (take_all n bs (omega arith)) in
          let q : pages_in s (length bs - s) ≡ 0 = ap (pages_in s) (let z : length bs - s ≡ 0 = omega arith in z) ∙ no_pages s h in
          let r : length (drop n bs) ≡ 0 = length-drop n bs ∙ omega arith in
          ap (λ t. raw_page w place t ∷ cut_pages (pages_in s (length bs - s)) w s (place + s) (drop s bs)) p
          ∙ ap (λ t. raw_page w place (take n bs) ∷ t)
          (ap (λ m. cut_pages m w s (place + s) (drop s bs)) q ∙ sym (none_in s w (place + n) (drop n bs) h r)))
      | inr g ↦ (
          let a : n ≡ s = omega arith in
          let r : length (drop s bs) ≡ length bs - s = length-drop s bs in
          ap (λ m. raw_page w place (take s bs) ∷ cut_pages (pages_in s m) w s (place + s) (drop s bs)) (sym r)
          ∙ ap (λ m. raw_page w place (take m bs) ∷ cut_pages (pages_in s (length (drop m bs))) w s (place + m) (drop m bs)) (sym a))
    ]

-- n bytes are the next page
pub raw_next : (w k at n : ℕ) (vs : List ℕ) → 0 < w * k → at < length vs → n ≡ min (w * k) (length vs - at)
    → raw_pages w k at (drop at vs) ≡ record { pages = raw_page w at (take n (drop at vs)) ∷ (raw_pages w k (at + n) (drop (at + n) vs)).pages; ends = clean }
raw_next w k at n vs h l e =
    let d = length-drop at vs in
    let m : n ≡ min (w * k) (length (drop at vs)) = e ∙ ap (min (w * k)) (sym d) in
    ap (λ (ps : List ToCome). record { pages = ps; ends = clean })
    (some_in (w * k) w at n (drop at vs) h (omega arith) m
    ∙ ap (λ t. raw_page w at (take n (drop at vs)) ∷ cut_pages (pages_in (w * k) (length t)) w (w * k) (at + n) t) (drop-drop n at vs))

-- a page has some bytes
page_some : (w : Width) (k : ℕ) → 0 < k → 0 < bytes_of w * k
page_some Four k h = omega arith
page_some Eight k h = omega arith

-- the code's source, with no value left, and with n bytes in its next page
pub part_none : (r : Raw) → length r.values.now ≤ r.at → raw_of r ≡ record { pages = []; ends = clean }
part_none r h = raw_end (bytes_of r.width) r.page_values.count r.at r.values.now (page_some r.width r.page_values.count r.page_values.some) h

same_part : (r : Raw) (n : ℕ) (t : List ℕ) → t ≡ take n (drop r.at r.values.now) → length t ≡ n
    → raw_of r ≡ record { pages = raw_page (bytes_of r.width) r.at (take n (drop r.at r.values.now)) ∷ (raw_pages (bytes_of r.width) r.page_values.count (r.at + n) (drop (r.at + n) r.values.now)).pages; ends = clean }
    → raw_of r ≡ record { pages = raw_page (bytes_of r.width) r.at t ∷ (raw_pages (bytes_of r.width) r.page_values.count (r.at + length t) (drop (r.at + length t) r.values.now)).pages; ends = clean }
same_part r n t e l q =
    q
    ∙ (ap (λ (u : List ℕ). record { pages = raw_page (bytes_of r.width) r.at u ∷ (raw_pages (bytes_of r.width) r.page_values.count (r.at + n) (drop (r.at + n) r.values.now)).pages; ends = clean }) (sym e)
    ∙ ap (λ (m : ℕ). record { pages = raw_page (bytes_of r.width) r.at t ∷ (raw_pages (bytes_of r.width) r.page_values.count (r.at + m) (drop (r.at + m) r.values.now)).pages; ends = clean }) (sym l))

pub part_length : (at n : ℕ) (vs : List ℕ) → at + n ≤ length vs → length (take (at + n - at) (drop at vs)) ≡ n
part_length at n vs h = length-take (at + n - at) (drop at vs) ∙ (ap (min (at + n - at)) (length-drop at vs) ∙ omega arith)

pub part_some : (r : Raw) (n : ℕ) → r.at < length r.values.now → n ≡ min (page_bytes_of r) (length r.values.now - r.at)
    → raw_of r ≡ by_part r (Some (record { ref_ptr = r.values.ref_ptr; now = take (r.at + n - r.at) (drop r.at r.values.now) }))
part_some r n h e =
    same_part r n (take (r.at + n - r.at) (drop r.at r.values.now))
    (ap (λ m. take m (drop r.at r.values.now)) (let z : r.at + n - r.at ≡ n = omega arith in z))
    (part_length r.at n r.values.now (omega arith))
    (raw_next (bytes_of r.width) r.page_values.count r.at n r.values.now (page_some r.width r.page_values.count r.page_values.some) h e)
