-- What writes to an area's memory make of it.
use Rattle.std.proofs.Common.{◌≡◌, ℕ, ◌+◌, ◌-◌, ◌<◌, ◌≤◌, min, List, [], ◌∷◌, ◌++◌, length, get_or, take, drop, set, replicate, sym, refl, ap, ◌∙◌, inl, inr, arith}
use lib.Seq.{paste}
use borrow.Rule.Slice.PartMut.{put_mid}
use Rattle.area.specs.declared.area.Area.{Area}
use Rattle.area.specs.Areas.{cells, room, counted, holding, appended, advanced, blank_from, blanked}
use Rattle.std.proofs.lemmas.Slice.{take-put_mid_below}
use Rattle.std.proofs.lemmas.List.Edits.{paste_all}
use Rattle.std.proofs.lemmas.Bool.Decides.{leb_tells}
use Rattle.std.proofs.lemmas.List.{take_min, append-nil, append_assoc, drop_all, drop_more, set_at, replicate_more, length-replicate, drop-append-le, take-append-drop, length-drop, length-take, length-append, drop-drop, take_all}

-- a front and a rest at a place past the end are those at the end
pub take_within : {X : Type 0} (k : ℕ) (xs : List X) → take (min k (length xs)) xs ≡ take k xs
take_within k xs = take_min k xs

-- what a write of `zs` to `s[at..at + n]` leaves, where there is room for it behind the count `c`
pub wrote : {X : Type 0} (c at n : ℕ) (xs ys zs : List X) → at ≡ min c (length xs) → length zs ≡ n → n ≤ length xs - c → ys ≡ zs
    → put_mid at ((at + n) - at) xs ys ≡ paste xs c zs (length zs)
wrote c at n xs ys zs a l h e =
    let m : (at + n) - at ≡ n = omega arith in
    let front : take at xs ≡ take c xs = ap (λ (j : ℕ). take j xs) a ∙ take_within c xs in
    let back : drop (at + n) xs ≡ drop (c + n) xs = elim (leb_tells c (length xs)) [
      | inl p ↦ ap (λ (j : ℕ). drop (j + n) xs) (omega (arith, a, p.1))
      | inr p ↦ drop_all (at + n) xs (omega (arith, a, p.1)) ∙ sym (drop_all (c + n) xs (omega (arith, p.1)))
    ] in
    ap (λ k. put_mid at k xs ys) m
    ∙ (ap (λ t. take at xs ++ (t ++ drop n (drop at xs))) e
    ∙ (ap (λ t. take at xs ++ (zs ++ t)) (drop-drop n at xs ∙ back)
    ∙ (ap (λ t. t ++ (zs ++ drop (c + n) xs)) front
    ∙ (ap (λ k. take c xs ++ (zs ++ drop (c + k) xs)) (sym l)
    ∙ sym (paste_all xs c zs (length zs) refl)))))

-- the same memory with the same elements and count
pub held : {X : Type 0} (a : Area X) (m n : ℕ) (ys zs : List X) → ys ≡ zs → m ≡ n → holding a ys m ≡ holding a zs n
held {X} a m n ys zs e f = ap (λ (ws : List X). holding a ws m) e ∙ ap (λ (k : ℕ). holding a zs k) f

-- what a write of `zs` to `s[at..]` leaves
pub wrote_rest : {X : Type 0} (at : ℕ) (xs ys zs : List X) → ys ≡ zs → at ≤ length xs → put_mid at (length xs - at) xs ys ≡ take at xs ++ zs
wrote_rest at xs ys zs e h = ap (λ t. take at xs ++ t) (ap (λ t. ys ++ t) (drop_all (length xs - at) (drop at xs) (simp length-drop (omega arith))) ∙ append-nil ys ∙ e)

-- the blank `b` written from the place `at` on, and the count set to `m`
pub blank_is_lem : {X : Type 0} (b d : X) (a : Area X) (m at : ℕ) (ys : List X) → at ≡ min m (length (cells a)) → d ≡ b → ys ≡ replicate (length (take (length (cells a) - at) (drop at (cells a)))) d
    → holding a (put_mid at (length (cells a) - at) (cells a) ys) m ≡ blank_from b a m
blank_is_lem {X} b d a m at ys p f e =
    let xs = cells a in
    let k : length (take (length xs - at) (drop at xs)) ≡ length xs - m = simp (length-take, length-drop) (omega (arith, p)) in
    let front : take at xs ≡ take m xs = ap (λ (j : ℕ). take j xs) p ∙ take_within m xs in
    let back : ys ≡ replicate (length xs - m) b = e ∙ (ap (λ (j : ℕ). replicate j d) k ∙ ap (λ (z : X). replicate (length xs - m) z) f) in
    held a _ _ _ _ (wrote_rest at xs ys _ back (omega (arith, p)) ∙ ap (λ t. t ++ replicate (length xs - m) b) front) refl

-- A part `[at..at + m]` behind the count was lent on, and holds `zs` and then what it held; the area was then advanced by them: they are appended.
pub lent_part : {X : Type 0} (a : Area X) (at m k : ℕ) (zs ys : List X) → at ≡ counted a → length zs ≡ k → k ≤ m → m ≤ room a
    → ys ≡ zs ++ drop k (take ((at + m) - at) (drop at (cells a)))
    → advanced (holding a (put_mid at ((at + m) - at) (cells a) ys) a.count) k ≡ appended a zs
lent_part {X} a at m k zs ys p l h r e =
    let xs = cells a in
    let n : (at + m) - at ≡ m = omega arith in
    let d = drop at xs in
    let ld : length d ≡ length xs - at = length-drop at xs in
    let q : drop k (take m d) ++ drop m d ≡ drop k d = sym (drop-append-le k (take m d) (drop m d) (simp length-take (omega (arith, ld, p)))) ∙ ap (drop k) (take-append-drop m d) in
    let y : put_mid at ((at + m) - at) xs ys ≡ put_mid at ((at + k) - at) xs zs =
    ap (λ z. take at xs ++ (z ++ drop ((at + m) - at) d)) e
    ∙ (ap (λ (j : ℕ). take at xs ++ ((zs ++ drop k (take j d)) ++ drop j d)) n
    ∙ (ap (λ z. take at xs ++ z) (append_assoc zs (drop k (take m d)) (drop m d) ∙ ap (λ z. zs ++ z) q)
    ∙ (let o : k ≡ (at + k) - at = omega arith in ap (λ (j : ℕ). take at xs ++ (zs ++ drop j d)) o))) in
    let w : put_mid at ((at + m) - at) xs ys ≡ paste xs a.count zs (length zs) = y ∙ wrote a.count at k xs zs zs p l (omega arith) refl in
    let len : length (put_mid at ((at + m) - at) xs ys) ≡ length xs = ap length y ∙ simp (length-append, length-take, length-drop) (omega (arith, p)) in
    let c : a.count + min k (length (put_mid at ((at + m) - at) xs ys) - a.count) ≡ a.count + length zs = omega (arith, len) in
    held a _ _ _ _ w c

-- The same of the whole part behind the count, `[at..]`.
pub lent_on : {X : Type 0} (a : Area X) (at k : ℕ) (zs ys : List X) → at ≡ counted a → length zs ≡ k → k ≤ room a
    → ys ≡ zs ++ drop k (take (length (cells a) - at) (drop at (cells a)))
    → advanced (holding a (put_mid at (length (cells a) - at) (cells a) ys) a.count) k ≡ appended a zs
lent_on {X} a at k zs ys p l h e =
    let xs = cells a in
    let n : (at + room a) - at ≡ length xs - at = omega (arith, p) in
    let f : ys ≡ zs ++ drop k (take ((at + room a) - at) (drop at xs)) = e ∙ ap (λ (j : ℕ). zs ++ drop k (take j (drop at xs))) (sym n) in
    ap (λ (j : ℕ). advanced (holding a (put_mid at j xs ys) a.count) k) (sym n) ∙ lent_part a at (room a) k zs ys p l h (omega arith) f

-- Whatever a part behind the place `n` holds after it was lent on, an area set back to `n` is as if it had not been.
pub lent_blank : {X : Type 0} (b : X) (a : Area X) (at m n : ℕ) (ys : List X) → min n a.count ≤ at → at + m ≤ length (cells a) → length ys ≡ m
    → blanked b (holding a (put_mid at m (cells a) ys) a.count) n ≡ blanked b a n
lent_blank {X} b a at m n ys h r l =
    let xs = cells a in
    let k = min n a.count in
    let front : take k (put_mid at m xs ys) ≡ take k xs = take-put_mid_below at m xs ys k h (omega arith) in
    let len : length (put_mid at m xs ys) ≡ length xs = simp (length-append, length-take, length-drop) (omega arith) in
    held a _ _ _ _ (ap (λ z. z ++ replicate (length (put_mid at m xs ys) - k) b) front ∙ ap (λ (j : ℕ). take k xs ++ replicate (j - k) b) len) refl
