-- Laws of the numbers of a run.
use Rattle.std.proofs.Common.{◌≡◌, ℕ, zero, suc, ◌+◌, ◌-◌, ◌*◌, ◌/◌, ◌^◌, ◌<◌, ◌≤◌, min, cond, List, ◌∷◌, ◌++◌, map, length, get_or, take, drop, replicate, sym, refl, ap, ◌∙◌, mod-lt, arith, pow_pos, le-ltb}
use Rattle.std.proofs.lemmas.List.{append_assoc, drop-append-le, length-take-le, take-append-drop, take-take, length-replicate, get_or-replicate, get_or-drop, take-replicate, take_min}
use Rattle.stream.specs.Packing.{le, be, from_below, from_above, low_first, high_first}
use Rattle.run.specs.declared.order.Order.{Order}
use Rattle.run.specs.declared.order.Order.TheVariants.{LowFirst, HighFirst}
use Rattle.run.specs.Packed.{part, numbers, good}
use Rattle.run.specs.declared.packed.Part.{Part}
use Rattle.run.proofs.PackedParts.{part_length, numbers_length}
use Rattle.run.proofs.Goods.{good_all, good_most}

-- copies of a number are good, or none of them is
pub good_copies : (limit v n : ℕ) → v < limit → n ≡ good limit (replicate n v)
good_copies limit v n h =
    sym (good_all limit (replicate n v) (λ i l. omega (arith, get_or-replicate n i v 0 (omega (arith, length-replicate n v)))) ∙ length-replicate n v)

-- of `c` copies `m` are looked at, or all that there are
pub copies_good : (limit v m c n : ℕ) → v < limit → n ≡ min m c → n ≡ good limit (take m (replicate c v))
copies_good limit v m c n h e =
    let l : n ≤ c = omega arith in
    good_copies limit v n h
    ∙ ap (good limit) (sym (take-replicate n c v l) ∙ (ap (λ k. take k (replicate c v)) (e ∙ ap (min m) (sym (length-replicate c v))) ∙ take_min m (replicate c v)))

pub bad_copies : (limit v n : ℕ) → limit ≤ v → 0 ≡ good limit (replicate n v)
bad_copies limit v zero h = refl
bad_copies limit v (suc n) h = sym (ap (λ b. cond b (1 + good limit (replicate n v)) 0) (le-ltb v limit h))

below_top : (w n x i : ℕ) → i < n → get_or (from_below w n x) i 0 < 2 ^ w
below_top w zero x i h = absurd (omega arith)
below_top w (suc n) x zero h = mod-lt x (pow_pos w)
below_top w (suc n) x (suc i) h = below_top w n (x / 2 ^ w) i (omega arith)

above_top : (w n t x i : ℕ) → i < n → get_or (from_above w n t x) i 0 < 2 ^ w
above_top w zero t x i h = absurd (omega arith)
above_top w (suc n) t x zero h = mod-lt (x / 2 ^ (t - w)) (pow_pos w)
above_top w (suc n) t x (suc i) h = above_top w n (t - w) x i (omega arith)

part_top : (o : Order) (w a n : ℕ) (bs : List ℕ) (i : ℕ) → i < n → get_or (part o w a n bs) i 0 < 2 ^ w
part_top LowFirst w a n bs i h = omega (arith, get_or-drop a (low_first w (a + n) bs) i 0, below_top w (a + n) (le bs) (a + i) (omega arith))
part_top HighFirst w a n bs i h = omega (arith, get_or-drop a (high_first w (a + n) bs) i 0, above_top w (a + n) (8 * length bs) (be bs) (a + i) (omega arith))

-- packed numbers are good where the limit is above all numbers of the width
pub good_width : (o : Order) (w a n limit : ℕ) (bs : List ℕ) → 2 ^ w ≤ limit → n ≡ good limit (part o w a n bs)
good_width o w a n limit bs h =
    let l = part_length o w a n bs in
    sym (good_all limit (part o w a n bs) (λ i k. omega (arith, part_top o w a n bs i (omega arith))) ∙ l)

map_copies : {X : Type 0} (f : ℕ → X) (n v : ℕ) → replicate n (f v) ≡ map f (replicate n v)
map_copies f zero v = refl
map_copies f (suc n) v = ap (λ z. f v ∷ z) (map_copies f n v)

-- of the numbers of a part `m` are looked at, or all that there are
pub front_good : (p q : Part) (m n : ℕ) → n ≡ min m p.count → numbers q ≡ take n (numbers p) → numbers q ≡ take m (numbers p)
front_good p q m n e f = f ∙ (ap (λ k. take k (numbers p)) (e ∙ ap (min m) (sym (numbers_length p))) ∙ take_min m (numbers p))

pub front_few : (p q : Part) (n k limit : ℕ) → q.count ≡ n → k ≡ good limit (numbers q) → k ≤ n
front_few p q n k limit e g = omega (arith, g, good_most limit (numbers q), numbers_length q, e)

-- what was written into the first `n` of the places, and those behind them
pub wrote_front : {X : Type 0} (f : ℕ → X) (o w : List X) (xs ys : List ℕ) (n k : ℕ) → n ≤ length o → k ≤ n → ys ≡ take n xs
    → w ≡ map f (take k ys) ++ drop k (take n o) → w ++ drop n o ≡ map f (take k xs) ++ drop k o
wrote_front f o w xs ys n k h l e g =
    ap (λ p. p ++ drop n o) (g ∙ ap (λ z. map f z ++ drop k (take n o)) (ap (take k) e ∙ take-take k n xs l))
    ∙ (append_assoc (map f (take k xs)) (drop k (take n o)) (drop n o)
    ∙ ap (λ p. map f (take k xs) ++ p) (sym (drop-append-le k (take n o) (drop n o) (omega (arith, length-take-le n o h))) ∙ ap (drop k) (take-append-drop n o)))

-- the same of copies
pub wrote_copies : {X : Type 0} (f : ℕ → X) (o w : List X) (v c n : ℕ) (y : X) → n ≤ length o → n ≤ c → y ≡ f v → w ≡ replicate (length (take n o)) y
    → w ++ drop n o ≡ map f (take n (replicate c v)) ++ drop n o
wrote_copies f o w v c n y h l g e =
    ap (λ z. z ++ drop n o) (e ∙ (ap (λ k. replicate k y) (length-take-le n o h) ∙ (ap (replicate n) g ∙ (map_copies f n v ∙ ap (map f) (sym (take-replicate n c v l))))))
