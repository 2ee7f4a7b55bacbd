-- Laws of parts of packed numbers, in either order.
use Rattle.std.proofs.Common.{◌≡◌, ℕ, zero, suc, ◌+◌, ◌-◌, ◌*◌, ◌≤◌, List, [], ◌∷◌, ◌++◌, length, take, drop, sym, refl, ap, ◌∙◌, arith}
use Rattle.std.proofs.lemmas.List.{drop-append-le, length-drop, take_all, take-append-drop, take-append-le, take_at}
use Rattle.stream.specs.Packing.{le, be, low_first, high_first}
use Rattle.run.specs.declared.order.Order.{Order}
use Rattle.run.specs.declared.order.Order.TheVariants.{LowFirst, HighFirst}
use Rattle.run.specs.declared.packed.Part.{Part}
use Rattle.run.specs.Packed.{part, numbers}
use Rattle.run.proofs.Laws.{below_more, below_length}
use Rattle.run.proofs.Highs.{above_more, above_length}

-- the first numbers in either order, one more each time
abbrev firsts : Order → ℕ → List ℕ → ℕ → List ℕ
firsts LowFirst w bs n = low_first w n bs
firsts HighFirst w bs n = high_first w n bs

firsts_length : (o : Order) (w : ℕ) (bs : List ℕ) (n : ℕ) → length (firsts o w bs n) ≡ n
firsts_length LowFirst w bs n = below_length w n (le bs)
firsts_length HighFirst w bs n = above_length w n (8 * length bs) (be bs)

firsts_more : (o : Order) (w : ℕ) (bs : List ℕ) (n : ℕ) → (v : ℕ) × (firsts o w bs (suc n) ≡ firsts o w bs n ++ v ∷ [])
firsts_more LowFirst w bs n = (_, below_more w n (le bs))
firsts_more HighFirst w bs n = (_, above_more w n (8 * length bs) (be bs))

part_is : (o : Order) (w a n : ℕ) (bs : List ℕ) → part o w a n bs ≡ drop a (firsts o w bs (a + n))
part_is LowFirst w a n bs = refl
part_is HighFirst w a n bs = refl

firsts_prefix : (o : Order) (w : ℕ) (bs : List ℕ) (m n : ℕ) → take m (firsts o w bs (m + n)) ≡ firsts o w bs m
firsts_prefix o w bs m zero =
    let e : m + 0 ≡ m = omega arith in
    ap (λ k. take m (firsts o w bs k)) e ∙ take_all m (firsts o w bs m) (omega (arith, firsts_length o w bs m))
firsts_prefix o w bs m (suc n) =
    let e : m + suc n ≡ suc (m + n) = omega arith in
    let f = firsts_more o w bs (m + n) in
    let l : m ≤ length (firsts o w bs (m + n)) = omega (arith, firsts_length o w bs (m + n)) in
    ap (λ k. take m (firsts o w bs k)) e ∙ (ap (take m) f.1 ∙ (take-append-le m (firsts o w bs (m + n)) (f.0 ∷ []) l ∙ firsts_prefix o w bs m n))

pub part_length : (o : Order) (w a n : ℕ) (bs : List ℕ) → length (part o w a n bs) ≡ n
part_length o w a n bs = ap length (part_is o w a n bs) ∙ (length-drop a (firsts o w bs (a + n)) ∙ omega (arith, firsts_length o w bs (a + n)))

-- the first `m`, then the next `n`
pub part_split : (o : Order) (w a m n : ℕ) (bs : List ℕ) → part o w a (m + n) bs ≡ part o w a m bs ++ part o w (a + m) n bs
part_split o w a m n bs =
    let e : a + (m + n) ≡ a + m + n = omega arith in
    let xs : List ℕ = firsts o w bs (a + m + n) in
    let p : take (a + m) xs ≡ firsts o w bs (a + m) = firsts_prefix o w bs (a + m) n in
    let l : a ≤ length (take (a + m) xs) = omega (arith, ap length p, firsts_length o w bs (a + m)) in
    part_is o w a (m + n) bs
    ∙ (ap (λ k. drop a (firsts o w bs k)) e
    ∙ (ap (drop a) (sym (take-append-drop (a + m) xs))
    ∙ (drop-append-le a (take (a + m) xs) (drop (a + m) xs) l
    ∙ (ap (λ z. drop a z ++ drop (a + m) xs) p
    ∙ (ap (λ z. z ++ drop (a + m) xs) (sym (part_is o w a m bs))
    ∙ ap (λ z. part o w a m bs ++ z) (sym (part_is o w (a + m) n bs)))))))

pub part_front : (o : Order) (w a m n : ℕ) (bs : List ℕ) → m ≤ n → part o w a m bs ≡ take m (part o w a n bs)
part_front o w a m n bs h =
    let e : m + (n - m) ≡ n = omega arith in
    sym (ap (λ j. take m (part o w a j bs)) (sym e)
    ∙ (ap (take m) (part_split o w a m (n - m) bs) ∙ take_at (part o w a m bs) (part o w (a + m) (n - m) bs) m (part_length o w a m bs)))

pub numbers_length : (p : Part) → length (numbers p) ≡ p.count
numbers_length p = part_length p.order p.width.bits p.skip p.count p.bytes.now
