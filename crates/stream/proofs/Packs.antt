-- Packed numbers read on from a place.
use Rattle.std.proofs.Common.{◌≡◌, ℕ, zero, suc, ◌+◌, ◌-◌, ◌*◌, ◌/◌, ◌%◌, ◌^◌, ◌<◌, ◌≤◌, List, [], ◌∷◌, ◌++◌, length, take, drop, sym, refl, ap, ◌∙◌, mul_assoc, suc-mul, mul_comm, mul-add, arith, pow_pos, pow-add}
use native.Mathlib.Nat.{add-mul-div_left, add-mul-mod_self_left, div-eq_of_lt}
use Rattle.std.proofs.lemmas.Nat.{shr-shr}
use Rattle.std.proofs.ByRecursion.{All-take}
use Rattle.std.proofs.lemmas.List.{length-take-le, length-drop}
use Rattle.stream.specs.Grammar.{Below}
use Rattle.stream.specs.Packing.{le, be, from_below, from_above, low_first, high_first}
use Rattle.stream.proofs.Bits.{above_split, above_mod, above_div}
use Rattle.stream.proofs.Filling.{le_take, le_below, byte_powers}

-- From the lowest bit up.

pub below_first : (w n x : ℕ) → 1 ≤ n → from_below w n x ≡ x % 2 ^ w ∷ from_below w (n - 1) (x / 2 ^ w)
below_first w zero x h = absurd (omega arith)
below_first w (suc n) x h = let e : n ≡ suc n - 1 = omega arith in ap (λ k. x % 2 ^ w ∷ from_below w k (x / 2 ^ w)) e

pub below_add : (w a b x : ℕ) → from_below w (a + b) x ≡ from_below w a x ++ from_below w b (x / 2 ^ (a * w))
below_add w zero b x =
    let e : 0 + b ≡ b = omega arith in
    let z : 0 * w ≡ 0 = omega arith in
    let d : x ≡ x / 2 ^ (0 * w) = (let o : x ≡ x / 2 ^ 0 = omega arith in o ∙ ap (λ k. x / 2 ^ k) (sym z)) in
    ap (λ n. from_below w n x) e ∙ ap (from_below w b) d
below_add w (suc a) b x =
    let e : suc a + b ≡ suc (a + b) = omega arith in
    let f : w + a * w ≡ suc a * w = omega (arith, suc-mul a w) in
    let d : x / 2 ^ w / 2 ^ (a * w) ≡ x / 2 ^ (suc a * w) = shr-shr x w (a * w) ∙ ap (λ k. x / 2 ^ k) f in
    ap (λ n. from_below w n x) e
    ∙ (ap (λ t. x % 2 ^ w ∷ t) (below_add w a b (x / 2 ^ w)) ∙ ap (λ q. x % 2 ^ w ∷ (from_below w a (x / 2 ^ w) ++ from_below w b q)) d)

-- they do not hang on the bits above them
pub below_low : (w n k a y : ℕ) → n * w ≤ k → from_below w n (a + 2 ^ k * y) ≡ from_below w n a
below_low w zero k a y h = refl
below_low w (suc n) k a y h =
    let e = suc-mul n w in
    let l : w ≤ k = omega arith in
    let m : n * w ≤ k - w = omega arith in
    ap (λ z. z ∷ from_below w n ((a + 2 ^ k * y) / 2 ^ w)) (above_mod a k w y l)
    ∙ (ap (λ z. a % 2 ^ w ∷ from_below w n z) (above_div a k w y l) ∙ ap (λ z. a % 2 ^ w ∷ z) (below_low w n (k - w) (a / 2 ^ w) y m))

pub le_drop : (k : ℕ) (bs : List ℕ) → Below 256 bs → k ≤ length bs → le bs / 2 ^ (8 * k) ≡ le (drop k bs)
le_drop k bs h l =
    let t : List ℕ = take k bs in
    let size : length t ≡ k = length-take-le k bs l in
    let small = le_below t (All-take (λ b. b < 256) k bs h) in
    let none : le t / 2 ^ (8 * length t) ≡ 0 = div-eq_of_lt small in
    let at : le t / 2 ^ (8 * k) ≡ 0 = ap (λ j. le t / 2 ^ (8 * j)) (sym size) ∙ none in
    let whole = add-mul-div_left (le t) (le (drop k bs)) (pow_pos (8 * k)) in
    let split = ap (λ x. x / 2 ^ (8 * k)) (le_take k bs l) in
    omega arith

-- the bytes behind do not matter
pub low_first_take : (w n k : ℕ) (bs : List ℕ) → n * w ≤ 8 * k → k ≤ length bs → low_first w n (take k bs) ≡ low_first w n bs
low_first_take w n k bs h l = sym (ap (from_below w n) (le_take k bs l) ∙ below_low w n (8 * k) (le (take k bs)) (le (drop k bs)) h)

-- `a` groups of eight, then `b` numbers
pub low_first_groups : (w a b : ℕ) (bs : List ℕ) → Below 256 bs → w * a ≤ length bs
    → low_first w (8 * a + b) bs ≡ low_first w (8 * a) bs ++ low_first w b (drop (w * a) bs)
low_first_groups w a b bs h l =
    let e : 8 * a * w ≡ 8 * (w * a) = mul_assoc 8 a w ∙ ap (λ t. 8 * t) (mul_comm a w) in
    below_add w (8 * a) b (le bs)
    ∙ ap (λ x. low_first w (8 * a) bs ++ from_below w b x) (ap (λ k. le bs / 2 ^ k) e ∙ le_drop (w * a) bs h l)

-- From the highest bit down.

pub above_first : (w n t x : ℕ) → 1 ≤ n → from_above w n t x ≡ x / 2 ^ (t - w) % 2 ^ w ∷ from_above w (n - 1) (t - w) x
above_first w zero t x h = absurd (omega arith)
above_first w (suc n) t x h = let e : n ≡ suc n - 1 = omega arith in ap (λ k. x / 2 ^ (t - w) % 2 ^ w ∷ from_above w k (t - w) x) e

pub above_add : (w a b t x : ℕ) → from_above w (a + b) t x ≡ from_above w a t x ++ from_above w b (t - a * w) x
above_add w zero b t x =
    let e : 0 + b ≡ b = omega arith in
    let f : t ≡ t - 0 * w = omega arith in
    ap (λ n. from_above w n t x) e ∙ ap (λ k. from_above w b k x) f
above_add w (suc a) b t x =
    let e : suc a + b ≡ suc (a + b) = omega arith in
    let f : t - w - a * w ≡ t - suc a * w = omega (arith, suc-mul a w) in
    let y : ℕ = x / 2 ^ (t - w) % 2 ^ w in
    ap (λ n. from_above w n t x) e
    ∙ (ap (λ z. y ∷ z) (above_add w a b (t - w) x) ∙ ap (λ k. y ∷ (from_above w a (t - w) x ++ from_above w b k x)) f)

-- they do not hang on the bits above the first
pub above_low : (w n t a y : ℕ) → n * w ≤ t → from_above w n t (a + 2 ^ t * y) ≡ from_above w n t a
above_low w zero t a y h = refl
above_low w (suc n) t a y h =
    let e = suc-mul n w in
    let l : t - w ≤ t = omega arith in
    let m : n * w ≤ t - w = omega arith in
    let k : t - (t - w) ≡ w = omega arith in
    let x : ℕ = a + 2 ^ t * y in
    let d : x / 2 ^ (t - w) ≡ a / 2 ^ (t - w) + 2 ^ w * y = above_div a t (t - w) y l ∙ ap (λ j. a / 2 ^ (t - w) + 2 ^ j * y) k in
    let r : x / 2 ^ (t - w) % 2 ^ w ≡ a / 2 ^ (t - w) % 2 ^ w = ap (λ q. q % 2 ^ w) d ∙ add-mul-mod_self_left (a / 2 ^ (t - w)) (2 ^ w) y in
    let s : x ≡ a + 2 ^ (t - w) * (2 ^ (t - (t - w)) * y) = ap (λ q. a + q) (above_split t (t - w) y l) in
    ap (λ z. z ∷ from_above w n (t - w) x) r
    ∙ (ap (λ z. a / 2 ^ (t - w) % 2 ^ w ∷ from_above w n (t - w) z) s
    ∙ ap (λ z. a / 2 ^ (t - w) % 2 ^ w ∷ z) (above_low w n (t - w) a (2 ^ (t - (t - w)) * y) m))

pub be_split : (k : ℕ) (bs : List ℕ) → k ≤ length bs → be bs ≡ be (drop k bs) + 2 ^ (8 * length (drop k bs)) * be (take k bs)
be_split zero bs h = let e = mul_comm (2 ^ (8 * length bs)) 0 in let z : 0 * 2 ^ (8 * length bs) ≡ 0 = omega arith in omega arith
be_split (suc k) [] h = absurd (omega arith)
be_split (suc k) (b ∷ bs) h =
    let r = be_split k bs (omega arith) in
    let t : List ℕ = take k bs in
    let m : ℕ = length (drop k bs) in
    let size : length t ≡ k = length-take-le k bs (omega arith) in
    let all : length bs ≡ k + m = omega (arith, length-drop k bs) in
    let p : 256 ^ length bs ≡ 256 ^ m * 256 ^ k = ap (λ n. 256 ^ n) all ∙ (pow-add 256 k m ∙ mul_comm (256 ^ k) (256 ^ m)) in
    let q : b * 256 ^ length bs ≡ 256 ^ m * (b * 256 ^ k) =
    ap (λ z. b * z) p ∙ (sym (mul_assoc b (256 ^ m) (256 ^ k)) ∙ (ap (λ z. z * 256 ^ k) (mul_comm b (256 ^ m)) ∙ mul_assoc (256 ^ m) b (256 ^ k))) in
    let u : b * 256 ^ k + be t ≡ be (b ∷ t) = ap (λ n. b * 256 ^ n + be t) (sym size) in
    let v : 2 ^ (8 * m) * be (b ∷ t) ≡ 256 ^ m * (b * 256 ^ k) + 2 ^ (8 * m) * be t =
    ap (λ z. 2 ^ (8 * m) * z) (sym u) ∙ (mul-add (2 ^ (8 * m)) (b * 256 ^ k) (be t) ∙ ap (λ z. z * (b * 256 ^ k) + 2 ^ (8 * m) * be t) (sym (byte_powers m))) in
    omega arith

-- `a` groups of eight, then `b` numbers
pub high_first_groups : (w a b : ℕ) (bs : List ℕ) → w * a ≤ length bs → b * w ≤ 8 * (length bs - w * a)
    → high_first w (8 * a + b) bs ≡ high_first w (8 * a) bs ++ high_first w b (drop (w * a) bs)
high_first_groups w a b bs l m =
    let e : 8 * a * w ≡ 8 * (w * a) = mul_assoc 8 a w ∙ ap (λ t. 8 * t) (mul_comm a w) in
    let ds : List ℕ = drop (w * a) bs in
    let size = length-drop (w * a) bs in
    let f : 8 * length bs - 8 * a * w ≡ 8 * length ds = omega arith in
    above_add w (8 * a) b (8 * length bs) (be bs)
    ∙ ap (λ z. high_first w (8 * a) bs ++ z)
    (ap (λ k. from_above w b k (be bs)) f
    ∙ (ap (from_above w b (8 * length ds)) (be_split (w * a) bs l) ∙ above_low w b (8 * length ds) (be ds) (be (take (w * a) bs)) (omega arith)))
