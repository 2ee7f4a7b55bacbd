-- The bits of numbers, as lists.
use Rattle.std.proofs.Common.{◌≡◌, ℕ, zero, suc, ◌+◌, ◌-◌, ◌*◌, ◌/◌, ◌%◌, ◌^◌, ◌<◌, ◌≤◌, List, [], ◌∷◌, ◌++◌, reverse, length, take, sym, refl, ap, ◌∙◌, mul_assoc, pow-suc, arith, pow_pos, pow-add}
use native.Mathlib.Nat.{add-mul-mod_self_left, add-mul-div_left, mod-add-div}
use Rattle.std.proofs.lemmas.Nat.{shr-shr}
use Rattle.std.proofs.lemmas.List.{append_assoc, length-reverse, reverse-reverse}
use Rattle.std.specs.List.{flat_map}
use Rattle.stream.specs.Grammar.{up, down, Below}

-- a number with something above its `k` lowest bits
pub above_split : (k w y : ℕ) → w ≤ k → 2 ^ k * y ≡ 2 ^ w * (2 ^ (k - w) * y)
above_split k w y h =
    let e : k ≡ w + (k - w) = omega arith in
    ap (λ j. 2 ^ j * y) e ∙ (ap (λ t. t * y) (pow-add 2 w (k - w)) ∙ mul_assoc (2 ^ w) (2 ^ (k - w)) y)

pub above_mod : (a k w y : ℕ) → w ≤ k → (a + 2 ^ k * y) % 2 ^ w ≡ a % 2 ^ w
above_mod a k w y h = ap (λ t. (a + t) % 2 ^ w) (above_split k w y h) ∙ add-mul-mod_self_left a (2 ^ w) (2 ^ (k - w) * y)

pub above_div : (a k w y : ℕ) → w ≤ k → (a + 2 ^ k * y) / 2 ^ w ≡ a / 2 ^ w + 2 ^ (k - w) * y
above_div a k w y h = ap (λ t. (a + t) / 2 ^ w) (above_split k w y h) ∙ add-mul-div_left a (2 ^ (k - w) * y) (pow_pos w)

-- the lowest bits do not hang on what lies above
pub up_low : (w k a y : ℕ) → w ≤ k → up w (a + 2 ^ k * y) ≡ up w a
up_low zero k a y h = refl
up_low (suc w) k a y h =
    let l : 1 ≤ k = omega arith in
    let m : w ≤ k - 1 = omega arith in
    ap (λ b. b ∷ up w ((a + 2 ^ k * y) / 2)) (above_mod a k 1 y l)
    ∙ (ap (λ b. a % 2 ∷ up w b) (above_div a k 1 y l) ∙ ap (λ t. a % 2 ∷ t) (up_low w (k - 1) (a / 2) y m))

pub up_mod : (w x : ℕ) → up w (x % 2 ^ w) ≡ up w x
up_mod w x = sym (up_low w w (x % 2 ^ w) (x / 2 ^ w) (omega arith)) ∙ ap (up w) (mod-add-div x (2 ^ w))

pub up_split : (a b x : ℕ) → up (a + b) x ≡ up a x ++ up b (x / 2 ^ a)
up_split zero b x =
    let e : 0 + b ≡ b = omega arith in
    let d : x ≡ x / 2 ^ 0 = omega arith in
    ap (λ n. up n x) e ∙ ap (up b) d
up_split (suc a) b x =
    let e : suc a + b ≡ suc (a + b) = omega arith in
    let f : 1 + a ≡ suc a = omega arith in
    let d : x / 2 / 2 ^ a ≡ x / 2 ^ suc a = shr-shr x 1 a ∙ ap (λ n. x / 2 ^ n) f in
    ap (λ n. up n x) e ∙ (ap (λ t. x % 2 ∷ t) (up_split a b (x / 2)) ∙ ap (λ q. x % 2 ∷ (up a (x / 2) ++ up b q)) d)

pub length_up : (w x : ℕ) → length (up w x) ≡ w
length_up zero x = refl
length_up (suc w) x = ap suc (length_up w (x / 2))

pub length_down : (w x : ℕ) → length (down w x) ≡ w
length_down w x = length-reverse (up w x) ∙ length_up w x

-- a number is known by its bits
pub up_same : (w x y : ℕ) → x < 2 ^ w → y < 2 ^ w → up w x ≡ up w y → x ≡ y
up_same zero x y p q e = omega arith
up_same (suc w) x y p q e =
    let s = pow-suc 2 w in
    let low : x % 2 ≡ y % 2 = cc in
    let t : up w (x / 2) ≡ up w (y / 2) = cc in
    let a : x / 2 < 2 ^ w = omega arith in
    let b : y / 2 < 2 ^ w = omega arith in
    let high : x / 2 ≡ y / 2 = up_same w (x / 2) (y / 2) a b t in
    omega arith

pub down_same : (w x y : ℕ) → x < 2 ^ w → y < 2 ^ w → down w x ≡ down w y → x ≡ y
down_same w x y p q e = up_same w x y p q (sym (reverse-reverse (up w x)) ∙ (ap reverse e ∙ reverse-reverse (up w y)))

-- two lists that begin with parts of one length
pub same_parts : (a b c d : List ℕ) → length a ≡ length b → a ++ c ≡ b ++ d → (a ≡ b) × (c ≡ d)
same_parts [] [] c d l e = (refl, e)
same_parts [] (y ∷ b) c d l e = absurd (omega arith)
same_parts (x ∷ a) [] c d l e = absurd (omega arith)
same_parts (x ∷ a) (y ∷ b) c d l e =
    let h : x ≡ y = cc in
    let t : a ++ c ≡ b ++ d = cc in
    let r = same_parts a b c d (omega arith) t in
    (ap (λ z. z ∷ a) h ∙ ap (λ z. y ∷ z) r.0, r.1)

-- numbers are known by their bits, also where more bits follow
pub same_front : (f : ℕ → List ℕ) (n m : ℕ) → ((x : ℕ) → length (f x) ≡ n) → ((x y : ℕ) → x < m → y < m → f x ≡ f y → x ≡ y)
    → (xs ys c d : List ℕ) → length xs ≤ length ys → Below m xs → Below m ys → flat_map f xs ++ c ≡ flat_map f ys ++ d → take (length xs) ys ≡ xs
same_front f n m size same [] ys c d l p q e = refl
same_front f n m size same (x ∷ xs) [] c d l p q e = absurd (omega arith)
same_front f n m size same (x ∷ xs) (y ∷ ys) c d l p q e =
    let r = same_parts (f x) (f y) (flat_map f xs ++ c) (flat_map f ys ++ d) (size x ∙ sym (size y))
    (sym (append_assoc (f x) (flat_map f xs) c) ∙ (e ∙ append_assoc (f y) (flat_map f ys) d)) in
    let h : x ≡ y = same x y p.0 q.0 r.0 in
    let t : take (length xs) ys ≡ xs = same_front f n m size same xs ys c d (omega arith) p.1 q.1 r.1 in
    ap (λ z. z ∷ take (length xs) ys) (sym h) ∙ ap (λ z. x ∷ z) t
