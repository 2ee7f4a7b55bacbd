-- Laws of packed numbers.
use Rattle.std.proofs.Common.{◌≡◌, ℕ, zero, suc, ◌+◌, ◌-◌, ◌*◌, ◌/◌, ◌%◌, ◌^◌, ◌<◌, ◌≤◌, min, ◌⊎◌, List, [], ◌∷◌, ◌++◌, map, length, get_or, take, drop, set, sym, refl, ap, ◌∙◌, mul-le-mul_right, mul_assoc, suc-mul, mul_comm, zero-mul, div-one, arith, pow_pos, pow-add, inl, inr}
use native.Mathlib.Nat.{add-mul-mod_self_left, add-mul-div_left, div-eq_of_lt}
use lib.Bits.{bit_and}
use Rattle.std.proofs.lemmas.Nat.{shr-shr, and_mask, one_shl}
use Rattle.std.proofs.lemmas.List.{append-nil, append_assoc, drop_all, take_all, take-append-drop, take_more_set, map_more, map-append, get_or-drop, drop-drop}
use Rattle.std.proofs.lemmas.Slice.{take-put_mid}
use Rattle.std.proofs.Math.Seq.{take-add}
use borrow.Rule.Slice.PartMut.{put_mid, post_of}
use Rattle.stream.specs.Packing.{le, from_below, low_first}
use Rattle.run.specs.Packed.{lows}

-- every byte is below 256
abbrev pub Bytes : List ℕ → Type 0
Bytes bs = (i : ℕ) → get_or bs i 0 < 256

pub bytes_more : (k : ℕ) → 2 ^ (8 * suc k) ≡ 256 * 2 ^ (8 * k)
bytes_more k = let e : 8 * suc k ≡ 8 + 8 * k = omega arith in ap (λ n. 2 ^ n) e ∙ pow-add 2 8 (8 * k)

-- the lowest bytes and those above them
le_split : (k : ℕ) (bs : List ℕ) → le bs ≡ le (take k bs) + 2 ^ (8 * k) * le (drop k bs)
le_split zero bs = omega arith
le_split (suc k) [] = let e = mul_comm (2 ^ (8 * suc k)) 0 in let f = zero-mul (2 ^ (8 * suc k)) in omega arith
le_split (suc k) (b ∷ bs) =
    let i = le_split k bs in
    let e : 2 ^ (8 * suc k) * le (drop k bs) ≡ 256 * (2 ^ (8 * k) * le (drop k bs)) = ap (λ p. p * le (drop k bs)) (bytes_more k) ∙ mul_assoc 256 (2 ^ (8 * k)) (le (drop k bs)) in
    omega arith

le_below : (k : ℕ) (bs : List ℕ) → Bytes bs → le (take k bs) < 2 ^ (8 * k)
le_below zero bs h = omega arith
le_below (suc k) [] h = pow_pos (8 * suc k)
le_below (suc k) (b ∷ bs) h =
    let i = le_below k bs (λ j. h (suc j)) in
    let b0 : b < 256 = h 0 in
    let e = bytes_more k in
    omega arith

-- whole bytes shifted out
pub le_drop : (j : ℕ) (bs : List ℕ) → Bytes bs → le bs / 2 ^ (8 * j) ≡ le (drop j bs)
le_drop j bs h =
    let z : le (take j bs) / 2 ^ (8 * j) ≡ 0 = div-eq_of_lt (le_below j bs h) in
    ap (λ x. x / 2 ^ (8 * j)) (le_split j bs)
    ∙ (add-mul-div_left (le (take j bs)) (le (drop j bs)) (pow_pos (8 * j)) ∙ (ap (λ x. x + le (drop j bs)) z ∙ omega arith))

bits_split : (k w y : ℕ) → w ≤ k → 2 ^ k * y ≡ 2 ^ w * (2 ^ (k - w) * y)
bits_split k w y h = let e : k ≡ w + (k - w) = omega arith in ap (λ j. 2 ^ j * y) e ∙ (ap (λ t. t * y) (pow-add 2 w (k - w)) ∙ mul_assoc (2 ^ w) (2 ^ (k - w)) y)

bits_mod : (a k w y : ℕ) → w ≤ k → (a + 2 ^ k * y) % 2 ^ w ≡ a % 2 ^ w
bits_mod a k w y h = ap (λ t. (a + t) % 2 ^ w) (bits_split k w y h) ∙ add-mul-mod_self_left a (2 ^ w) (2 ^ (k - w) * y)

bits_div : (a k w y : ℕ) → w ≤ k → (a + 2 ^ k * y) / 2 ^ w ≡ a / 2 ^ w + 2 ^ (k - w) * y
bits_div a k w y h = ap (λ t. (a + t) / 2 ^ w) (bits_split k w y h) ∙ add-mul-div_left a (2 ^ (k - w) * y) (pow_pos w)

-- the `w` bits above the lowest `s` hang on the lowest `k` alone
pub bits_field : (a k s w y : ℕ) → s + w ≤ k → (a + 2 ^ k * y) / 2 ^ s % 2 ^ w ≡ a / 2 ^ s % 2 ^ w
bits_field a k s w y h =
    let l : s ≤ k = omega arith in
    let m : w ≤ k - s = omega arith in
    ap (λ x. x % 2 ^ w) (bits_div a k s y l) ∙ bits_mod (a / 2 ^ s) (k - s) w y m

-- the key law: a number is read off the bytes around it
le_window : (n j s w : ℕ) (bs : List ℕ) → Bytes bs → s + w ≤ 8 * n → le (take n (drop j bs)) / 2 ^ s % 2 ^ w ≡ le bs / 2 ^ (8 * j + s) % 2 ^ w
le_window n j s w bs h l =
    let d : List ℕ = drop j bs in
    sym (ap (λ x. x % 2 ^ w) (sym (shr-shr (le bs) (8 * j) s))
    ∙ (ap (λ x. x / 2 ^ s % 2 ^ w) (le_drop j bs h ∙ le_split n d) ∙ bits_field (le (take n d)) (8 * n) s w (le (drop n d)) l))

-- the eight bytes in front, with zeros behind the end
pub le_eight : (bs : List ℕ) → le (take 8 bs) ≡ get_or bs 0 0 + get_or bs 1 0 * 256 + get_or bs 2 0 * 65536 + get_or bs 3 0 * 16777216 + get_or bs 4 0 * 4294967296 + get_or bs 5 0 * 1099511627776 + get_or bs 6 0 * 281474976710656 + get_or bs 7 0 * 72057594037927936
le_eight [] = refl
le_eight (a ∷ []) = omega arith
le_eight (a ∷ (b ∷ [])) = omega arith
le_eight (a ∷ (b ∷ (c ∷ []))) = omega arith
le_eight (a ∷ (b ∷ (c ∷ (d ∷ [])))) = omega arith
le_eight (a ∷ (b ∷ (c ∷ (d ∷ (e ∷ []))))) = omega arith
le_eight (a ∷ (b ∷ (c ∷ (d ∷ (e ∷ (f ∷ [])))))) = omega arith
le_eight (a ∷ (b ∷ (c ∷ (d ∷ (e ∷ (f ∷ (g ∷ []))))))) = omega arith
le_eight (a ∷ (b ∷ (c ∷ (d ∷ (e ∷ (f ∷ (g ∷ (i ∷ t)))))))) = omega arith

-- one number more
pub below_more : (w m x : ℕ) → from_below w (suc m) x ≡ from_below w m x ++ (x / 2 ^ (m * w) % 2 ^ w) ∷ []
below_more w zero x = ap (λ y. y % 2 ^ w ∷ []) (sym (div-one x) ∙ ap (λ e. x / 2 ^ e) (sym (zero-mul w)))
below_more w (suc m) x =
    let e : w + m * w ≡ suc m * w = omega (arith, suc-mul m w) in
    ap (λ t. x % 2 ^ w ∷ t) (below_more w m (x / 2 ^ w) ∙ ap (λ y. from_below w m (x / 2 ^ w) ++ (y % 2 ^ w) ∷ []) (shr-shr x w (m * w) ∙ ap (λ k. x / 2 ^ k) e))

pub below_length : (w n x : ℕ) → length (from_below w n x) ≡ n
below_length w zero x = refl
below_length w (suc n) x = ap suc (below_length w n (x / 2 ^ w))

pub masked : (x w : ℕ) → w < 64 → bit_and x ((1 * 2 ^ w) % 18446744073709551616 - 1) ≡ x % 2 ^ w
masked x w h = ap (λ u. bit_and x (u - 1)) (one_shl w 64 h) ∙ and_mask x w

-- the number that starts `s` bits above the byte `j`, off the eight bytes there
pub low_field : (bs : List ℕ) (j s w p x : ℕ) → Bytes bs → s + w ≤ 64 → w < 64 → 8 * j + s ≡ p → x ≡ le (take 8 (drop j bs))
    → bit_and (x / 2 ^ s) ((1 * 2 ^ w) % 18446744073709551616 - 1) ≡ le bs / 2 ^ p % 2 ^ w
low_field bs j s w p x h l k e q =
    masked (x / 2 ^ s) w k
    ∙ (ap (λ y. y / 2 ^ s % 2 ^ w) q ∙ (le_window 8 j s w bs h l ∙ ap (λ n. le bs / 2 ^ n % 2 ^ w) e))

-- one number of a list more is written
pub put_at : {X : Type 0} (f : ℕ → X) (out : List X) (xs : List ℕ) (i v : ℕ) (y : X)
    → i < length out → i < length xs → take i out ≡ map f (take i xs) → y ≡ f v → v ≡ get_or xs i 0 → take (i + 1) (set out i y) ≡ map f (take (i + 1) xs)
put_at f out xs i v y h l e g q =
    take_more_set out i y h ∙ (ap (λ t. t ++ y ∷ []) e ∙ (ap (λ x. map f (take i xs) ++ x ∷ []) (g ∙ ap f q) ∙ sym (map_more f xs i 0 l)))

-- all of them are written
pub put_all : {X : Type 0} (f : ℕ → X) (out : List X) (xs : List ℕ) (i : ℕ) → length out ≤ i → length xs ≤ i → take i out ≡ map f (take i xs) → out ≡ map f xs
put_all f out xs i h l e = sym (take_all i out h) ∙ (e ∙ ap (map f) (take_all i xs l))

-- the numbers from the place `m` on, those in front of it, and the one at it
below_drop : (w m n x : ℕ) → drop m (from_below w (m + n) x) ≡ from_below w n (x / 2 ^ (m * w))
below_drop w zero n x =
    let e : 0 + n ≡ n = omega arith in
    ap (λ k. from_below w k x) e ∙ ap (from_below w n) (sym (div-one x) ∙ ap (λ k. x / 2 ^ k) (sym (zero-mul w)))
below_drop w (suc m) n x =
    let e : suc m + n ≡ suc (m + n) = omega arith in
    let q : w + m * w ≡ suc m * w = omega (arith, suc-mul m w) in
    ap (λ k. drop (suc m) (from_below w k x)) e
    ∙ (below_drop w m n (x / 2 ^ w) ∙ ap (from_below w n) (shr-shr x w (m * w) ∙ ap (λ k. x / 2 ^ k) q))

below_take : (w m n x : ℕ) → take m (from_below w (m + n) x) ≡ from_below w m x
below_take w zero n x = refl
below_take w (suc m) n x =
    let e : suc m + n ≡ suc (m + n) = omega arith in
    ap (λ k. take (suc m) (from_below w k x)) e ∙ ap (λ t. x % 2 ^ w ∷ t) (below_take w m n (x / 2 ^ w))

pub below_at : (w n x i : ℕ) → i < n → get_or (from_below w n x) i 0 ≡ x / 2 ^ (i * w) % 2 ^ w
below_at w zero x i h = absurd (omega arith)
below_at w (suc n) x zero h = ap (λ y. y % 2 ^ w) (sym (div-one x) ∙ ap (λ e. x / 2 ^ e) (sym (zero-mul w)))
below_at w (suc n) x (suc i) h =
    let q : w + i * w ≡ suc i * w = omega (arith, suc-mul i w) in
    below_at w n (x / 2 ^ w) i (omega arith) ∙ ap (λ y. y % 2 ^ w) (shr-shr x w (i * w) ∙ ap (λ k. x / 2 ^ k) q)

-- a number is read off the eight bytes around it
pub low_read : (bs : List ℕ) (at b w x : ℕ) → Bytes bs → b ≡ w → b ≤ 32 → x ≡ le (take 8 (drop (at / 8) bs))
    → bit_and (x / 2 ^ (at % 8)) ((1 * 2 ^ b) % 18446744073709551616 - 1) ≡ le bs / 2 ^ at % 2 ^ w
low_read bs at b w x h q l e = low_field bs (at / 8) (at % 8) b at x h (omega arith) (omega arith) (omega arith) e ∙ ap (λ v. le bs / 2 ^ at % 2 ^ v) q

pub lows_at : (w a n i : ℕ) (bs : List ℕ) → i < n → get_or (lows w a n bs) i 0 ≡ le bs / 2 ^ ((a + i) * w) % 2 ^ w
lows_at w a n i bs h = get_or-drop a (low_first w (a + n) bs) i 0 ∙ below_at w (a + n) (le bs) (a + i) (omega arith)

-- the bit of a group's number in the word that it is read off
pub group_bit : (k w from : ℕ) → k < 8 → w ≤ 32 → ((from ≡ 0) × (w ≤ 8)) ⊎ (from ≡ k * w / 8) → (8 * from + (k * w - 8 * from) ≡ k * w) × (k * w - 8 * from + w ≤ 64)
group_bit k w from h l (inl e) = let k1 : k ≤ 7 = omega arith in let p = mul-le-mul_right w k1 in (omega (arith, e.0, e.1), omega (arith, e.0, e.1))
group_bit k w from h l (inr e) = (omega arith, omega arith)

-- a group's numbers behind those of the groups in front, and those of several groups
pub group_more : (w g : ℕ) (bs : List ℕ) → Bytes bs → low_first w (8 * (g + 1)) bs ≡ low_first w (8 * g) bs ++ low_first w 8 (drop (g * w) bs)
group_more w g bs h =
    let x : ℕ = le bs in
    let e : 8 * (g + 1) ≡ 8 * g + 8 = omega arith in
    let p : 8 * (g * w) ≡ 8 * g * w = sym (mul_assoc 8 g w) in
    let xs : List ℕ = from_below w (8 * g + 8) x in
    ap (λ j. from_below w j x) e
    ∙ (sym (take-append-drop (8 * g) xs)
    ∙ (ap (λ t. t ++ drop (8 * g) xs) (below_take w (8 * g) 8 x)
    ∙ ap (λ t. from_below w (8 * g) x ++ t) (below_drop w (8 * g) 8 x ∙ ap (from_below w 8) (ap (λ j. x / 2 ^ j) (sym p) ∙ le_drop (g * w) bs h))))

groups_are : (w a n m x : ℕ) (bs : List ℕ) → a % 8 ≡ 0 → n ≤ m → x ≡ le bs / 2 ^ (8 * (a / 8 * w)) → from_below w n x ≡ take n (lows w a m bs)
groups_are w a n m x bs z l e =
    let f : a ≡ 8 * (a / 8) = omega arith in
    let p : 8 * (a / 8 * w) ≡ a * w = sym (mul_assoc 8 (a / 8) w) ∙ ap (λ j. j * w) (sym f) in
    let k : ℕ = m - n in
    let s : m ≡ n + k = omega arith in
    ap (from_below w n) (e ∙ ap (λ j. le bs / 2 ^ j) p)
    ∙ sym (ap (take n) (below_drop w a m (le bs)) ∙ (ap (λ j. take n (from_below w j (le bs / 2 ^ (a * w)))) s ∙ below_take w n k (le bs / 2 ^ (a * w))))

pub groups_lie : (w b a h m n : ℕ) (bs rest : List ℕ) → b ≡ w → h ≡ min ((8 - a % 8) % 8) m → n ≤ m - h → le rest ≡ le bs / 2 ^ (8 * ((a + h) / 8 * b))
    → low_first b n rest ≡ take n (drop h (lows w a m bs))
groups_lie w b a h m zero bs rest q e l g = refl
groups_lie w b a h m (suc n) bs rest q e l g =
    let z : (a + h) % 8 ≡ 0 = omega arith in
    let s : a + h + (m - h) ≡ a + m = omega arith in
    ap (λ v. from_below v (suc n) (le rest)) q
    ∙ (groups_are w (a + h) (suc n) (m - h) (le rest) bs z l (g ∙ ap (λ v. le bs / 2 ^ (8 * ((a + h) / 8 * v))) q)
    ∙ sym (ap (take (suc n)) (drop-drop h a (low_first w (a + m) bs) ∙ ap (λ j. drop (a + h) (low_first w j bs)) (sym s))))

-- more numbers are written behind those in front
pub put_on : {X : Type 0} (f : ℕ → X) (out new : List X) (xs ys zs : List ℕ) (a k n : ℕ) → n ≡ a + length new → a ≤ length out
    → take a out ≡ map f xs → new ≡ map f ys → zs ≡ xs ++ ys → take n (put_mid a k out new) ≡ map f zs
put_on f out new xs ys zs a k n m l e q z =
    take-put_mid a k out new n m l ∙ (ap (λ t. t ++ new) e ∙ (ap (λ t. map f xs ++ t) q ∙ (sym (map-append f xs ys) ∙ ap (map f) (sym z))))

-- three parts of a list are written
pub put_three : {X : Type 0} (f : ℕ → X) (p q r : List X) (xs : List ℕ) (h n k : ℕ) → length q ≤ n + k
    → p ≡ map f (take h xs) → take n q ≡ map f (take n (drop h xs)) → r ≡ map f (drop (h + n) xs) → p ++ put_mid n k q r ≡ map f xs
put_three f p q r xs h n k l e g i =
    let z : post_of n k q ≡ [] = ap (drop k) refl ∙ (drop-drop k n q ∙ drop_all (n + k) q l) in
    ap (λ t. p ++ (take n q ++ (r ++ t))) z
    ∙ (ap (λ t. p ++ (take n q ++ t)) (append-nil r)
    ∙ (sym (append_assoc p (take n q) r)
    ∙ (ap (λ t. t ++ take n q ++ r) e
    ∙ (ap (λ t. map f (take h xs) ++ t ++ r) g
    ∙ (ap (λ t. t ++ r) (sym (map-append f (take h xs) (take n (drop h xs))) ∙ ap (map f) (sym (take-add h n xs)))
    ∙ (ap (λ t. map f (take (h + n) xs) ++ t) i
    ∙ (sym (map-append f (take (h + n) xs) (drop (h + n) xs)) ∙ ap (map f) (take-append-drop (h + n) xs))))))))
