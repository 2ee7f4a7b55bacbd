-- Laws of numbers packed from the highest bit down.
use Rattle.std.proofs.Common.{◌≡◌, ℕ, zero, suc, ◌+◌, ◌-◌, ◌*◌, ◌/◌, ◌%◌, ◌^◌, ◌<◌, ◌≤◌, List, [], ◌∷◌, ◌++◌, length, get_or, take, drop, sym, refl, ap, ◌∙◌, mul-le-mul_right, mul_assoc, suc-mul, mul_comm, add-mul, one-mul, pow-suc, mul-zero, zero-mul, mul-add, arith, pow-add}
use lib.Bits.{bit_and}
use Rattle.std.proofs.lemmas.Nat.{shr-shr, shl-shr, shr_high}
use Rattle.std.proofs.lemmas.List.{length-drop, get_or-drop}
use Rattle.stream.specs.Packing.{le, be, from_above, high_first}
use Rattle.run.specs.Packed.{highs}
use Rattle.std.specs.Int.{swap_bytes, from_be_bytes, from_le_bytes, w64}
use Rattle.std.proofs.lemmas.Nat.{le_bytes_8}
use native.Mathlib.Nat.{mod-one}
use Rattle.run.proofs.Laws.{Bytes, le_eight, bytes_more, bits_field, masked}

-- the number in the first `n` bytes, highest byte first, with zeros behind the end
abbrev front : ℕ → List ℕ → ℕ
front zero bs = 0
front (suc n) [] = 0
front (suc n) (b ∷ bs) = b * 2 ^ (8 * n) + front n bs

bytes_pow : (n : ℕ) → 256 ^ n ≡ 2 ^ (8 * n)
bytes_pow zero = refl
bytes_pow (suc n) = pow-suc 256 n ∙ (ap (λ x. x * 256) (bytes_pow n) ∙ (mul_comm (2 ^ (8 * n)) 256 ∙ sym (bytes_more n)))

be_one : (b : ℕ) (bs : List ℕ) → be (b ∷ bs) ≡ b * 2 ^ (8 * length bs) + be bs
be_one b bs = ap (λ p. b * p + be bs) (bytes_pow (length bs))

be_below : (bs : List ℕ) → Bytes bs → be bs < 2 ^ (8 * length bs)
be_below [] h = omega arith
be_below (b ∷ bs) h =
    let i = be_below bs (λ j. h (suc j)) in
    let b0 : b ≤ 255 = omega (arith, h 0) in
    let m = mul-le-mul_right (2 ^ (8 * length bs)) b0 in
    let e = bytes_more (length bs) in
    let f = be_one b bs in
    omega arith

-- what stands behind the first `j` bytes
be_split : (j : ℕ) (bs : List ℕ) → j ≤ length bs → (a : ℕ) × (be bs ≡ be (drop j bs) + 2 ^ (8 * (length bs - j)) * a)
be_split zero bs h = (0, omega (arith, mul-zero (2 ^ (8 * (length bs - 0)))))
be_split (suc j) [] h = absurd (omega arith)
be_split (suc j) (b ∷ bs) h =
    let i = be_split j bs (omega arith) in
    let l : ℕ = length bs in
    let k : ℕ = l - j in
    let d : suc l - suc j ≡ k = omega arith in
    let e : 8 * l ≡ 8 * k + 8 * j = omega arith in
    let p : 2 ^ (8 * l) ≡ 2 ^ (8 * k) * 2 ^ (8 * j) = ap (λ n. 2 ^ n) e ∙ pow-add 2 (8 * k) (8 * j) in
    let q : b * 2 ^ (8 * l) ≡ 2 ^ (8 * k) * (2 ^ (8 * j) * b) = mul_comm b (2 ^ (8 * l)) ∙ (ap (λ x. x * b) p ∙ mul_assoc (2 ^ (8 * k)) (2 ^ (8 * j)) b) in
    let r = mul-add (2 ^ (8 * k)) (2 ^ (8 * j) * b) i.0 in
    let s = be_one b bs in
    let t : 2 ^ (8 * (suc l - suc j)) * (2 ^ (8 * j) * b + i.0) ≡ 2 ^ (8 * k) * (2 ^ (8 * j) * b + i.0) = ap (λ n. 2 ^ (8 * n) * (2 ^ (8 * j) * b + i.0)) d in
    (2 ^ (8 * j) * b + i.0, omega (arith, i.1))

-- the first `n` bytes, and what is left of them
be_front : (n : ℕ) (bs : List ℕ) → Bytes bs → (low : ℕ) × (be bs * 2 ^ (8 * n) ≡ front n bs * 2 ^ (8 * length bs) + low) × (low < 2 ^ (8 * length bs))
be_front zero bs h = let z = zero-mul (2 ^ (8 * length bs)) in (be bs, omega arith, be_below bs h)
be_front (suc n) [] h = let z = zero-mul (2 ^ (8 * suc n)) in (0, omega arith, omega arith)
be_front (suc n) (b ∷ bs) h =
    let i = be_front n bs (λ j. h (suc j)) in
    let p : ℕ = 2 ^ (8 * n) in
    let q : ℕ = 2 ^ (8 * length bs) in
    let s = be_one b bs in
    let en = bytes_more n in
    let el = bytes_more (length bs) in
    let x : be (b ∷ bs) * 2 ^ (8 * suc n) ≡ 256 * (b * q * p) + 256 * (be bs * p) =
    ap (λ t. t * 2 ^ (8 * suc n)) s ∙ (ap (λ t. (b * q + be bs) * t) (en ∙ mul_comm 256 p) ∙ (sym (mul_assoc (b * q + be bs) p 256) ∙ (ap (λ t. t * 256) (add-mul (b * q) (be bs) p) ∙ omega arith))) in
    let y : (b * p + front n bs) * 2 ^ (8 * suc (length bs)) ≡ 256 * (b * p * q) + 256 * (front n bs * q) =
    ap (λ t. (b * p + front n bs) * t) (el ∙ mul_comm 256 q) ∙ (sym (mul_assoc (b * p + front n bs) q 256) ∙ (ap (λ t. t * 256) (add-mul (b * p) (front n bs) q) ∙ omega arith)) in
    let z : b * q * p ≡ b * p * q = mul_assoc b q p ∙ (ap (λ t. b * t) (mul_comm q p) ∙ sym (mul_assoc b p q)) in
    (256 * i.0, omega (arith, i.1), omega (arith, i.2))

-- a number that starts `s` bits behind the first bit, off the first eight bytes
front_field : (bs : List ℕ) (s w : ℕ) → Bytes bs → s + w ≤ 64 → s + w ≤ 8 * length bs → be bs / 2 ^ (8 * length bs - s - w) ≡ front 8 bs / 2 ^ (64 - s - w)
front_field bs s w h a b =
    let k : ℕ = 8 * length bs in
    let f = be_front 8 bs h in
    let e : 64 + (k - s - w) ≡ k + (64 - s - w) = omega arith in
    ap (λ x. x / 2 ^ (k - s - w)) (sym (shl-shr (be bs) 64))
    ∙ (shr-shr (be bs * 2 ^ 64) 64 (k - s - w)
    ∙ (ap (λ n. be bs * 2 ^ 64 / 2 ^ n) e
    ∙ (sym (shr-shr (be bs * 2 ^ 64) k (64 - s - w))
    ∙ ap (λ x. x / 2 ^ (64 - s - w)) (ap (λ x. x / 2 ^ k) f.1 ∙ shr_high (front 8 bs) k f.0 f.2))))

-- the number that starts `s` bits behind the byte `j`, off the eight bytes there
high_field : (bs : List ℕ) (j s w p x : ℕ) → Bytes bs → s + w ≤ 64 → w < 64 → 8 * j + s + w ≡ p → p ≤ 8 * length bs → x ≡ front 8 (drop j bs)
    → bit_and (x / 2 ^ (64 - s - w)) ((1 * 2 ^ w) % 18446744073709551616 - 1) ≡ be bs / 2 ^ (8 * length bs - p) % 2 ^ w
high_field bs j s w p x h l k e b q =
    let xs : List ℕ = drop j bs in
    let n : length xs ≡ length bs - j = length-drop j bs in
    let jl : j ≤ length bs = omega arith in
    let sp = be_split j bs jl in
    let hx : Bytes xs = λ i. omega (arith, h (j + i), get_or-drop j bs i 0) in
    let t : ℕ = 8 * (length bs - j) in
    let d : 8 * length bs - p ≡ t - s - w = omega arith in
    let m : t - s - w + w ≤ t = omega arith in
    let lx : s + w ≤ 8 * length xs = omega arith in
    masked (x / 2 ^ (64 - s - w)) w k
    ∙ sym (ap (λ i. be bs / 2 ^ i % 2 ^ w) d
    ∙ (ap (λ y. y / 2 ^ (t - s - w) % 2 ^ w) sp.1
    ∙ (bits_field (be xs) t (t - s - w) w sp.0 m
    ∙ (ap (λ i. be xs / 2 ^ (8 * i - s - w) % 2 ^ w) (sym n)
    ∙ (ap (λ y. y % 2 ^ w) (front_field xs s w hx l lx)
    ∙ ap (λ y. y / 2 ^ (64 - s - w) % 2 ^ w) (sym q))))))

front_eight : (bs : List ℕ) → front 8 bs ≡ get_or bs 0 0 * 72057594037927936 + get_or bs 1 0 * 281474976710656 + get_or bs 2 0 * 1099511627776 + get_or bs 3 0 * 4294967296 + get_or bs 4 0 * 16777216 + get_or bs 5 0 * 65536 + get_or bs 6 0 * 256 + get_or bs 7 0
front_eight [] = refl
front_eight (a ∷ []) = omega arith
front_eight (a ∷ (b ∷ [])) = omega arith
front_eight (a ∷ (b ∷ (c ∷ []))) = omega arith
front_eight (a ∷ (b ∷ (c ∷ (d ∷ [])))) = omega arith
front_eight (a ∷ (b ∷ (c ∷ (d ∷ (e ∷ []))))) = omega arith
front_eight (a ∷ (b ∷ (c ∷ (d ∷ (e ∷ (f ∷ [])))))) = omega arith
front_eight (a ∷ (b ∷ (c ∷ (d ∷ (e ∷ (f ∷ (g ∷ []))))))) = omega arith
front_eight (a ∷ (b ∷ (c ∷ (d ∷ (e ∷ (f ∷ (g ∷ (i ∷ t)))))))) = omega arith

-- one number more
pub above_more : (w m t x : ℕ) → from_above w (suc m) t x ≡ from_above w m t x ++ (x / 2 ^ (t - suc m * w) % 2 ^ w) ∷ []
above_more w zero t x = let e : t - w ≡ t - 1 * w = omega (arith, one-mul w) in ap (λ k. x / 2 ^ k % 2 ^ w ∷ []) e
above_more w (suc m) t x =
    let e : t - w - suc m * w ≡ t - suc (suc m) * w = omega (arith, suc-mul (suc m) w) in
    ap (λ r. x / 2 ^ (t - w) % 2 ^ w ∷ r) (above_more w m (t - w) x ∙ ap (λ k. from_above w m (t - w) x ++ (x / 2 ^ k % 2 ^ w) ∷ []) e)

pub above_length : (w n t x : ℕ) → length (from_above w n t x) ≡ n
above_length w zero t x = refl
above_length w (suc n) t x = ap suc (above_length w n (t - w) x)

above_at : (w n t x i : ℕ) → i < n → get_or (from_above w n t x) i 0 ≡ x / 2 ^ (t - (i + 1) * w) % 2 ^ w
above_at w zero t x i h = absurd (omega arith)
above_at w (suc n) t x zero h = let e : t - w ≡ t - (0 + 1) * w = omega (arith, one-mul w) in ap (λ k. x / 2 ^ k % 2 ^ w) e
above_at w (suc n) t x (suc i) h =
    let q : suc i + 1 ≡ suc (i + 1) = omega arith in
    let e : t - w - (i + 1) * w ≡ t - (suc i + 1) * w = omega (arith, ap (λ j. j * w) q, suc-mul (i + 1) w) in
    above_at w n (t - w) x i (omega arith) ∙ ap (λ k. x / 2 ^ k % 2 ^ w) e

pub highs_at : (w a n i : ℕ) (bs : List ℕ) → i < n → get_or (highs w a n bs) i 0 ≡ be bs / 2 ^ (8 * length bs - ((a + i) * w + w)) % 2 ^ w
highs_at w a n i bs h =
    let e : (a + i + 1) * w ≡ (a + i) * w + w = omega (arith, add-mul (a + i) 1 w, one-mul w) in
    get_or-drop a (high_first w (a + n) bs) i 0
    ∙ (above_at w (a + n) (8 * length bs) (be bs) (a + i) (omega arith) ∙ ap (λ k. be bs / 2 ^ (8 * length bs - k) % 2 ^ w) e)

-- the eight bytes in front as a list, with zeros behind the end
abbrev eight : List ℕ → List ℕ
eight ds = get_or ds 0 0 ∷ get_or ds 1 0 ∷ get_or ds 2 0 ∷ get_or ds 3 0 ∷ get_or ds 4 0 ∷ get_or ds 5 0 ∷ get_or ds 6 0 ∷ get_or ds 7 0 ∷ []

eight_bytes : (ds : List ℕ) → Bytes ds → Bytes (eight ds)
eight_bytes ds h zero = h 0
eight_bytes ds h (suc zero) = h 1
eight_bytes ds h (suc (suc zero)) = h 2
eight_bytes ds h (suc (suc (suc zero))) = h 3
eight_bytes ds h (suc (suc (suc (suc zero)))) = h 4
eight_bytes ds h (suc (suc (suc (suc (suc zero))))) = h 5
eight_bytes ds h (suc (suc (suc (suc (suc (suc zero)))))) = h 6
eight_bytes ds h (suc (suc (suc (suc (suc (suc (suc zero))))))) = h 7
eight_bytes ds h (suc (suc (suc (suc (suc (suc (suc (suc i)))))))) = omega arith

-- eight bytes that are read lowest first, turned around
turned : (ds : List ℕ) (x : ℕ) → Bytes ds → x ≡ le (take 8 ds) → swap_bytes w64 x ≡ front 8 ds
turned ds x h e =
    let f : x ≡ from_le_bytes w64 (eight ds) = omega (arith, le_eight ds) in
    let g : from_be_bytes w64 (eight ds) ≡ front 8 ds = omega (arith, front_eight ds) in
    ap (from_be_bytes w64) (le_bytes_8 (eight ds) x refl (eight_bytes ds h) f) ∙ g

-- a number is read off the eight bytes around it
pub high_read : (bs : List ℕ) (at b w x y : ℕ) → Bytes bs → b ≡ w → b ≤ 32 → at + w ≤ 8 * length bs → x ≡ le (take 8 (drop (at / 8) bs)) → y ≡ swap_bytes w64 x
    → bit_and (y / 2 ^ ((64 - at % 8 - b) % 64)) ((1 * 2 ^ b) % 18446744073709551616 - 1) ≡ be bs / 2 ^ (8 * length bs - (at + w)) % 2 ^ w
high_read bs at zero w x y h q l k e g =
    let t : ℕ = (64 - at % 8 - 0) % 64 in
    let z : ℕ = be bs / 2 ^ (8 * length bs - (at + w)) in
    masked (y / 2 ^ t) 0 (omega arith) ∙ (mod-one (y / 2 ^ t) ∙ sym (ap (λ v. z % 2 ^ v) (sym q) ∙ mod-one z))
high_read bs at (suc c) w x y h q l k e g =
    let b : ℕ = suc c in
    let d : Bytes (drop (at / 8) bs) = λ i. omega (arith, h (at / 8 + i), get_or-drop (at / 8) bs i 0) in
    let s : (64 - at % 8 - b) % 64 ≡ 64 - at % 8 - b = omega arith in
    ap (λ j. bit_and (y / 2 ^ j) ((1 * 2 ^ b) % 18446744073709551616 - 1)) s
    ∙ (high_field bs (at / 8) (at % 8) b (at + b) y h (omega arith) (omega arith) (omega arith) (omega arith) (g ∙ turned (drop (at / 8) bs) x d e)
    ∙ ap (λ v. be bs / 2 ^ (8 * length bs - (at + v)) % 2 ^ v) q)
