-- The definition's numbers and the bits of the bytes that they are read from.
use Rattle.std.proofs.Common.{◌≡◌, ℕ, zero, suc, ◌+◌, ◌-◌, ◌*◌, ◌/◌, ◌%◌, ◌^◌, ◌<◌, ◌≤◌, List, [], ◌∷◌, ◌++◌, reverse, length, take, drop, sym, refl, ap, ◌∙◌, subst, mul-le-mul_right, mod-lt, mul_assoc, suc-mul, mul_comm, pow-suc, zero-mul, arith, pow_pos}
use Rattle.std.proofs.lemmas.List.{append_assoc, reverse-append, length-take-le, append-nil, take_all, take-append-drop, length-append}
use Rattle.std.proofs.lemmas.Nat.{shr_high}
use Rattle.std.proofs.ByRecursion.{All-take}
use Rattle.std.specs.List.{flat_map}
use Rattle.stream.specs.Packing.{le, be, from_below, from_above, low_first, high_first}
use Rattle.stream.specs.Grammar.{up, down, bits_up, bits_down, Below, Fills, PacksDown}
use Rattle.stream.proofs.Headers.{bytes_suc}
use Rattle.stream.proofs.Bits.{up_low, up_mod, up_split, length_up, length_down, up_same, down_same, same_front}

-- From the lowest bit up.

pub length_below : (w n x : ℕ) → length (from_below w n x) ≡ n
length_below w zero x = refl
length_below w (suc n) x = ap suc (length_below w n (x / 2 ^ w))

pub below_fits : (w n x : ℕ) → Below (2 ^ w) (from_below w n x)
below_fits w zero x = tt
below_fits w (suc n) x = (mod-lt x (pow_pos w), below_fits w n (x / 2 ^ w))

pub bits_below : (w n x : ℕ) → bits_up w (from_below w n x) ≡ up (n * w) x
bits_below w zero x = let e : 0 ≡ 0 * w = omega arith in ap (λ k. up k x) e
bits_below w (suc n) x =
    let e : w + n * w ≡ suc n * w = omega (arith, suc-mul n w) in
    ap (λ b. b ++ bits_up w (from_below w n (x / 2 ^ w))) (up_mod w x)
    ∙ (ap (λ t. up w x ++ t) (bits_below w n (x / 2 ^ w)) ∙ (sym (up_split w (n * w) x) ∙ ap (λ k. up k x) e))

pub bits_bytes : (bs : List ℕ) → Below 256 bs → bits_up 8 bs ≡ up (8 * length bs) (le bs)
bits_bytes [] h = refl
bits_bytes (b ∷ bs) h =
    let n : ℕ = length bs in
    let e : 8 + 8 * n ≡ 8 * suc n = omega arith in
    let d : (b + 256 * le bs) / 2 ^ 8 ≡ le bs = omega arith in
    ap (λ t. up 8 b ++ t) (bits_bytes bs h.1)
    ∙ (ap (λ t. t ++ up (8 * n) (le bs)) (sym (up_low 8 8 b (le bs) (omega arith)))
    ∙ (ap (λ q. up 8 (b + 256 * le bs) ++ up (8 * n) q) (sym d) ∙ (sym (up_split 8 (8 * n) (b + 256 * le bs)) ∙ ap (λ k. up k (b + 256 * le bs)) e)))

-- the first `k` bytes are the lowest bits
pub le_take : (k : ℕ) (bs : List ℕ) → k ≤ length bs → le bs ≡ le (take k bs) + 2 ^ (8 * k) * le (drop k bs)
le_take zero bs h = omega arith
le_take (suc k) [] h = absurd (omega arith)
le_take (suc k) (b ∷ bs) h =
    let r = le_take k bs (omega arith) in
    let p = bytes_suc k in
    let q : 2 ^ (8 * suc k) * le (drop k bs) ≡ 256 * (2 ^ (8 * k) * le (drop k bs)) = ap (λ t. t * le (drop k bs)) p ∙ mul_assoc 256 (2 ^ (8 * k)) (le (drop k bs)) in
    omega arith

pub le_below : (bs : List ℕ) → Below 256 bs → le bs < 2 ^ (8 * length bs)
le_below [] h = omega arith
le_below (b ∷ bs) h =
    let n : ℕ = length bs in
    let p = bytes_suc n in
    let r = le_below bs h.1 in
    let s = h.0 in
    omega arith

-- what the definition reads from the front of the bytes fills that front
pub fills_read : (w n k : ℕ) (bs : List ℕ) → Below 256 bs → n * w ≡ 8 * k → k ≤ length bs → Fills w (low_first w n bs) (take k bs)
fills_read w n k bs h e l =
    let m : length (take k bs) ≡ k = length-take-le k bs l in
    record {
      fit = below_fits w n (le bs);
      bytes = All-take (λ b. b < 256) k bs h;
      bits = bits_below w n (le bs)
          ∙ (ap (λ j. up j (le bs)) e
          ∙ (ap (up (8 * k)) (le_take k bs l)
          ∙ (up_low (8 * k) (8 * k) (le (take k bs)) (le (drop k bs)) (omega arith)
          ∙ (ap (λ j. up (8 * j) (le (take k bs))) (sym m) ∙ sym (bits_bytes (take k bs) (All-take (λ b. b < 256) k bs h))))));
    }

-- there is no other list of as many numbers that fills it
pub fills_once : (w : ℕ) (xs ys bs : List ℕ) → length xs ≡ length ys → Fills w xs bs → Fills w ys bs → ys ≡ xs
fills_once w xs ys bs l p q =
    let t : take (length xs) ys ≡ xs =
    same_front (up w) w (2 ^ w) (length_up w) (up_same w) xs ys [] [] (omega arith) p.fit q.fit
    (append-nil (bits_up w xs) ∙ (p.bits ∙ (sym q.bits ∙ sym (append-nil (bits_up w ys))))) in
    sym (take_all (length xs) ys (omega arith)) ∙ t

-- From the highest bit down.

pub length_above : (w n t x : ℕ) → length (from_above w n t x) ≡ n
length_above w zero t x = refl
length_above w (suc n) t x = ap suc (length_above w n (t - w) x)

pub above_fits : (w n t x : ℕ) → Below (2 ^ w) (from_above w n t x)
above_fits w zero t x = tt
above_fits w (suc n) t x = (mod-lt (x / 2 ^ (t - w)) (pow_pos w), above_fits w n (t - w) x)

pub down_split : (a b x : ℕ) → down (a + b) x ≡ down b (x / 2 ^ a) ++ down a x
down_split a b x = ap reverse (up_split a b x) ∙ reverse-append (up a x) (up b (x / 2 ^ a))

pub bits_above : (w n t x : ℕ) → n * w ≤ t → bits_down w (from_above w n t x) ++ down (t - n * w) x ≡ down t x
bits_above w zero t x h = let e : t - 0 * w ≡ t = omega arith in ap (λ k. down k x) e
bits_above w (suc n) t x h =
    let s = suc-mul n w in
    let l : n * w ≤ t - w = omega arith in
    let e : t - suc n * w ≡ t - w - n * w = omega arith in
    let f : t - w + w ≡ t = omega arith in
    let y : ℕ = x / 2 ^ (t - w) in
    let r : bits_down w (from_above w n (t - w) x) ++ down (t - w - n * w) x ≡ down (t - w) x = bits_above w n (t - w) x l in
    append_assoc (down w (y % 2 ^ w)) (bits_down w (from_above w n (t - w) x)) (down (t - suc n * w) x)
    ∙ (ap (λ k. down w (y % 2 ^ w) ++ (bits_down w (from_above w n (t - w) x) ++ down k x)) e
    ∙ (ap (λ z. down w (y % 2 ^ w) ++ z) r
    ∙ (ap (λ z. reverse z ++ down (t - w) x) (up_mod w y) ∙ (sym (down_split (t - w) w x) ∙ ap (λ k. down k x) f))))

pub byte_powers : (n : ℕ) → 256 ^ n ≡ 2 ^ (8 * n)
byte_powers zero = refl
byte_powers (suc n) =
    let p = bytes_suc n in
    let q = byte_powers n in
    let r = pow-suc 256 n in
    omega arith

pub be_below : (bs : List ℕ) → Below 256 bs → be bs < 2 ^ (8 * length bs)
be_below [] h = omega arith
be_below (b ∷ bs) h =
    let n : ℕ = length bs in
    let p = bytes_suc n in
    let q : 256 ^ n ≡ 2 ^ (8 * n) = byte_powers n in
    let r = be_below bs h.1 in
    let c : b ≤ 255 = omega (arith, h.0) in
    let s : b * 2 ^ (8 * n) ≤ 255 * 2 ^ (8 * n) = mul-le-mul_right (2 ^ (8 * n)) c in
    let u : b * 256 ^ n ≡ b * 2 ^ (8 * n) = ap (λ z. b * z) q in
    omega arith

pub bits_bytes_down : (bs : List ℕ) → Below 256 bs → bits_down 8 bs ≡ down (8 * length bs) (be bs)
bits_bytes_down [] h = refl
bits_bytes_down (b ∷ bs) h =
    let n : ℕ = length bs in
    let y : ℕ = be bs in
    let x : ℕ = b * 256 ^ n + y in
    let e : 8 * n + 8 ≡ 8 * suc n = omega arith in
    let q : b * 256 ^ n ≡ b * 2 ^ (8 * n) = ap (λ z. b * z) (byte_powers n) in
    let s : x ≡ b * 2 ^ (8 * n) + y = omega arith in
    let c = mul_comm b (2 ^ (8 * n)) in
    let u : x ≡ y + 2 ^ (8 * n) * b = omega arith in
    let high : b ≡ x / 2 ^ (8 * n) = sym (ap (λ z. z / 2 ^ (8 * n)) s ∙ shr_high b (8 * n) y (be_below bs h.1)) in
    let low : up (8 * n) y ≡ up (8 * n) x = sym (ap (up (8 * n)) u ∙ up_low (8 * n) (8 * n) y b (omega arith)) in
    ap (λ t. down 8 b ++ t) (bits_bytes_down bs h.1)
    ∙ (ap (λ z. down 8 z ++ down (8 * n) y) high
    ∙ (ap (λ z. down 8 (x / 2 ^ (8 * n)) ++ reverse z) low ∙ (sym (down_split (8 * n) 8 x) ∙ ap (λ k. down k x) e)))

-- what the definition reads lies in the bytes
pub packs_read : (w n : ℕ) (bs : List ℕ) → Below 256 bs → n * w ≤ 8 * length bs → PacksDown w (high_first w n bs) bs
packs_read w n bs h l =
    record {
      fit = above_fits w n (8 * length bs) (be bs);
      bytes = h;
      behind = down (8 * length bs - n * w) (be bs);
      bits = bits_above w n (8 * length bs) (be bs) l ∙ sym (bits_bytes_down bs h);
    }

pub joined_append : (f : ℕ → List ℕ) (xs ys : List ℕ) → flat_map f (xs ++ ys) ≡ flat_map f xs ++ flat_map f ys
joined_append f [] ys = refl
joined_append f (x ∷ xs) ys = ap (λ z. f x ++ z) (joined_append f xs ys) ∙ sym (append_assoc (f x) (flat_map f xs) (flat_map f ys))

-- and nothing else does
pub packs_once : (w : ℕ) (xs ys bs : List ℕ) → length xs ≤ length ys → PacksDown w xs bs → PacksDown w ys bs → take (length xs) ys ≡ xs
packs_once w xs ys bs l p q =
    same_front (down w) w (2 ^ w) (length_down w) (down_same w) xs ys p.behind q.behind l p.fit q.fit (p.bits ∙ sym q.bits)

pub packs_front : (w k : ℕ) (xs bs : List ℕ) → PacksDown w xs bs → PacksDown w (take k xs) bs
packs_front w k xs bs p =
    record {
      fit = All-take (λ x. x < 2 ^ w) k xs p.fit;
      bytes = p.bytes;
      behind = bits_down w (drop k xs) ++ p.behind;
      bits = sym (append_assoc (bits_down w (take k xs)) (bits_down w (drop k xs)) p.behind)
          ∙ (ap (λ z. z ++ p.behind) (sym (joined_append (down w) (take k xs) (drop k xs)) ∙ ap (bits_down w) (take-append-drop k xs)) ∙ p.bits);
    }

-- how long they are
pub length_joined : (f : ℕ → List ℕ) (n : ℕ) → ((x : ℕ) → length (f x) ≡ n) → (xs : List ℕ) → length (flat_map f xs) ≡ length xs * n
length_joined f n size [] = sym (zero-mul n)
length_joined f n size (x ∷ xs) =
    let a = length-append (f x) (flat_map f xs) in
    let b = length_joined f n size xs in
    let c = size x in
    let d = suc-mul (length xs) n in
    omega arith

pub fills_length : (w : ℕ) (xs bs : List ℕ) → Fills w xs bs → length xs * w ≡ length bs * 8
fills_length w xs bs p = sym (length_joined (up w) w (length_up w) xs) ∙ (ap length p.bits ∙ length_joined (up 8) 8 (length_up 8) bs)

pub packs_length : (w : ℕ) (xs bs : List ℕ) → PacksDown w xs bs → length xs * w ≤ 8 * length bs
packs_length w xs bs p =
    let a = length_joined (down w) w (length_down w) xs in
    let b = length_joined (down 8) 8 (length_down 8) bs in
    let c = ap length p.bits in
    let d = length-append (bits_down w xs) p.behind in
    omega arith

-- a repeated value in `k` bytes
pub fills_value : (k : ℕ) (bs : List ℕ) → Below 256 bs → length bs ≡ k → Fills (8 * k) (le bs ∷ []) bs
fills_value k bs h e =
    record {
      fit = (subst (λ j. le bs < 2 ^ (8 * j)) e (le_below bs h), tt);
      bytes = h;
      bits = append-nil (up (8 * k) (le bs)) ∙ (ap (λ j. up (8 * j) (le bs)) (sym e) ∙ sym (bits_bytes bs h));
    }
