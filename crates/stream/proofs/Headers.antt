-- A header byte by byte, and the numbers that it and a repeated value can be.
use Rattle.std.proofs.Common.{◌≡◌, ℕ, zero, suc, ◌+◌, ◌-◌, ◌*◌, ◌^◌, ◌<◌, ◌≤◌, cond, Option, None, Result, Ok, List, [], ◌∷◌, length, get_or, take, drop, sym, refl, ap, ◌∙◌, arith, pow_mono, pow-add, le-ltb, lt-ltb}
use Rattle.std.proofs.lemmas.List.{take_rest}
use Rattle.stream.specs.Streams.{header, header_of, over}
use Rattle.stream.specs.declared.header.Header.{Header}
use Rattle.stream.specs.declared.header.RunFault.{RunFault}

pub header_empty : (k : ℕ) (bs : List ℕ) → 0 < k → length bs ≡ 0 → header k bs ≡ Ok None
header_empty zero bs h l = absurd (omega arith)
header_empty (suc k) [] h l = refl
header_empty (suc k) (b ∷ bs) h l = absurd (omega arith)

pub header_last : (k : ℕ) (bs : List ℕ) → 0 < k → 0 < length bs → get_or bs 0 0 < 128 → header k bs ≡ header_of (get_or bs 0 0) 0
header_last zero bs h l t = absurd (omega arith)
header_last (suc k) [] h l t = absurd (omega arith)
header_last (suc k) (b ∷ bs) h l t = ap (λ x. cond x (header_of b 0) (over (b - 128) (header k bs))) (lt-ltb b 128 t)

pub header_more : (k : ℕ) (bs : List ℕ) → 0 < k → 0 < length bs → 128 ≤ get_or bs 0 0
    → header k bs ≡ over (get_or bs 0 0 - 128) (header (k - 1) (drop 1 bs))
header_more zero bs h l t = absurd (omega arith)
header_more (suc k) [] h l t = absurd (omega arith)
header_more (suc k) (b ∷ bs) h l t =
    let e : suc k - 1 ≡ k = omega arith in
    ap (λ x. cond x (header_of b 0) (over (b - 128) (header k bs))) (le-ltb b 128 t) ∙ ap (λ j. over (b - 128) (header j bs)) (sym e)

-- the same, where `r` was read from `&bs[1..]`
pub header_over : (k : ℕ) (bs : List ℕ) (r : Result (Option Header) RunFault) → 0 < k → 0 < length bs → 128 ≤ get_or bs 0 0
    → r ≡ header (k - 1) (take (length bs - 1) (drop 1 bs)) → over (get_or bs 0 0 - 128) r ≡ header k bs
header_over k bs r h l t e =
    ap (over (get_or bs 0 0 - 128)) (e ∙ ap (header (k - 1)) (take_rest bs 1)) ∙ sym (header_more k bs h l t)

-- one byte of seven bits more
pub sevens_more : (k : ℕ) → 0 < k → 2 ^ (7 * k) ≡ 128 * 2 ^ (7 * (k - 1))
sevens_more k h = let e : 7 * k ≡ 7 + 7 * (k - 1) = omega arith in ap (λ n. 2 ^ n) e ∙ pow-add 2 7 (7 * (k - 1))

-- one byte more, and the most below four bytes
pub bytes_more : (k : ℕ) → 2 ^ (8 * (k + 1)) ≡ 256 * 2 ^ (8 * k)
bytes_more k = let e : 8 * (k + 1) ≡ 8 + 8 * k = omega arith in ap (λ n. 2 ^ n) e ∙ pow-add 2 8 (8 * k)

pub bytes_suc : (k : ℕ) → 2 ^ (8 * suc k) ≡ 256 * 2 ^ (8 * k)
bytes_suc k = let e : suc k ≡ k + 1 = omega arith in ap (λ n. 2 ^ (8 * n)) e ∙ bytes_more k

pub bytes_top : (k : ℕ) → k < 4 → 2 ^ (8 * k) ≤ 2 ^ 24
bytes_top k h = pow_mono {i = 8 * k} {j = 24} (omega arith)
