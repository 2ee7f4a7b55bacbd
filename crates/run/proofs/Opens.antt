-- Laws of a reader at the start of a stream.
use Rattle.std.proofs.Common.{◌≡◌, ℕ, zero, suc, ◌-◌, ◌*◌, ◌/◌, ◌<◌, ◌≤◌, ltb, List, [], length, take, drop, sym, ap, ◌∙◌, zero-add, arith}
use Rattle.std.proofs.lemmas.Nat.{le-div}
use Rattle.std.proofs.lemmas.List.{take_rest, drop_all}
use Rattle.std.proofs.lemmas.Bool.{lt-ltb, le-ltb, cond-true, cond-false}
use Rattle.stream.specs.Packing.{high_first}
use Rattle.stream.specs.Streams.{ended, clean, fault, within, hybrid, bit_packed, longest}
use Rattle.run.specs.Packed.{highs}

-- `&bytes[bytes.len()..]`
pub nothing_behind : (bs : List ℕ) → take (length bs - length bs) (drop (length bs) bs) ≡ []
nothing_behind bs = take_rest bs (length bs) ∙ drop_all (length bs) bs (omega arith)

pub packed_none : (w limit : ℕ) (bs : List ℕ) → w ≡ 0 → ended clean ≡ bit_packed w limit bs
packed_none w limit bs e = sym (ap (λ k. bit_packed k limit bs) e)

pub packed_long : (w b limit : ℕ) (bs : List ℕ) → b ≡ w → 0 < b → longest < 8 * length bs / b → ended fault ≡ bit_packed w limit bs
packed_long w b limit bs e h l = go w (omega arith) (rw e at l)
  where
    go : (w : ℕ) → 0 < w → longest < 8 * length bs / w → ended fault ≡ bit_packed w limit bs
    go zero h l = absurd (omega arith)
    go (suc w) h l = sym (cond-true (ltb longest (8 * length bs / suc w)) _ _ (lt-ltb longest (8 * length bs / suc w) l))

pub packed_vast : (w b limit : ℕ) (bs : List ℕ) → b ≡ w → 0 < b → b ≤ 32 → 17179869184 ≤ length bs → ended fault ≡ bit_packed w limit bs
packed_vast w b limit bs e h t l =
    let m : 2147483648 * b ≤ 2147483648 * 32 = omega arith in
    let d = le-div 2147483648 (8 * length bs) b h (omega arith) in
    packed_long w b limit bs e h (omega arith)

pub packed_some : (w b limit : ℕ) (bs rest : List ℕ) → b ≡ w → 0 < b → 8 * length bs / b ≤ longest → rest ≡ []
    → within limit (highs w 0 (8 * length bs / b) bs) (hybrid w limit rest) ≡ bit_packed w limit bs
packed_some w b limit bs rest e h l z =
    let n : ℕ = 8 * length bs / b in
    ap (λ r. within limit (highs w 0 n bs) (hybrid w limit r)) z
    ∙ (ap (λ k. within limit (high_first w k bs) (ended clean)) (zero-add n)
    ∙ (ap (λ k. within limit (high_first w (8 * length bs / k) bs) (ended clean)) e ∙ go w (omega arith) (rw e at l)))
  where
    go : (w : ℕ) → 0 < w → 8 * length bs / w ≤ longest → within limit (high_first w (8 * length bs / w) bs) (ended clean) ≡ bit_packed w limit bs
    go zero h l = absurd (omega arith)
    go (suc w) h l = sym (cond-false (ltb longest (8 * length bs / suc w)) _ _ (le-ltb longest (8 * length bs / suc w) l))
