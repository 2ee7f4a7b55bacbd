-- BIT_PACKED against the grammar.
use Rattle.std.proofs.Common.{◌≡◌, ℕ, zero, suc, ◌*◌, ◌/◌, ◌≤◌, Bool, true, false, cond, ltb, List, ◌++◌, length, take, drop, sym, ap, ◌∙◌, subst, div-mul-le_self, arith}
use Rattle.std.proofs.lemmas.Nat.{le-div}
use Rattle.std.proofs.lemmas.List.{take-append-drop}
use Rattle.std.proofs.lemmas.Bool.{le-ltb}
use Rattle.stream.specs.Grammar.{PacksDown}
use Rattle.stream.specs.Packing.{be, high_first}
use Rattle.stream.specs.Streams.{clean, fault, ended, within, longest}
use Rattle.stream.specs.Theorems.{BitPackedReadsWhatLiesThere, BitPackedLiesThere}
use Rattle.stream.proofs.Filling.{length_above, packs_read, packs_once, packs_front, packs_length}
use Rattle.stream.proofs.Flow.{within_append, within_good, within_front}

pub reads : BitPackedReadsWhatLiesThere
reads zero limit xs bs l p h few = absurd (omega arith)
reads (suc w) limit xs bs l p h few =
    let n : ℕ = 8 * length bs / suc w in
    let ys : List ℕ = high_first (suc w) n bs in
    let fits : length xs ≤ n = le-div (length xs) (8 * length bs) (suc w) (omega arith) (packs_length (suc w) xs bs p) in
    let long : length xs ≤ length ys = omega (arith, length_above (suc w) n (8 * length bs) (be bs)) in
    let t : take (length xs) ys ≡ xs = packs_once (suc w) xs ys bs long p (packs_read (suc w) n bs p.bytes (omega (arith, div-mul-le_self (8 * length bs) (suc w)))) in
    let zs : List ℕ = drop (length xs) ys in
    let split : ys ≡ xs ++ zs = sym (take-append-drop (length xs) ys) ∙ ap (λ t. t ++ zs) t in
    let most : n ≤ longest = omega arith in (
      (within limit zs (ended clean)).numbers,
      ap (λ b. (cond b (ended fault) (within limit ys (ended clean))).numbers) (le-ltb longest n most)
          ∙ (ap (λ t. (within limit t (ended clean)).numbers) split
          ∙ (ap (λ s. s.numbers) (within_append limit xs zs (ended clean)) ∙ ap (λ s. s.numbers) (within_good limit xs (within limit zs (ended clean)) h))),
    )

-- either nothing is given, or a front of what the definition reads
given : (b : Bool) (w limit : ℕ) (ys bs : List ℕ) → PacksDown w ys bs → PacksDown w (cond b (ended fault) (within limit ys (ended clean))).numbers bs
given true w limit ys bs p = packs_front w 0 ys bs p
given false w limit ys bs p =
    let f = within_front limit ys clean in
    subst (λ t. PacksDown w t bs) (sym f.1) (packs_front w f.0 ys bs p)

pub lies : BitPackedLiesThere
lies zero limit bs h = packs_read 0 0 bs h (omega arith)
lies (suc w) limit bs h =
    let n : ℕ = 8 * length bs / suc w in
    given (ltb longest n) (suc w) limit (high_first (suc w) n bs) bs (packs_read (suc w) n bs h (omega (arith, div-mul-le_self (8 * length bs) (suc w))))
