-- Two calls are one.
use Rattle.std.proofs.Common.{◌≡◌, ℕ, ◌+◌, ◌-◌, ◌<◌, ◌≤◌, min, false, ◌&&◌, ltb, List, ◌++◌, length, take, drop, sym, ap, ◌∙◌, inl, inr, arith}
use Rattle.std.proofs.lemmas.List.{length-drop, drop-drop, drop-take, take-append-drop, take-take}
use Rattle.std.proofs.lemmas.Bool.{lt-ltb, le-ltb, cond-false, and_left, cases_lt}
use Rattle.run.specs.Reading.{is_fault, fails, after, rest, Adds}

ltb_shift : (k l n m : ℕ) → k ≡ l - n → n ≤ l → ltb l (n + m) ≡ ltb k m
ltb_shift k l n m e h =
    elim (cases_lt l (n + m)) [
      | inl c ↦ (let d : k < m = omega arith in lt-ltb l (n + m) c ∙ sym (lt-ltb k m d))
      | inr c ↦ (let d : m ≤ k = omega arith in le-ltb l (n + m) c ∙ sym (le-ltb k m d))
    ]

take_both : (n m : ℕ) (xs : List ℕ) → take (n + m) xs ≡ take n xs ++ take m (drop n xs)
take_both n m xs =
    sym (take-append-drop n (take (n + m) xs)) ∙ (ap (λ z. z ++ drop n (take (n + m) xs)) (take-take n (n + m) xs (omega arith)) ∙ ap (λ z. take n xs ++ z) (drop-take n m xs))

pub adds : Adds
adds s n m h =
    let l = length-drop n s.numbers in
    let f : fails n s ≡ false = and_left (ltb (length s.numbers) n) (is_fault s.end) (le-ltb (length s.numbers) n h) in
    let e : rest n s ≡ after n s = cond-false (fails n s) s (after n s) f in
    let g : fails (n + m) s ≡ fails m (after n s) = ap (λ b. b && is_fault s.end) (ltb_shift (length (drop n s.numbers)) (length s.numbers) n m l h) in
    record {
      faults = g ∙ ap (fails m) (sym e);
      many =
          let k : min (n + m) (length s.numbers) ≡ n + min m (length (drop n s.numbers)) = omega arith in
          k ∙ ap (λ t. n + min m (length t.numbers)) (sym e);
      numbers = take_both n m s.numbers ∙ ap (λ t. take n s.numbers ++ take m t.numbers) (sym e);
      behind = λ p.
          cond-false (fails (n + m) s) s (after (n + m) s) p
          ∙ (ap (λ xs. record { numbers = xs; end = s.end }) (sym (drop-drop m n s.numbers))
          ∙ (sym (cond-false (fails m (after n s)) (after n s) (after m (after n s)) (sym g ∙ p)) ∙ ap (rest m) (sym e)));
    }
