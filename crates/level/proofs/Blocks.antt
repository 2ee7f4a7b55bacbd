-- Laws of streams, and of blocks that are read.
use Rattle.std.proofs.Common.{◌≡◌, ℕ, ◌+◌, ◌≤◌, min, false, ltb, List, ◌++◌, map, length, take, drop, Ok, Err, Result, sym, ap, ◌∙◌, inl, inr, arith}
use Rattle.std.proofs.lemmas.List.{append_assoc, drop_all, drop-drop, take_all, take_at, map-id, length-map, length-take}
use Rattle.std.proofs.lemmas.Bool.{le-ltb, and_left, cases_Bool, cases_lt, cond-true, cond-false}
use Rattle.stream.specs.Streams.{Stream}
use Rattle.run.specs.declared.kind.StreamFault.{StreamFault}
use Rattle.run.specs.Reading.{is_fault, fails, given, after, rest, filled, some_of}

pub there_fails : (n : ℕ) (s : Stream) → n ≤ length s.numbers → fails n s ≡ false
there_fails n s h = and_left (ltb (length s.numbers) n) (is_fault s.end) (le-ltb (length s.numbers) n h)

pub there_rest : (n : ℕ) (s : Stream) → n ≤ length s.numbers → rest n s ≡ after n s
there_rest n s h = cond-false (fails n s) s (after n s) (there_fails n s h)

pub after_after : (n m : ℕ) (s : Stream) → after m (after n s) ≡ after (n + m) s
after_after n m s = ap (λ (xs : List ℕ). record { numbers = xs; end = s.end }) (drop-drop m n s.numbers)

-- as far as there are levels
pub given_after : (m : ℕ) (s : Stream) → after m s ≡ after (given m s) s
given_after m s = ap (λ (xs : List ℕ). record { numbers = xs; end = s.end }) (elim (cases_lt (length s.numbers) m) [
  | inl k ↦ drop_all m s.numbers (omega arith) ∙ sym (drop_all (given m s) s.numbers (omega arith))
  | inr k ↦ (let z : m ≡ given m s = omega arith in ap (λ (j : ℕ). drop j s.numbers) z)
])

given_take : (m : ℕ) (s : Stream) → take m s.numbers ≡ take (given m s) s.numbers
given_take m s = elim (cases_lt (length s.numbers) m) [
  | inl k ↦ take_all m s.numbers (omega arith) ∙ sym (take_all (given m s) s.numbers (omega arith))
  | inr k ↦ (let z : m ≡ given m s = omega arith in ap (λ (j : ℕ). take j s.numbers) z)
]

pub read_comes : (m k t : ℕ) (s u v : Stream) → k ≡ given m u → u ≡ after t s → v ≡ after m u → v ≡ after (t + k) s
read_comes m k t s u v h e d = d ∙ (given_after m u ∙ (ap (λ (j : ℕ). after j u) (sym h) ∙ (ap (after k) e ∙ after_after t k s)))

-- what a call for some levels replied
module _ (m : ℕ) (s : Stream) where
  pub some_given : (k : ℕ) → ◌≡◌ {A = Result ℕ StreamFault} (Ok k) (some_of m s) → k ≡ given m s
  some_given k e = elim (cases_Bool (fails (min 1 m) s)) [
    | inl t ↦ (let p : ◌≡◌ {A = Result ℕ StreamFault} (Ok k) (Err (record {})) = e ∙ cond-true (fails (min 1 m) s) _ _ t in cc)
    | inr f ↦ (let p : ◌≡◌ {A = Result ℕ StreamFault} (Ok k) (Ok (given m s)) = e ∙ cond-false (fails (min 1 m) s) _ _ f in cc)
  ]

-- what a block holds then
pub block_holds : (k : ℕ) (s : Stream) (o p r : List ℕ) → k ≡ given (length o) s → p ≡ filled (λ x. x) s o → take k (p ++ r) ≡ take k s.numbers
block_holds k s o p r h e =
    let xs : List ℕ = map (λ x. x) (take (length o) s.numbers) in
    let l : length xs ≡ k = simp (length-map, length-take) (omega arith) in
    ap (λ z. take k (z ++ r)) e
    ∙ (ap (take k) (append_assoc xs (drop (length s.numbers) o) r)
    ∙ (take_at xs (drop (length s.numbers) o ++ r) k l ∙ (map-id (take (length o) s.numbers) ∙ (given_take (length o) s ∙ ap (λ (j : ℕ). take j s.numbers) (sym h)))))
