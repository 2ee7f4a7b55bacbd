-- Laws of numbers held against a limit.
use Rattle.std.proofs.Common.{◌≡◌, ℕ, zero, suc, ◌+◌, ◌<◌, ◌≤◌, ◌⊎◌, Bool, true, false, cond, ltb, List, [], ◌∷◌, ◌++◌, length, take, drop, sym, refl, ap, ◌∙◌, inl, inr, arith}
use Rattle.std.proofs.lemmas.List.{drop_all, length-take, take-append-drop}
use Rattle.std.proofs.lemmas.Bool.{cases_lt}
use Rattle.stream.specs.Streams.{Stream, ended, fault, within}
use Rattle.run.specs.Packed.{good}
use Rattle.run.proofs.Goods.{good_append, good_cut, good_most}
use Rattle.run.specs.Reading.{onto}

-- numbers that are all good
pub within_good : (limit : ℕ) (xs : List ℕ) (t : Stream) → good limit xs ≡ length xs → within limit xs t ≡ onto xs t
within_good limit [] t h = refl
within_good limit (x ∷ xs) t h = go (ltb x limit) (within_good limit xs t) h
  where
    go : (b : Bool) → (good limit xs ≡ length xs → within limit xs t ≡ onto xs t) → cond b (1 + good limit xs) 0 ≡ suc (length xs)
        → cond b (record { numbers = x ∷ (within limit xs t).numbers; end = (within limit xs t).end }) (ended fault) ≡ onto (x ∷ xs) t
    go true i e = let j = i (omega arith) in ap (λ s. onto (x ∷ []) s) j
    go false i e = absurd (omega arith)

-- numbers of which one is not good
pub within_bad : (limit : ℕ) (xs : List ℕ) (t : Stream) → good limit xs < length xs → within limit xs t ≡ onto (take (good limit xs) xs) (ended fault)
within_bad limit [] t h = absurd (omega arith)
within_bad limit (x ∷ xs) t h = go (ltb x limit) (within_bad limit xs t) h
  where
    go : (b : Bool) → (good limit xs < length xs → within limit xs t ≡ onto (take (good limit xs) xs) (ended fault)) → cond b (1 + good limit xs) 0 < suc (length xs)
        → cond b (record { numbers = x ∷ (within limit xs t).numbers; end = (within limit xs t).end }) (ended fault) ≡ onto (take (cond b (1 + good limit xs) 0) (x ∷ xs)) (ended fault)
    go true i e =
        let j = i (omega arith) in
        let n : suc (good limit xs) ≡ 1 + good limit xs = omega arith in
        ap (λ s. onto (x ∷ []) s) j ∙ ap (λ k. onto (take k (x ∷ xs)) (ended fault)) n
    go false i e = refl

pub within_append : (limit : ℕ) (xs ys : List ℕ) (t : Stream) → within limit (xs ++ ys) t ≡ within limit xs (within limit ys t)
within_append limit [] ys t = refl
within_append limit (x ∷ xs) ys t =
    ap (λ s. cond (ltb x limit) (record { numbers = x ∷ s.numbers; end = s.end }) (ended fault)) (within_append limit xs ys t)

-- over `k` numbers that are good
pub within_over : (limit k : ℕ) (xs : List ℕ) (t : Stream) → k ≤ good limit xs → within limit xs t ≡ onto (take k xs) (within limit (drop k xs) t)
within_over limit zero xs t h = refl
within_over limit (suc k) [] t h = absurd (omega arith)
within_over limit (suc k) (x ∷ xs) t h = go (ltb x limit) (within_over limit k xs t) h
  where
    go : (b : Bool) → (k ≤ good limit xs → within limit xs t ≡ onto (take k xs) (within limit (drop k xs) t)) → suc k ≤ cond b (1 + good limit xs) 0
        → cond b (record { numbers = x ∷ (within limit xs t).numbers; end = (within limit xs t).end }) (ended fault) ≡ onto (x ∷ take k xs) (within limit (drop k xs) t)
    go true i e = let j = i (omega arith) in ap (λ s. onto (x ∷ []) s) j
    go false i e = absurd (omega arith)

-- at a number that is not good
pub within_stops : (limit : ℕ) (xs : List ℕ) (t : Stream) → good limit xs < length xs → within limit (drop (good limit xs) xs) t ≡ ended fault
within_stops limit [] t h = absurd (omega arith)
within_stops limit (x ∷ xs) t h = go (ltb x limit) refl (within_stops limit xs t) h
  where
    go : (b : Bool) → ltb x limit ≡ b → (good limit xs < length xs → within limit (drop (good limit xs) xs) t ≡ ended fault) → cond b (1 + good limit xs) 0 < suc (length xs)
        → within limit (drop (cond b (1 + good limit xs) 0) (x ∷ xs)) t ≡ ended fault
    go true q i e = let n : 1 + good limit xs ≡ suc (good limit xs) = omega arith in ap (λ k. within limit (drop k (x ∷ xs)) t) n ∙ i (omega arith)
    go false q i e = ap (λ b. cond b (record { numbers = x ∷ (within limit xs t).numbers; end = (within limit xs t).end }) (ended fault)) q

-- The next numbers, of which `n` are looked at: `k` of them are good.
module _ (limit n k : ℕ) (xs : List ℕ) (is : k ≡ good limit (take n xs)) where
  both : good limit (take n xs ++ drop n xs) ≡ good limit xs
  both = ap (good limit) (take-append-drop n xs)

  pub good_there : k ≤ length xs
  good_there = omega (arith, good_most limit (take n xs), length-take n xs)

  pub good_few : k ≤ n
  good_few = omega (arith, good_most limit (take n xs), length-take n xs)

  good_in : k ≤ good limit xs
  good_in = elim (cases_lt k (length (take n xs))) [
    | inl c ↦ (let l : good limit (take n xs) < length (take n xs) = omega (arith, is) in omega (arith, is, good_cut limit (take n xs) (drop n xs) l, both))
    | inr c ↦ (let l : good limit (take n xs) ≡ length (take n xs) = omega (arith, is, good_most limit (take n xs)) in omega (arith, is, good_append limit (take n xs) (drop n xs) l, both))
  ]

  pub good_over : (t : Stream) → within limit xs t ≡ onto (take k xs) (within limit (drop k xs) t)
  good_over t = within_over limit k xs t good_in

  -- fewer than there are places: the run is read, or the next is not good
  pub good_stops : (t : Stream) → k < n → (drop k xs ≡ []) ⊎ (within limit (drop k xs) t ≡ ended fault)
  good_stops t h = elim (cases_lt k (length (take n xs))) [
    | inl c ↦ (let g : good limit xs ≡ k = sym both ∙ (good_cut limit (take n xs) (drop n xs) (omega arith) ∙ sym is) in
        let l : good limit xs < length xs = omega (arith, length-take n xs) in
        inr (ap (λ j. within limit (drop j xs) t) (sym g) ∙ within_stops limit xs t l))
    | inr c ↦ inl (drop_all k xs (omega (arith, length-take n xs)))
  ]
