-- Laws of reading and skipping.
use Rattle.std.proofs.Common.{◌≡◌, ℕ, ◌+◌, ◌-◌, ◌<◌, ◌≤◌, inl, inr, true, false, ltb, List, [], ◌++◌, map, length, take, drop, sym, refl, ap, ◌∙◌, arith}
use borrow.Rule.Slice.PartMut.{put_mid}
use Rattle.std.proofs.lemmas.List.{take_rest, append_assoc, append-nil, map-append, length-append, length-map, length-take-le, length-drop, take_at, take_all, drop_at, drop_all, drop-drop}
use Rattle.std.proofs.lemmas.Bool.{lt-ltb, le-ltb, and_left, and_right, and_from}
use Rattle.stream.specs.Streams.{Stream, ended, clean, fault, within, hybrid}
use Rattle.run.specs.declared.reader.RunReader.{RunReader}
use Rattle.run.specs.Coming.{to_come, next_of, Steps, Stopped}
use Rattle.run.specs.Packed.{good}
use Rattle.run.proofs.Within.{good_there, good_few, good_over, good_stops}
use Rattle.run.specs.Runs.{left_of}
use Rattle.run.specs.Reading.{is_fault, fails, given, after, filled, onto, Passes}

-- a call so far: `k` numbers of the stream `s` stand in front of what the places `o` held
pub record Got {X : Type 0} (f : ℕ → X) (s : Stream) (o : List X) (k : ℕ) (p : List X) (t : Stream) : Type 0 where
  pub passes : Passes s k t
  pub most : k ≤ length o
  pub written : p ≡ map f passes.numbers ++ drop k o

abbrev pub passes_none : (s : Stream) → Passes s 0 s
passes_none s = record { numbers = []; many = refl; there = refl }

abbrev pub passes_more : (s t u : Stream) (j k : ℕ) → Passes s j t → Passes t k u → Passes s (j + k) u
passes_more s t u j k a b =
    record {
      numbers = a.numbers ++ b.numbers;
      many = length-append a.numbers b.numbers ∙ (ap (λ n. n + length b.numbers) a.many ∙ ap (λ n. j + n) b.many);
      there = a.there ∙ (ap (onto a.numbers) b.there ∙ ap (λ xs. record { numbers = xs; end = u.end }) (sym (append_assoc a.numbers b.numbers u.numbers)));
    }

abbrev pub passes_to : (s t u : Stream) (k : ℕ) → Passes s k t → t ≡ u → Passes s k u
passes_to s t u k a e = record { numbers = a.numbers; many = a.many; there = a.there ∙ ap (onto a.numbers) e }

-- a step within a run
abbrev pub passes_step : (s : Stream) (k : ℕ) (r : RunReader) (n : ℕ) (t : RunReader) → Passes s k (to_come r) → Steps r n t → Passes s (k + n) (to_come t)
passes_step s k r n t a b =
    passes_more s (to_come r) (to_come t) k n a (record { numbers = next_of r n; many = length-take-le n (left_of r.run) b.there; there = b.passes })

-- A step within a run: `m` of its numbers are looked at, or all that are left, and `k` of them are good.
module _ (r t : RunReader) (m k : ℕ) (is : k ≡ good r.limit (take m (left_of r.run))) (on : left_of t.run ≡ drop k (left_of r.run))
    (limit : t.limit ≡ r.limit) (width : t.width.bits ≡ r.width.bits) (bytes : t.bytes.now ≡ r.bytes.now) where
  comes : to_come t ≡ within r.limit (drop k (left_of r.run)) (hybrid r.width.bits r.limit r.bytes.now)
  comes =
      ap (λ l. within l (left_of t.run) (hybrid t.width.bits l t.bytes.now)) limit
      ∙ (ap (λ xs. within r.limit xs (hybrid t.width.bits r.limit t.bytes.now)) on
      ∙ (ap (λ w. within r.limit (drop k (left_of r.run)) (hybrid w r.limit t.bytes.now)) width
      ∙ ap (λ bs. within r.limit (drop k (left_of r.run)) (hybrid r.width.bits r.limit bs)) bytes))

  pub step_over : Steps r k t
  step_over = record {
    there = good_there r.limit m k (left_of r.run) is;
    passes = good_over r.limit m k (left_of r.run) is (hybrid r.width.bits r.limit r.bytes.now) ∙ ap (onto (take k (left_of r.run))) (sym comes);
    bytes = bytes;
  }

  pub step_most : k ≤ m
  step_most = good_few r.limit m k (left_of r.run) is

  pub step_stops : k < m → Stopped t
  step_stops h = elim (good_stops r.limit m k (left_of r.run) is (hybrid r.width.bits r.limit r.bytes.now) h) [ inl e ↦ inl (on ∙ e) | inr e ↦ inr (comes ∙ e) ]

pub got_none : {X : Type 0} (f : ℕ → X) (s : Stream) (o : List X) → Got f s o 0 o s
got_none f s o = record { passes = passes_none s; most = omega arith; written = refl }

pub got_to : {X : Type 0} (f : ℕ → X) (s t u : Stream) (o p : List X) (k : ℕ) → Got f s o k p t → t ≡ u → Got f s o k p u
got_to f s t u o p k a e = record { passes = passes_to s t u k a.passes e; most = a.most; written = a.written }

-- a step, which wrote into the places behind the first `j`
pub got_step : {X : Type 0} (f : ℕ → X) (s : Stream) (o p ys : List X) (j : ℕ) (r : RunReader) (n : ℕ) (t : RunReader) → Got f s o j p (to_come r) → Steps r n t
    → n ≤ length (take (length p - j) (drop j p)) → ys ≡ map f (next_of r n) ++ drop n (take (length p - j) (drop j p)) → Got f s o (j + n) (put_mid j (length p - j) p ys) (to_come t)
got_step f s o p ys j r n t a b m e =
    let xs : List ℕ = a.passes.numbers in
    let zs : List ℕ = next_of r n in
    let l : length (map f xs) ≡ j = length-map xs f ∙ a.passes.many in
    let tk : take j p ≡ map f xs = ap (take j) a.written ∙ take_at (map f xs) (drop j o) j l in
    let dk : drop j p ≡ drop j o = ap (drop j) a.written ∙ drop_at (map f xs) (drop j o) j l in
    let tr = take_rest p j in
    let dn = drop_all (length p - j) (drop j p) (omega (arith, length-drop j p)) in
    record {
      passes = passes_step s j r n t a.passes b;
      most = omega (arith, a.most, m, ap length (tr ∙ dk), length-drop j o);
      written = ap (λ z. take j p ++ (ys ++ z)) dn
          ∙ (ap (λ z. take j p ++ z) (append-nil ys ∙ (e ∙ ap (λ z. map f zs ++ drop n z) (tr ∙ dk)))
          ∙ (ap (λ z. z ++ (map f zs ++ drop n (drop j o))) tk
          ∙ (sym (append_assoc (map f xs) (map f zs) (drop n (drop j o))) ∙ (ap (λ z. z ++ drop n (drop j o)) (sym (map-append f xs zs)) ∙ ap (λ z. map f (xs ++ zs) ++ z) (drop-drop n j o)))));
    }

-- the places stay as many
pub got_length : {X : Type 0} (f : ℕ → X) (s t : Stream) (o p : List X) (k : ℕ) → Got f s o k p t → length p ≡ length o
got_length f s t o p k a =
    ap length a.written ∙ (length-append (map f a.passes.numbers) (drop k o) ∙ omega (arith, a.most, length-map a.passes.numbers f, a.passes.many, length-drop k o))

-- a call that gave all, that came to a clean end, and that came to a fault
module _ (s t : Stream) (k m : ℕ) (a : Passes s k t) where
  many_is : length s.numbers ≡ k + length t.numbers
  many_is = ap (λ z. length z.numbers) a.there ∙ (length-append a.numbers t.numbers ∙ ap (λ n. n + length t.numbers) a.many)

  end_is : s.end ≡ t.end
  end_is = ap (λ z. z.end) a.there

  rest_is : after k s ≡ t
  rest_is =
      ap (λ z. record { numbers = drop k z.numbers; end = z.end }) a.there
      ∙ ap (λ xs. record { numbers = xs; end = t.end }) (drop_at a.numbers t.numbers k a.many)

  pub all_fails : k ≡ m → fails m s ≡ false
  all_fails e = and_left (ltb (length s.numbers) m) (is_fault s.end) (le-ltb (length s.numbers) m (omega (arith, many_is)))

  pub all_given : k ≡ m → k ≡ given m s
  all_given e = omega (arith, many_is)

  pub all_after : k ≡ m → t ≡ after m s
  all_after e = sym (ap (λ j. after j s) (sym e) ∙ rest_is)

  pub clean_fails : t ≡ ended clean → fails m s ≡ false
  clean_fails e = and_right (ltb (length s.numbers) m) (is_fault s.end) (ap is_fault (end_is ∙ ap (λ z. z.end) e))

  none_left : {x : Stream} → t ≡ x → length s.numbers ≡ k + length x.numbers
  none_left e = many_is ∙ ap (λ z. k + length z.numbers) e

  pub clean_given : t ≡ ended clean → k ≤ m → k ≡ given m s
  clean_given e h = omega (arith, none_left e)

  pub clean_after : t ≡ ended clean → k ≤ m → ended clean ≡ after m s
  clean_after e h =
      let z : drop m s.numbers ≡ [] = drop_all m s.numbers (omega (arith, none_left e)) in
      sym (ap (λ xs. record { numbers = xs; end = s.end }) z ∙ ap (λ x. record { numbers = []; end = x }) (end_is ∙ ap (λ x. x.end) e))

  pub fault_fails : t ≡ ended fault → k < m → fails m s ≡ true
  fault_fails e h =
      and_from (ltb (length s.numbers) m) (is_fault s.end) (lt-ltb (length s.numbers) m (omega (arith, none_left e))) (ap is_fault (end_is ∙ ap (λ z. z.end) e))

pub all_filled : {X : Type 0} (f : ℕ → X) (s t : Stream) (o p : List X) (k : ℕ) → Got f s o k p t → k ≡ length o → p ≡ filled f s o
all_filled f s t o p k a e =
    let xs : List ℕ = a.passes.numbers in
    let c : take (length o) s.numbers ≡ xs = ap (λ j. take j s.numbers) (sym e) ∙ (ap (λ z. take k z.numbers) a.passes.there ∙ take_at xs t.numbers k a.passes.many) in
    let d : drop k o ≡ drop (length s.numbers) o = drop_all k o (omega arith) ∙ sym (drop_all (length s.numbers) o (omega (arith, many_is s t k k a.passes))) in
    a.written ∙ (ap (λ z. map f xs ++ z) d ∙ ap (λ z. map f z ++ drop (length s.numbers) o) (sym c))

pub end_filled : {X : Type 0} (f : ℕ → X) (s t : Stream) (o p : List X) (k : ℕ) → Got f s o k p t → t.numbers ≡ [] → p ≡ filled f s o
end_filled f s t o p k a e =
    let xs : List ℕ = a.passes.numbers in
    let n : s.numbers ≡ xs = ap (λ z. z.numbers) a.passes.there ∙ (ap (λ z. xs ++ z) e ∙ append-nil xs) in
    let l : length s.numbers ≡ k = ap length n ∙ a.passes.many in
    let c : take (length o) s.numbers ≡ xs = take_all (length o) s.numbers (omega (arith, a.most)) ∙ n in
    a.written ∙ (ap (λ z. map f z ++ drop k o) (sym c) ∙ ap (λ j. map f (take (length o) s.numbers) ++ drop j o) (sym l))
