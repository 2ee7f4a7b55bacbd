-- Laws of levels that were read ahead.
use Rattle.std.proofs.Common.{◌≡◌, ℕ, ◌+◌, ◌-◌, ◌≤◌, min, List, ◌++◌, map, length, take, drop, sym, ap, ◌∙◌, inl, inr, arith}
use Rattle.std.proofs.Math.Seq.{take-add}
use Rattle.std.proofs.lemmas.List.{append-nil, map-append, drop-append-le, drop-drop, drop-take, length-map, length-take, length-drop}
use Rattle.std.proofs.lemmas.Bool.{cases_lt}
use Rattle.stream.specs.Streams.{Stream}
use Rattle.run.specs.Reading.{after, onto}
use Rattle.area.specs.declared.area.Area.{Area}
use Rattle.area.specs.Areas.{room, appended, blanked}
use Rattle.area.proofs.Appending.{appended_room, appended_twice, appended_blanked}

-- what a buffer holds from the place `o` to the place `l`, in front of the stream `r`
module _ (b : List ℕ) (o l : ℕ) (r : Stream) (h : o ≤ l) (k : l ≤ length b) where
  pub held_length : length (take (l - o) (drop o b)) ≡ l - o
  held_length = simp (length-take, length-drop) (omega arith)

  pub held_rest : (n : ℕ) → n ≤ l - o → onto (take (l - (o + n)) (drop (o + n) b)) r ≡ after n (onto (take (l - o) (drop o b)) r)
  held_rest n j =
      let i : l - o ≡ n + (l - (o + n)) = omega arith in
      let e : drop n (take (l - o) (drop o b)) ≡ take (l - (o + n)) (drop (o + n) b) =
      ap (λ (z : ℕ). drop n (take z (drop o b))) i ∙ (drop-take n (l - (o + n)) (drop o b) ∙ ap (take (l - (o + n))) (drop-drop n o b)) in
      sym (ap (λ (xs : List ℕ). record { numbers = xs; end = r.end }) (drop-append-le n (take (l - o) (drop o b)) r.numbers (omega (arith, held_length)) ∙ ap (λ z. z ++ r.numbers) e))

-- levels handed on to an area that already has the front of those before them
pub area_more : {X : Type 0} (f : ℕ → X) (a z y : Area X) (ns : List ℕ) (t k : ℕ) → t ≤ length ns → z ≡ appended a (map f (take (min t (room a)) ns)) → y ≡ appended z (map f (take (min k (room z)) (drop t ns)))
    → y ≡ appended a (map f (take (min (t + k) (room a)) ns))
area_more {X} f a z y ns t k h e p =
    let r = room a in
    let i = min t r in
    let xs : List X = map f (take i ns) in
    let lx : length xs ≡ i = length-map (take i ns) f ∙ (length-take i ns ∙ omega arith) in
    let rz : room z ≡ r - i = ap (λ (w : Area X). room w) e ∙ (appended_room a xs (omega (arith, lx)) ∙ omega (arith, lx)) in
    let j = min k (r - i) in
    let whole : take i ns ++ take j (drop t ns) ≡ take (min (t + k) r) ns =
    elim (cases_lt r t) [
      | inl q ↦ (let j0 : j ≡ 0 = omega arith in let i0 : i ≡ min (t + k) r = omega arith in
          ap (λ (n : ℕ). take i ns ++ take n (drop t ns)) j0 ∙ (append-nil (take i ns) ∙ ap (λ (n : ℕ). take n ns) i0))
      | inr q ↦ (let it : i ≡ t = omega arith in let tj : t + j ≡ min (t + k) r = omega arith in
          ap (λ (n : ℕ). take n ns ++ take j (drop t ns)) it ∙ (sym (take-add t j ns) ∙ ap (λ (n : ℕ). take n ns) tj))
    ] in
    p ∙ (ap (λ (w : Area X). appended w (map f (take (min k (room z)) (drop t ns)))) e
    ∙ (ap (λ (n : ℕ). appended (appended a xs) (map f (take (min k n) (drop t ns)))) rz
    ∙ (appended_twice a xs (map f (take j (drop t ns))) (omega (arith, lx))
    ∙ (ap (appended a) (sym (map-append f (take i ns) (take j (drop t ns)))) ∙ ap (λ (w : List ℕ). appended a (map f w)) whole))))

-- set back, the area is as if none had been
pub area_back : {X : Type 0} (f : ℕ → X) (b : X) (a z : Area X) (ns : List ℕ) (t : ℕ) → z ≡ appended a (map f (take (min t (room a)) ns)) → blanked b z a.count ≡ blanked b a a.count
area_back {X} f b a z ns t e =
    let xs : List X = map f (take (min t (room a)) ns) in
    let lx : length xs ≡ min (min t (room a)) (length ns) = length-map (take (min t (room a)) ns) f ∙ length-take (min t (room a)) ns in
    ap (λ (w : Area X). blanked b w a.count) e ∙ appended_blanked b a xs a.count (omega (arith, lx)) (omega arith)
