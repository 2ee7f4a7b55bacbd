-- The laws of appending to an area and of setting it back, over its elements.
use Rattle.std.proofs.Common.{◌≡◌, ℕ, ◌+◌, ◌-◌, ◌<◌, ◌≤◌, min, List, [], ◌++◌, length, take, drop, replicate, sym, refl, ap, ◌∙◌, inl, inr, arith}
use lib.Seq.{paste}
use Rattle.area.specs.declared.area.Area.{Area}
use Rattle.area.specs.Areas.{cells, room, counted, filled, appended, blanked}
use Rattle.area.proofs.Holding.{held}
use Rattle.std.proofs.lemmas.List.Edits.{paste_none, paste_all, paste-paste, length-paste, take-paste}
use Rattle.std.proofs.lemmas.Bool.Decides.{leb_tells}
use Rattle.std.proofs.lemmas.List.{take_min, append-nil, length-take, length-append, take_all, take-take, take-append-le, nil_from_length}

-- nothing appended changes nothing
pub appended_none : {X : Type 0} (a : Area X) → appended a [] ≡ a
appended_none a = held a _ _ _ _ (sym (paste_none (cells a) a.count [])) (omega arith)

-- where the count is past the end, only nothing fits
nothing : {X : Type 0} (a : Area X) (xs : List X) → length xs ≤ room a → length (cells a) < a.count → xs ≡ []
nothing a xs h p = nil_from_length xs (omega arith)

-- the memory stays as long as it was
pub appended_length : {X : Type 0} (a : Area X) (xs : List X) → length xs ≤ room a → length (cells (appended a xs)) ≡ length (cells a)
appended_length {X} a xs h = elim (leb_tells a.count (length (cells a))) [
  | inl p ↦ length-paste (cells a) a.count xs (length xs) (omega (arith, p.1)) (omega arith)
  | inr p ↦ ap (λ (ys : List X). length (cells (appended a ys))) (nothing a xs h p.1) ∙ ap (λ (b : Area X). length (cells b)) (appended_none a)
]

-- what is appended takes its room, and counts
pub appended_room : {X : Type 0} (a : Area X) (xs : List X) → length xs ≤ room a → room (appended a xs) ≡ room a - length xs
appended_room a xs h = let l = appended_length a xs h in omega (arith, l)

pub appended_counted : {X : Type 0} (a : Area X) (xs : List X) → length xs ≤ room a → counted (appended a xs) ≡ counted a + length xs
appended_counted a xs h = let l = appended_length a xs h in omega (arith, l)

-- it stands behind what was filled
pub appended_filled : {X : Type 0} (a : Area X) (xs : List X) → length xs ≤ room a → filled (appended a xs) ≡ filled a ++ xs
appended_filled {X} a xs h = elim (leb_tells a.count (length (cells a))) [
  | inl p ↦ take_min (a.count + length xs) (cells (appended a xs))
      ∙ (take-paste (cells a) a.count xs (length xs) p.1 (omega arith)
      ∙ (ap (λ t. take a.count (cells a) ++ t) (take_all (length xs) xs (omega arith)) ∙ ap (λ t. t ++ xs) (sym (take_min a.count (cells a)))))
  | inr p ↦ ap (λ (ys : List X). filled (appended a ys)) (nothing a xs h p.1)
      ∙ (ap (λ (b : Area X). filled b) (appended_none a)
      ∙ (sym (append-nil (filled a)) ∙ ap (λ (ys : List X). filled a ++ ys) (sym (nothing a xs h p.1))))
]

-- two parts appended are appended as a whole
pub appended_twice : {X : Type 0} (a : Area X) (xs ys : List X) → length xs ≤ room a → appended (appended a xs) ys ≡ appended a (xs ++ ys)
appended_twice {X} a xs ys h = elim (leb_tells a.count (length (cells a))) [
  | inl p ↦ (let l = length-append xs ys in
      held a _ _ _ _
      (paste-paste (cells a) a.count xs ys (length xs) (length ys) refl refl p.1 ∙ ap (paste (cells a) a.count (xs ++ ys)) (sym l))
      (omega (arith, l)))
  | inr p ↦ (let e = nothing a xs h p.1 in
      ap (λ (zs : List X). appended (appended a zs) ys) e ∙ (ap (λ (b : Area X). appended b ys) (appended_none a) ∙ ap (λ (zs : List X). appended a (zs ++ ys)) (sym e)))
]

-- set back to an earlier count, an area is as if nothing had been appended
pub appended_blanked : {X : Type 0} (b : X) (a : Area X) (xs : List X) (n : ℕ) → length xs ≤ room a → n ≤ a.count → blanked b (appended a xs) n ≡ blanked b a n
appended_blanked {X} b a xs n h q = elim (leb_tells a.count (length (cells a))) [
  | inl p ↦ (let c = a.count in
      let ys = cells a in
      let zs = cells (appended a xs) in
      let k : min n (c + length xs) ≡ n = omega (arith, q) in
      let m : min n c ≡ n = omega (arith, q) in
      let front : take n zs ≡ take n ys =
      ap (take n) (paste_all ys c xs (length xs) refl)
      ∙ (take-append-le n (take c ys) (xs ++ drop (c + length xs) ys) (simp length-take (omega (arith, q, p.1))) ∙ take-take n c ys q) in
      held a _ _ _ _
      (ap (λ (j : ℕ). take j zs ++ replicate (length zs - j) b) k
      ∙ (ap (λ t. t ++ replicate (length zs - n) b) front
      ∙ (ap (λ (j : ℕ). take n ys ++ replicate (j - n) b) (appended_length a xs h)
      ∙ ap (λ (j : ℕ). take j ys ++ replicate (length ys - j) b) (sym m))))
      (k ∙ sym m))
  | inr p ↦ ap (λ (ys : List X). blanked b (appended a ys) n) (nothing a xs h p.1) ∙ ap (λ (z : Area X). blanked b z n) (appended_none a)
]
