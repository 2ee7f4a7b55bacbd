-- Laws of walks.
use Rattle.std.proofs.Common.{◌≡◌, ℕ, ◌+◌, ◌-◌, ◌<◌, ◌≤◌, Bool, true, false, ◌&&◌, eqb, leb, List, [], ◌∷◌, ◌++◌, length, get_or, drop, sym, refl, ap, ◌∙◌, inl, inr, arith}
use Rattle.std.proofs.lemmas.List.{drop_more, drop_all}
use Rattle.std.proofs.lemmas.Bool.{and_from, cond-true, cond-false, eq-eqb, le-leb, lt-leb, cases_Bool, cases_lt}
use Rattle.level.specs.declared.walk.Walk.{Walk}
use Rattle.level.specs.Records.{joined, one, none, last, walk}

-- a walk so far
abbrev pub so_far : ℕ → ℕ → Bool → Walk
so_far t c o = record { taken = t; closed = c; opened = o; stopped = false }

pub same_walk : (t t' c c' : ℕ) (o s : Bool) → t ≡ t' → c ≡ c' → ◌≡◌ {A = Walk} (record { taken = t; closed = c; opened = o; stopped = s }) (record { taken = t'; closed = c'; opened = o; stopped = s })
same_walk t t' c c' o s p r = ap (λ (x : ℕ). record { taken = x; closed = c; opened = o; stopped = s }) p ∙ ap (λ (x : ℕ). record { taken = t'; closed = x; opened = o; stopped = s }) r

pub joined_assoc : (u v w : Walk) → joined u (joined v w) ≡ joined (joined u v) w
joined_assoc u v w = same_walk _ _ _ _ w.opened w.stopped (omega arith) (omega arith)

pub joined_none : (o : Bool) (w : Walk) → joined (none o) w ≡ w
joined_none o w = same_walk _ _ _ _ w.opened w.stopped (omega arith) (omega arith)

-- the three ways of one level
module _ (o : Bool) (q x : ℕ) (xs : List ℕ) where
  pub walk_stops : (o && eqb x 0) ≡ true → q ≤ 1 → walk o q (x ∷ xs) ≡ last
  walk_stops e h = cond-true (o && eqb x 0) _ _ e ∙ cond-true (leb q 1) _ _ (le-leb q 1 h)

  pub walk_closes : (o && eqb x 0) ≡ true → 1 < q → walk o q (x ∷ xs) ≡ joined (one 1) (walk true (q - 1) xs)
  walk_closes e h = cond-true (o && eqb x 0) _ _ e ∙ cond-false (leb q 1) _ _ (lt-leb q 1 h)

  pub walk_goes : (o && eqb x 0) ≡ false → walk o q (x ∷ xs) ≡ joined (one 0) (walk true q xs)
  walk_goes e = cond-false (o && eqb x 0) _ _ e

-- a walk over `xs` stands before its place `i`
pub record At (o : Bool) (q : ℕ) (xs : List ℕ) (i c : ℕ) (p : Bool) : Type 0 where
  pub few : c < q
  pub walked : walk o q xs ≡ joined (so_far i c p) (walk p (q - c) (drop i xs))

module _ (o : Bool) (q : ℕ) (xs : List ℕ) where
  pub at_start : 0 < q → At o q xs 0 0 o
  at_start h =
      let e : q ≡ q - 0 = omega arith in
      record { few = h; walked = sym (joined_none o (walk o q xs)) ∙ ap (λ (j : ℕ). joined (none o) (walk o j xs)) e }

  module _ (i c : ℕ) (p : Bool) (a : At o q xs i c p) where
    at_level : i < length xs → walk o q xs ≡ joined (so_far i c p) (walk p (q - c) (get_or xs i 0 ∷ drop (i + 1) xs))
    at_level h = a.walked ∙ ap (λ z. joined (so_far i c p) (walk p (q - c) z)) (drop_more xs i 0 h)

    -- the next level closes the last record, or another, or none
    pub at_stop : i < length xs → p ≡ true → get_or xs i 0 ≡ 0 → c + 1 ≡ q → walk o q xs ≡ record { taken = i; closed = c + 1; opened = false; stopped = true }
    at_stop h e z k =
        at_level h
        ∙ (ap (joined (so_far i c p)) (walk_stops p (q - c) (get_or xs i 0) (drop (i + 1) xs) (and_from p (eqb (get_or xs i 0) 0) e (eq-eqb (get_or xs i 0) 0 z)) (omega arith))
        ∙ same_walk _ _ _ _ false true (omega arith) (omega arith))

    pub at_close : i < length xs → p ≡ true → get_or xs i 0 ≡ 0 → (c + 1 ≡ q → ⊥) → At o q xs (i + 1) (c + 1) true
    at_close h e z k =
        let n : (q - c) - 1 ≡ q - (c + 1) = omega arith in
        let l : c + 1 < q = omega (arith, k, a.few) in
        record {
          few = l;
          walked = at_level h
              ∙ (ap (joined (so_far i c p)) (walk_closes p (q - c) (get_or xs i 0) (drop (i + 1) xs) (and_from p (eqb (get_or xs i 0) 0) e (eq-eqb (get_or xs i 0) 0 z)) (omega (arith, l)))
              ∙ (joined_assoc (so_far i c p) (one 1) (walk true ((q - c) - 1) (drop (i + 1) xs))
              ∙ ap (λ (j : ℕ). joined (so_far (i + 1) (c + 1) true) (walk true j (drop (i + 1) xs))) n));
        }

    pub at_go : i < length xs → (p && eqb (get_or xs i 0) 0) ≡ false → At o q xs (i + 1) c true
    at_go h e =
        let n : c + 0 ≡ c = omega arith in
        record {
          few = a.few;
          walked = at_level h
              ∙ (ap (joined (so_far i c p)) (walk_goes p (q - c) (get_or xs i 0) (drop (i + 1) xs) e)
              ∙ (joined_assoc (so_far i c p) (one 0) (walk true (q - c) (drop (i + 1) xs))
              ∙ ap (λ (j : ℕ). joined (so_far (i + 1) j true) (walk true (q - c) (drop (i + 1) xs))) n));
        }

    pub at_end : length xs ≡ i → walk o q xs ≡ so_far (length xs) c p
    at_end h = a.walked ∙ (ap (λ z. joined (so_far i c p) (walk p (q - c) z)) (drop_all i xs (omega arith)) ∙ same_walk _ _ _ _ p false (omega arith) (omega arith))

-- a walk that was not stopped has levels of its own behind each closed record
pub walk_few : (o : Bool) (q : ℕ) (xs : List ℕ) → 0 < q → (walk o q xs).stopped ≡ false → (walk o q xs).closed < q
walk_few o q [] h e = h
walk_few o q (x ∷ xs) h e =
    elim (cases_Bool (o && eqb x 0)) [
      | inl t ↦ elim (cases_lt 1 q) [
        | inl k ↦ (let w = walk_closes o q x xs t k in
            let r = walk_few true (q - 1) xs (omega arith) (sym (ap (λ z. z.stopped) w) ∙ e) in
            omega (arith, r, ap (λ z. z.closed) w))
        | inr k ↦ (let z : ◌≡◌ {A = Bool} true false = sym (ap (λ y. y.stopped) (walk_stops o q x xs t k)) ∙ e in let u : ◌≡◌ {A = ℕ} 0 1 = cc in absurd (omega arith))
      ]
      | inr f ↦ (let w = walk_goes o q x xs f in
          let r = walk_few true q xs h (sym (ap (λ z. z.stopped) w) ∙ e) in
          omega (arith, r, ap (λ z. z.closed) w))
    ]

pub walk_most : (o : Bool) (q : ℕ) (xs : List ℕ) → 0 < q → (walk o q xs).closed ≤ q
walk_most o q [] h = omega arith
walk_most o q (x ∷ xs) h =
    elim (cases_Bool (o && eqb x 0)) [
      | inl t ↦ elim (cases_lt 1 q) [
        | inl k ↦ (let r = walk_most true (q - 1) xs (omega arith) in omega (arith, r, ap (λ z. z.closed) (walk_closes o q x xs t k)))
        | inr k ↦ omega (arith, ap (λ z. z.closed) (walk_stops o q x xs t k), h)
      ]
      | inr f ↦ (let r = walk_most true q xs h in omega (arith, r, ap (λ z. z.closed) (walk_goes o q x xs f)))
    ]

pub walk_length : (o : Bool) (q : ℕ) (xs : List ℕ) → (walk o q xs).taken ≤ length xs
walk_length o q [] = omega arith
walk_length o q (x ∷ xs) =
    elim (cases_Bool (o && eqb x 0)) [
      | inl t ↦ elim (cases_lt 1 q) [
        | inl k ↦ (let r = walk_length true (q - 1) xs in omega (arith, r, ap (λ z. z.taken) (walk_closes o q x xs t k)))
        | inr k ↦ omega (arith, ap (λ z. z.taken) (walk_stops o q x xs t k))
      ]
      | inr f ↦ (let r = walk_length true q xs in omega (arith, r, ap (λ z. z.taken) (walk_goes o q x xs f)))
    ]

-- a walk that was not stopped took all
pub walk_whole : (o : Bool) (q : ℕ) (xs : List ℕ) → (walk o q xs).stopped ≡ false → (walk o q xs).taken ≡ length xs
walk_whole o q [] e = refl
walk_whole o q (x ∷ xs) e =
    elim (cases_Bool (o && eqb x 0)) [
      | inl t ↦ elim (cases_lt 1 q) [
        | inl k ↦ (let w = walk_closes o q x xs t k in
            let r = walk_whole true (q - 1) xs (sym (ap (λ z. z.stopped) w) ∙ e) in
            omega (arith, r, ap (λ z. z.taken) w))
        | inr k ↦ (let z : ◌≡◌ {A = Bool} true false = sym (ap (λ y. y.stopped) (walk_stops o q x xs t k)) ∙ e in let u : ◌≡◌ {A = ℕ} 0 1 = cc in absurd (omega arith))
      ]
      | inr f ↦ (let w = walk_goes o q x xs f in
          let r = walk_whole true q xs (sym (ap (λ z. z.stopped) w) ∙ e) in
          omega (arith, r, ap (λ z. z.taken) w))
    ]

-- a walk over a front and on behind it
pub walk_stopped : (o : Bool) (q : ℕ) (xs ys : List ℕ) → (walk o q xs).stopped ≡ true → walk o q (xs ++ ys) ≡ walk o q xs
walk_stopped o q [] ys e = (let u : ◌≡◌ {A = ℕ} 0 1 = cc in absurd (omega arith))
walk_stopped o q (x ∷ xs) ys e =
    elim (cases_Bool (o && eqb x 0)) [
      | inl t ↦ elim (cases_lt 1 q) [
        | inl k ↦ (let w = walk_closes o q x xs t k in
            walk_closes o q x (xs ++ ys) t k ∙ (ap (joined (one 1)) (walk_stopped true (q - 1) xs ys (sym (ap (λ z. z.stopped) w) ∙ e)) ∙ sym w))
        | inr k ↦ walk_stops o q x (xs ++ ys) t k ∙ sym (walk_stops o q x xs t k)
      ]
      | inr f ↦ (let w = walk_goes o q x xs f in
          walk_goes o q x (xs ++ ys) f ∙ (ap (joined (one 0)) (walk_stopped true q xs ys (sym (ap (λ z. z.stopped) w) ∙ e)) ∙ sym w))
    ]

abbrev on : Walk → ℕ → List ℕ → Walk
on w q ys = joined w (walk w.opened (q - w.closed) ys)

on_one : (k q : ℕ) (w : Walk) (ys : List ℕ) → joined (one k) (on w (q - k) ys) ≡ on (joined (one k) w) q ys
on_one k q w ys =
    let e : (q - k) - w.closed ≡ q - (k + w.closed) = omega arith in
    joined_assoc (one k) w (walk w.opened ((q - k) - w.closed) ys) ∙ ap (λ (j : ℕ). joined (joined (one k) w) (walk w.opened j ys)) e

pub walk_on : (o : Bool) (q : ℕ) (xs ys : List ℕ) → (walk o q xs).stopped ≡ false → walk o q (xs ++ ys) ≡ on (walk o q xs) q ys
walk_on o q [] ys e = let n : q ≡ q - 0 = omega arith in sym (joined_none o (walk o q ys)) ∙ ap (λ (j : ℕ). joined (none o) (walk o j ys)) n
walk_on o q (x ∷ xs) ys e =
    elim (cases_Bool (o && eqb x 0)) [
      | inl t ↦ elim (cases_lt 1 q) [
        | inl k ↦ (let w = walk_closes o q x xs t k in
            walk_closes o q x (xs ++ ys) t k
            ∙ (ap (joined (one 1)) (walk_on true (q - 1) xs ys (sym (ap (λ z. z.stopped) w) ∙ e))
            ∙ (on_one 1 q (walk true (q - 1) xs) ys ∙ ap (λ z. on z q ys) (sym w))))
        | inr k ↦ (let z : ◌≡◌ {A = Bool} true false = sym (ap (λ y. y.stopped) (walk_stops o q x xs t k)) ∙ e in let u : ◌≡◌ {A = ℕ} 0 1 = cc in absurd (omega arith))
      ]
      | inr f ↦ (let w = walk_goes o q x xs f in
          let n : q ≡ q - 0 = omega arith in
          walk_goes o q x (xs ++ ys) f
          ∙ (ap (joined (one 0)) (walk_on true q xs ys (sym (ap (λ z. z.stopped) w) ∙ e) ∙ ap (λ (j : ℕ). on (walk true q xs) j ys) n)
          ∙ (on_one 0 q (walk true q xs) ys ∙ ap (λ z. on z q ys) (sym w))))
    ]
