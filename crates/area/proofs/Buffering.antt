-- What follows from the laws of a values' area, of any kind.
use Rattle.std.proofs.Common.{◌≡◌, ℕ, suc, ◌<◌, ◌≤◌, Bool, true, false, cond, ◌&&◌, List, [], ◌∷◌, ◌++◌, length, take, sym, refl, ap, ◌∙◌, arith}
use Rattle.area.specs.Val.{Val}
use Rattle.area.specs.Buffers.{Laws, longest}

module _ {St : Type 0} {appended : St → List Val → St} {fits : St → List Val → Bool} {count : St → ℕ} {blanked : St → ℕ → St} (laws : Laws appended fits count blanked) where
  -- a front of what fits does, then the rest does
  pub fits_front : (s : St) (xs ys : List Val) → fits s (xs ++ ys) ≡ true → fits s xs ≡ true
  fits_front s xs ys h = let e = laws.fits_more s xs ys in grind arith

  pub fits_rest : (s : St) (xs ys : List Val) → fits s (xs ++ ys) ≡ true → fits (appended s xs) ys ≡ true
  fits_rest s xs ys h = let e = laws.fits_more s xs ys in grind arith

  -- what fits, and then fits again, fits as a whole
  pub fits_both : (s : St) (xs ys : List Val) → fits s xs ≡ true → fits (appended s xs) ys ≡ true → fits s (xs ++ ys) ≡ true
  fits_both s xs ys p q = let e = laws.fits_more s xs ys in grind arith

-- the longest front is one
pub longest_within : (fits : List Val → Bool) (vs : List Val) → longest fits vs ≤ length vs
longest_within fits [] = omega arith
longest_within fits (v ∷ vs) =
    let h = longest_within (λ ws. fits (v ∷ ws)) vs in
    elim (fits (v ∷ [])) as (λ b. cond b (suc (longest (λ ws. fits (v ∷ ws)) vs)) 0 ≤ suc (length vs)) [ true ↦ omega (arith, h) | false ↦ omega arith ]

-- it fits
pub longest_fits : (fits : List Val → Bool) (vs : List Val) → fits [] ≡ true → fits (take (longest fits vs) vs) ≡ true
longest_fits fits [] h = h
longest_fits fits (v ∷ vs) h =
    let n = longest (λ ws. fits (v ∷ ws)) vs in
    let go : (b : Bool) → fits (v ∷ []) ≡ b → fits (take (cond b (suc n) 0) (v ∷ vs)) ≡ true = λ b. elim b as (λ b. fits (v ∷ []) ≡ b → fits (take (cond b (suc n) 0) (v ∷ vs)) ≡ true) [
      | true ↦ (λ e. longest_fits (λ ws. fits (v ∷ ws)) vs e)
      | false ↦ (λ e. h)
    ] in
    go (fits (v ∷ [])) refl

-- and with one value more it does not
pub longest_no_more : (fits : List Val → Bool) (vs : List Val) → longest fits vs < length vs → fits (take (suc (longest fits vs)) vs) ≡ false
longest_no_more fits [] h = absurd (omega arith)
longest_no_more fits (v ∷ vs) h =
    let n = longest (λ ws. fits (v ∷ ws)) vs in
    let go : (b : Bool) → fits (v ∷ []) ≡ b → cond b (suc n) 0 < suc (length vs) → fits (take (suc (cond b (suc n) 0)) (v ∷ vs)) ≡ false = λ b. elim b as (λ b. fits (v ∷ []) ≡ b → cond b (suc n) 0 < suc (length vs) → fits (take (suc (cond b (suc n) 0)) (v ∷ vs)) ≡ false) [
      | true ↦ (λ e l. longest_no_more (λ ws. fits (v ∷ ws)) vs (omega (arith, l)))
      | false ↦ (λ e l. e)
    ] in
    go (fits (v ∷ [])) refl h
