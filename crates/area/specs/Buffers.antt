-- What each kind of values' area keeps to.
use Rattle.std.specs.Prelude.{◌≡◌, ℕ, suc, ◌+◌, ◌^◌, ◌<◌, Bool, true, cond, ◌&&◌, List, [], ◌∷◌, ◌++◌, length}
use Rattle.area.specs.Val.{Val}

-- By these laws alone callers know what an area holds, whatever its kind.
pub record Laws {St : Type 0} (appended : St → List Val → St) (fits : St → List Val → Bool) (count : St → ℕ) (blanked : St → ℕ → St) : Type 0 where
  -- nothing appended changes nothing
  pub none : (s : St) → appended s [] ≡ s
  -- values appended in two parts are appended as a whole
  pub twice : (s : St) (xs ys : List Val) → appended (appended s xs) ys ≡ appended s (xs ++ ys)
  -- nothing always fits
  pub fits_none : (s : St) → fits s [] ≡ true
  -- two parts fit if the first does and then the second
  pub fits_more : (s : St) (xs ys : List Val) → fits s (xs ++ ys) ≡ (fits s xs && fits (appended s xs) ys)
  -- values that fit are a number of 64 bits
  pub short : (s : St) (xs : List Val) → fits s xs ≡ true → length xs < 2 ^ 64
  -- each value counts
  pub counts : (s : St) (xs : List Val) → count (appended s xs) ≡ count s + length xs
  -- set back to the earlier count, an area is as if nothing had been appended
  pub blanks : (s : St) (xs : List Val) → fits s xs ≡ true → blanked (appended s xs) (count s) ≡ blanked s (count s)

-- how many of the values fit, taken from the front
abbrev pub longest : (List Val → Bool) → List Val → ℕ
longest fits [] = 0
longest fits (v ∷ vs) = cond (fits (v ∷ [])) (suc (longest (λ ws. fits (v ∷ ws)) vs)) 0
