-- Numbers held against the limit.
use Rattle.std.proofs.Common.{◌≡◌, ℕ, suc, Bool, true, false, cond, ltb, List, [], ◌∷◌, ◌++◌, take, refl, ap, ◌∙◌, arith}
use Rattle.std.proofs.lemmas.Bool.{lt-ltb}
use Rattle.std.specs.List.{flat_map}
use Rattle.stream.specs.Grammar.{Below}
use Rattle.stream.specs.Streams.{End, Stream, clean, fault, ended, within, Run, Stop, flow, end_of, numbers_of}

-- the numbers of runs
abbrev pub all_of : List Run → List ℕ
all_of rs = flat_map numbers_of rs

-- what a number in front does
abbrev pub in_front : Bool → ℕ → Stream → Stream
in_front b x s = cond b (record { numbers = x ∷ s.numbers; end = s.end }) (ended fault)

pub within_append : (limit : ℕ) (xs ys : List ℕ) (s : Stream) → within limit (xs ++ ys) s ≡ within limit xs (within limit ys s)
within_append limit [] ys s = refl
within_append limit (x ∷ xs) ys s = ap (in_front (ltb x limit) x) (within_append limit xs ys s)

pub within_good : (limit : ℕ) (xs : List ℕ) (s : Stream) → Below limit xs → within limit xs s ≡ record { numbers = xs ++ s.numbers; end = s.end }
within_good limit [] s h = refl
within_good limit (x ∷ xs) s h =
    ap (λ b. in_front b x (within limit xs s)) (lt-ltb x limit h.0) ∙ ap (in_front true x) (within_good limit xs s h.1)

in_front_clean : (b : Bool) (x : ℕ) (s : Stream) → (in_front b x s).end ≡ clean → (b ≡ true) × (s.end ≡ clean)
in_front_clean true x s e = (refl, e)
in_front_clean false x s e = let z : ◌≡◌ {A = ℕ} 0 1 = cc in absurd (omega arith)

pub within_clean : (limit : ℕ) (xs : List ℕ) (s : Stream) → (within limit xs s).end ≡ clean
    → ((within limit xs s).numbers ≡ xs ++ s.numbers) × (s.end ≡ clean)
within_clean limit [] s e = (refl, e)
within_clean limit (x ∷ xs) s e =
    let f = in_front_clean (ltb x limit) x (within limit xs s) e in
    let r = within_clean limit xs s f.1 in
    (ap (λ b. (in_front b x (within limit xs s)).numbers) f.0 ∙ ap (λ t. x ∷ t) r.0, r.1)

-- in any case a front of the numbers is given
in_front_front : (b : Bool) (x : ℕ) (xs : List ℕ) (s : Stream) → (k : ℕ) × (s.numbers ≡ take k xs) → (k : ℕ) × ((in_front b x s).numbers ≡ take k (x ∷ xs))
in_front_front true x xs s r = (suc r.0, ap (λ t. x ∷ t) r.1)
in_front_front false x xs s r = (0, refl)

pub within_front : (limit : ℕ) (xs : List ℕ) (e : End) → (k : ℕ) × ((within limit xs (ended e)).numbers ≡ take k xs)
within_front limit [] e = (0, refl)
within_front limit (x ∷ xs) e = in_front_front (ltb x limit) x xs (within limit xs (ended e)) (within_front limit xs e)

below_left : (limit : ℕ) (xs ys : List ℕ) → Below limit (xs ++ ys) → Below limit xs
below_left limit [] ys h = tt
below_left limit (x ∷ xs) ys h = (h.0, below_left limit xs ys h.1)

below_right : (limit : ℕ) (xs ys : List ℕ) → Below limit (xs ++ ys) → Below limit ys
below_right limit [] ys h = h
below_right limit (x ∷ xs) ys h = below_right limit xs ys h.1

pub flow_good : (limit : ℕ) (rs : List Run) (s : Stop) → Below limit (all_of rs) → flow limit rs s ≡ record { numbers = all_of rs; end = end_of s }
flow_good limit [] s h = refl
flow_good limit (r ∷ rs) s h =
    ap (within limit (numbers_of r)) (flow_good limit rs s (below_right limit (numbers_of r) (all_of rs) h))
    ∙ within_good limit (numbers_of r) (record { numbers = all_of rs; end = end_of s }) (below_left limit (numbers_of r) (all_of rs) h)

pub flow_clean : (limit : ℕ) (rs : List Run) (s : Stop) → (flow limit rs s).end ≡ clean → (flow limit rs s).numbers ≡ all_of rs
flow_clean limit [] s e = refl
flow_clean limit (r ∷ rs) s e =
    let f = within_clean limit (numbers_of r) (flow limit rs s) e in
    f.0 ∙ ap (λ t. numbers_of r ++ t) (flow_clean limit rs s f.1)

pub flow_clean_stop : (limit : ℕ) (rs : List Run) (s : Stop) → (flow limit rs s).end ≡ clean → end_of s ≡ clean
flow_clean_stop limit [] s e = e
flow_clean_stop limit (r ∷ rs) s e = flow_clean_stop limit rs s (within_clean limit (numbers_of r) (flow limit rs s) e).1
