-- What an area shows, as values, before and after each call.
use Rattle.std.proofs.Common.{◌≡◌, ℕ, zero, suc, ◌+◌, ◌-◌, ◌≤◌, min, Bool, true, false, cond, leb, List, [], ◌∷◌, ◌++◌, map, length, take, drop, replicate, sym, refl, ap, ◌∙◌, inl, inr, arith, le-leb}
use lib.Seq.{paste}
use borrow.Author.Tests.{lt-leb}
use Rattle.area.specs.declared.area.Area.{Area}
use Rattle.area.specs.Areas.{cells, room, counted, filled, appended, blanked}
use Rattle.area.specs.Val.{Val}
use Rattle.area.specs.Buffers.{longest}
use Rattle.area.specs.Lent.{Lent, lent, more, free, has_room, set_back}
use Rattle.area.proofs.Appending.{appended_none}
use Rattle.std.proofs.Math.Dec.{leb-suc-suc}
use Rattle.std.proofs.lemmas.List.Edits.{take-paste, drop-paste}
use Rattle.std.proofs.lemmas.Bool.Decides.{leb_tells}
use Rattle.std.proofs.lemmas.List.{take_min, drop_min, append-nil, drop_all, length-replicate, length-drop, length-take, length-append, length-map, take_all, take-take, take_at, drop_at, drop-drop, map-append, take-map, drop-map, nil_from_length}

abbrev shown : List Val → List Val → Bool → ℕ → Lent
shown f b t w = record { filled = f; behind = b; there = t; who = w }

alike : (f f' b b' : List Val) (t : Bool) (w : ℕ) → f ≡ f' → b ≡ b' → shown f b t w ≡ shown f' b' t w
alike f f' b b' t w p q = ap (λ (x : List Val). shown x b t w) p ∙ ap (λ (x : List Val). shown f' x t w) q

pub filled_length : {X : Type 0} (m : X → Val) (a : Area X) → length (map m (filled a)) ≡ counted a
filled_length m a = length-map (filled a) m ∙ (length-take (counted a) (cells a) ∙ omega arith)

pub behind_length : {X : Type 0} (m : X → Val) (a : Area X) → length (map m (drop a.count (cells a))) ≡ room a
behind_length m a = length-map (drop a.count (cells a)) m ∙ length-drop a.count (cells a)

-- an area shows the room that it has
pub free_is : {X : Type 0} (m : X → Val) (a : Area X) → length (cells a) ≤ 18446744073709551615 → free (lent m a) ≡ room a
free_is m a h =
    let f = filled_length m a in
    let b = behind_length m a in
    omega (arith, f, b)

pub shows_room : {X : Type 0} (m : X → Val) (a : Area X) (xs : List X) → length (cells a) ≤ 18446744073709551615 → leb (length xs) (room a) ≡ has_room (lent m a) (map m xs)
shows_room m a xs h = ap (leb (length xs)) (sym (free_is m a h)) ∙ ap (λ (k : ℕ). leb k (free (lent m a))) (sym (length-map xs m))

more_none : (l : Lent) → more l [] ≡ l
more_none l = alike _ _ _ _ l.there l.who (append-nil l.filled) refl

append_within : {X : Type 0} (m : X → Val) (a : Area X) (xs : List X) → a.count ≤ length (cells a) → lent m (appended a xs) ≡ more (lent m a) (map m xs)
append_within m a xs h =
    let c = a.count in
    let n = length xs in
    let ys = cells a in
    let zs = paste ys c xs n in
    let front : take (min (c + n) (length zs)) zs ≡ take (min c (length ys)) ys ++ xs =
    take_min (c + n) zs ∙ (take-paste ys c xs n h (omega arith) ∙ (ap (λ t. take c ys ++ t) (take_all n xs (omega arith)) ∙ ap (λ t. t ++ xs) (sym (take_min c ys)))) in
    let back : drop (c + n) zs ≡ drop n (drop c ys) = drop-paste ys c xs n h (omega arith) ∙ sym (drop-drop n c ys) in
    alike _ _ _ _ a.there a.slice.ghost_name
    (ap (map m) front ∙ map-append m (take (min c (length ys)) ys) xs)
    (ap (map m) back ∙ (sym (drop-map m n (drop c ys)) ∙ ap (λ (k : ℕ). drop k (map m (drop c ys))) (sym (length-map xs m))))

-- elements that fit, appended, are values appended
pub shows_append : {X : Type 0} (m : X → Val) (a : Area X) (xs : List X) → length xs ≤ room a → lent m (appended a xs) ≡ more (lent m a) (map m xs)
shows_append {X} m a xs h = elim (leb_tells a.count (length (cells a))) [
  | inl p ↦ append_within m a xs p.1
  | inr p ↦ (let e : xs ≡ [] = nil_from_length xs (omega (arith, p.1)) in
      ap (λ (ys : List X). lent m (appended a ys)) e ∙ (ap (lent m) (appended_none a) ∙ (sym (more_none (lent m a)) ∙ ap (λ (ys : List X). more (lent m a) (map m ys)) (sym e))))
]

-- elements appended, all or none
pub shows_append_all : {X : Type 0} (m : X → Val) (a z : Area X) (xs : List X) (r : Bool) → r ≡ leb (length xs) (room a) → z ≡ cond r (appended a xs) a → lent m z ≡ cond r (more (lent m a) (map m xs)) (lent m a)
shows_append_all m a z xs true p e = ap (lent m) e ∙ shows_append m a xs (elim (leb_tells (length xs) (room a)) [ inl q ↦ q.1 | inr q ↦ (let y : ◌≡◌ {A = Bool} true false = p ∙ q.0 in absurd (let o : ◌≡◌ {A = ℕ} 0 1 = cc in omega arith)) ])
shows_append_all m a z xs false p e = ap (lent m) e

-- how many values of the front fit, where a number of them fits
pub longest_is : (fits : List Val → Bool) (vs : List Val) (r : ℕ) → ((ws : List Val) → fits ws ≡ leb (length ws) r) → longest fits vs ≡ min (length vs) r
longest_is fits [] r h = omega arith
longest_is fits (v ∷ vs) zero h = ap (λ (b : Bool). cond b (suc (longest (λ ws. fits (v ∷ ws)) vs)) 0) (h (v ∷ []) ∙ lt-leb 1 0 (omega arith)) ∙ omega arith
longest_is fits (v ∷ vs) (suc r) h =
    let e = longest_is (λ ws. fits (v ∷ ws)) vs r (λ ws. h (v ∷ ws) ∙ leb-suc-suc (length ws) r) in
    ap (λ (b : Bool). cond b (suc (longest (λ ws. fits (v ∷ ws)) vs)) 0) (h (v ∷ []) ∙ le-leb 1 (suc r) (omega arith)) ∙ omega (arith, e)

take_twice : {X : Type 0} (n c : ℕ) (xs : List X) → take n (take c xs) ≡ take (min n c) xs
take_twice n c xs = grind (arith, take-take, take_all, length-take)

map_replicate : {X : Type 0} (m : X → Val) (n : ℕ) (x : X) → map m (replicate n x) ≡ replicate n (m x)
map_replicate m zero x = refl
map_replicate m (suc n) x = ap (λ (t : List Val). m x ∷ t) (map_replicate m n x)

-- an area set back shows blanks
pub shows_blank : {X : Type 0} (m : X → Val) (b : X) (a : Area X) (n : ℕ) → lent m (blanked b a n) ≡ set_back (m b) (lent m a) n
shows_blank {X} m b a n =
    let c = a.count in
    let xs = cells a in
    let k = min n c in
    let l = length xs in
    let zs : List X = take k xs ++ replicate (l - k) b in
    let lz : length zs ≡ l = simp (length-append, length-take, length-replicate) (omega arith) in
    let lt : length (take k xs) ≡ min k l = length-take k xs in
    let front : take (min k (length zs)) zs ≡ take n (take (min c l) xs) =
    ap (λ (j : ℕ). take (min k j) zs) lz ∙ (take_at (take k xs) (replicate (l - k) b) (min k l) lt ∙ (sym (take_twice n c xs) ∙ ap (take n) (sym (take_min c xs)))) in
    let back : drop k zs ≡ replicate (l - k) b =
    sym (drop_min k zs) ∙ (ap (λ (j : ℕ). drop (min k j) zs) lz ∙ drop_at (take k xs) (replicate (l - k) b) (min k l) lt) in
    let f = filled_length m a in
    let g = behind_length m a in
    let many : l - k ≡ (length (map m (filled a)) - n) + length (map m (drop c xs)) = omega (arith, f, g) in
    alike _ _ _ _ a.there a.slice.ghost_name
    (ap (map m) front ∙ sym (take-map m n (take (min c l) xs)))
    (ap (map m) back ∙ (map_replicate m (l - k) b ∙ ap (λ (j : ℕ). replicate j (m b)) many))

-- as many elements as there is room for are the longest front that fits
pub front_reply : {X : Type 0} (m : X → Val) (a : Area X) (xs : List X) (n r : ℕ) → length (cells a) ≤ 18446744073709551615 → r ≡ room a → n ≡ min (length xs) r → n ≡ longest (has_room (lent m a)) (map m xs)
front_reply m a xs n r h p e =
    let k = length-map xs m in
    let l = longest_is (has_room (lent m a)) (map m xs) (room a) (λ ws. ap (leb (length ws)) (free_is m a h)) in
    omega (arith, k, l)

pub front_after : {X : Type 0} (m : X → Val) (a z : Area X) (xs : List X) (n r : ℕ) (b : Bool) → r ≡ room a → n ≡ min (length xs) r → b ≡ leb (length (take n xs)) (room a) → z ≡ cond b (appended a (take n xs)) a
    → lent m z ≡ more (lent m a) (map m (take n xs))
front_after {X} m a z xs n r b p e f s =
    let small : length (take n xs) ≤ room a = simp length-take (omega arith) in
    let yes : b ≡ true = f ∙ le-leb (length (take n xs)) (room a) small in
    shows_append_all m a z (take n xs) b f s ∙ ap (λ (c : Bool). cond c (more (lent m a) (map m (take n xs))) (lent m a)) yes
