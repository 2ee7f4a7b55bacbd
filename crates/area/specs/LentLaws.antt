-- An area keeps the laws of a values' area.
use Rattle.std.specs.Prelude.{◌≡◌, ℕ, ◌+◌, ◌-◌, ◌≤◌, Bool, true, false, ◌&&◌, leb, List, ◌++◌, length, take, drop, replicate, nat_le, refl}
use Rattle.std.proofs.Common.{sym, ap, ◌∙◌, inl, inr, append-nil, append_assoc, arith, length-drop, length-append, drop-drop, le-leb}
use Rattle.std.proofs.lemmas.Bool.{leb-true}
use Rattle.std.proofs.lemmas.Bool.Decides.{nat_tests}
use Rattle.std.proofs.lemmas.List.{take_at, take_all}
use Rattle.area.specs.Val.{Val}
use Rattle.area.specs.Buffers.{Laws}
use Rattle.area.specs.Lent.{Lent, more, free, has_room, held_count, set_back}

abbrev with : Lent → List Val → List Val → Lent
with l f b = record { filled = f; behind = b; there = l.there; who = l.who }

-- room for two parts: for the first, and then for the second in what is left
two_parts : (m n r : ℕ) → nat_le (m + n) r ≡ (nat_le m r && nat_le n (r - m))
two_parts m n r = grind (arith, nat_tests)

free_after : (l : Lent) (xs : List Val) → free (more l xs) ≡ free l - length xs
free_after l xs = simp (length-append, length-drop) (omega arith)

fitting : (a b : ℕ) → nat_le a b ≡ true → a ≤ b
fitting a b h = leb-true a b h

fits_more : (l : Lent) (xs ys : List Val) → has_room l (xs ++ ys) ≡ (has_room l xs && has_room (more l xs) ys)
fits_more l xs ys =
    ap (λ (k : ℕ). leb k (free l)) (length-append xs ys)
    ∙ (two_parts (length xs) (length ys) (free l)
    ∙ ap (λ (k : ℕ). nat_le (length xs) (free l) && nat_le (length ys) k) (sym (free_after l xs)))

blanks : (b : Val) (l : Lent) (xs : List Val) → has_room l xs ≡ true → set_back b (more l xs) (held_count l) ≡ set_back b l (held_count l)
blanks b l xs h =
    let n = length l.filled in
    let room = fitting (length xs) (free l) h in
    let front : take n (l.filled ++ xs) ≡ take n l.filled = take_at l.filled xs n refl ∙ sym (take_all n l.filled (omega arith)) in
    let back : (length (l.filled ++ xs) - n) + length (drop (length xs) l.behind) ≡ (n - n) + length l.behind = simp (length-append, length-drop) (omega (arith, room)) in
    ap (λ (f : List Val). with l f (replicate ((length (l.filled ++ xs) - n) + length (drop (length xs) l.behind)) b)) front
    ∙ ap (λ (k : ℕ). with l (take n l.filled) (replicate k b)) back

pub lent_laws : (b : Val) → Laws more has_room held_count (set_back b)
lent_laws b = record {
  none = λ l. ap (λ (f : List Val). with l f l.behind) (append-nil l.filled);
  twice = λ l xs ys.
      ap (λ (f : List Val). with l f (drop (length ys) (drop (length xs) l.behind))) (append_assoc l.filled xs ys)
      ∙ ap (with l (l.filled ++ (xs ++ ys))) (drop-drop (length ys) (length xs) l.behind ∙ ap (λ (k : ℕ). drop k l.behind) (sym (length-append xs ys)));
  fits_none = λ l. le-leb 0 (free l) (omega arith);
  fits_more = fits_more;
  short = λ l xs h. let room = fitting (length xs) (free l) h in omega (arith, room);
  counts = λ l xs. length-append l.filled xs;
  blanks = blanks b;
}
