-- Calls that add up.
use Rattle.std.proofs.Common.{◌≡◌, ℕ, ◌+◌, Bool, true, false, eqb, take, drop, Ok, Result, sym, ap, ◌∙◌, inl, inr, arith}
use Rattle.std.proofs.Math.Seq.{take-add}
use Rattle.std.proofs.lemmas.Bool.{cases_Bool, cases_eq, eq-eqb, ne_eqb, cond-true, cond-false}
use Rattle.std.proofs.lemmas.List.Sums.{sum_by-append}
use Rattle.stream.specs.Streams.{Stream}
use Rattle.run.specs.declared.kind.StreamFault.{StreamFault}
use Rattle.run.specs.Reading.{fails, given, after, rest}
use Rattle.run.proofs.Sums.{adds as run-adds}
use Rattle.level.specs.declared.course.Course.{Course}
use Rattle.level.specs.Courses.{broken, equal_to, def_course}
use Rattle.level.specs.Theorems.{behind, Adds}
use Rattle.level.proofs.Blocks.{there_fails, there_rest, after_after}

abbrev whole : ℕ → ℕ → Stream → Course
whole max m s = record { full = eqb (given m s) m; taken = given m s; told = equal_to max (take m s.numbers); opened = false }

module _ (max m : ℕ) (s : Stream) where
  taken : fails m s ≡ false → def_course max m s ≡ Ok (whole max m s)
  taken f = cond-false (fails m s) broken (Ok (whole max m s)) f

broke : (max m : ℕ) (s : Stream) → fails m s ≡ true → def_course max m s ≡ broken
broke max m s f = cond-true (fails m s) broken (Ok (whole max m s)) f

same_eqb : (n x m : ℕ) → eqb (n + x) (n + m) ≡ eqb x m
same_eqb n x m = elim (cases_eq x m) [
  | inl e ↦ eq-eqb (n + x) (n + m) (omega arith) ∙ sym (eq-eqb x m e)
  | inr d ↦ ne_eqb (n + x) (n + m) (λ e. d (omega (arith, e))) ∙ sym (ne_eqb x m d)
]

same : (b d : Bool) (t u v w : ℕ) → b ≡ d → t ≡ u → v ≡ w
    → ◌≡◌ {A = Result Course StreamFault} (Ok (record { full = b; taken = t; told = v; opened = false })) (Ok (record { full = d; taken = u; told = w; opened = false }))
same b d t u v w e f g = cc

pub adds : Adds
adds max s n m h =
    let t = after n s in
    let r : rest n s ≡ t = there_rest n s h in
    let f : fails (n + m) s ≡ fails m t = (run-adds s n m h).faults ∙ ap (fails m) r in
    let g : given (n + m) s ≡ n + given m t = (run-adds s n m h).many ∙ ap (λ (z : Stream). n + given m z) r in
    let n0 : given n s ≡ n = omega arith in
    record {
      course = whole max n s;
      first = taken max n s (there_fails n s h);
      many = n0;
      both = elim (cases_Bool (fails m t)) [
        | inl b ↦ broke max (n + m) s (f ∙ b) ∙ sym (ap (behind (whole max n s)) (broke max m t b))
        | inr b ↦ taken max (n + m) s (f ∙ b)
            ∙ (same _ _ _ _ _ _ (ap (λ (j : ℕ). eqb j (n + m)) g ∙ same_eqb n (given m t) m) (omega (arith, g, n0))
            (ap (equal_to max) (take-add n m s.numbers) ∙ sum_by-append _ (take n s.numbers) (take m (drop n s.numbers)))
            ∙ sym (ap (behind (whole max n s)) (taken max m t b)))
      ];
      levels = take-add n m s.numbers;
      rest = sym (after_after n m s);
    }
