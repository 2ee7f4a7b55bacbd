use Rattle.std.proofs.Common.{◌≡◌, ℕ, ◌≤◌, min, List, replicate, take, sym, ap, subst, ◌∙◌, ltb-true, arith}
use Rattle.std.proofs.lemmas.List.{take_all, length-replicate}
use Rattle.run.specs.Packed.{good}
use Rattle.run.specs.Runs.{left_of}
use Rattle.run.proofs.Parts.{copies_good}
use Rattle.run.proofs.kind.Run.holds.Goals as goal

pub returns-then-m-copies : goal.returns-then-m-copies
returns-then-m-copies c h =
    let n : ℕ = c.in-Repeated.copies.count in
    let v : ℕ = c.in-Repeated.copies.value in
    let xs : List ℕ = replicate n v in
    let m : n ≡ min n n = omega arith in
    let e : n ≡ good c.args.limit (take n xs) = copies_good c.args.limit v n n n (ltb-true v c.args.limit (sym c.below.ensures ∙ h)) m in
    let t : take n xs ≡ xs = take_all n xs (omega (arith, length-replicate n v)) in
    subst (λ r. c.args.m ≤ good c.args.limit (left_of r)) (sym c.in-Repeated.is) (omega (arith, e, ap (good c.args.limit) t, c.if-m-copies.true))
