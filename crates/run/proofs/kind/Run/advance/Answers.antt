use Rattle.std.proofs.Common.{◌≡◌, ℕ, ◌-◌, ◌≤◌, length, replicate, drop, sym, subst, arith}
use Rattle.std.proofs.lemmas.List.{drop-replicate}
use Rattle.run.specs.Packed.{numbers}
use Rattle.run.specs.Runs.{left_of}
use Rattle.run.proofs.PackedParts.{numbers_length}
use Rattle.run.proofs.kind.Run.advance.Goals as goal

pub advance-requires : goal.advance-requires
advance-requires c =
    let p = c.in-Packed.part in
    let h : c.args.m ≤ length (numbers p) = subst (λ r. c.args.m ≤ length (left_of r)) c.in-Packed.is c.requires in
    omega (arith, h, numbers_length p)

pub returns-in-Repeated : goal.returns-in-Repeated
returns-in-Repeated c =
    let n : ℕ = c.in-Repeated.copies.count in
    let v : ℕ = c.in-Repeated.copies.value in
    subst (λ r. replicate (n - c.args.m) v ≡ drop c.args.m (left_of r)) (sym c.in-Repeated.is) (sym (drop-replicate c.args.m n v))
