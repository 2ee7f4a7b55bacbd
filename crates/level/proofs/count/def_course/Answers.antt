use Rattle.std.proofs.Common.{◌≡◌, ℕ, ◌+◌, ◌-◌, ◌≤◌, List, ◌++◌, length, take, drop, ap, ◌∙◌, arith}
use Rattle.std.proofs.Math.Seq.{take-add}
use Rattle.std.proofs.lemmas.List.{length-drop, length-take}
use Rattle.std.proofs.lemmas.List.Sums.{count_by-le-length, sum_by-append}
use Rattle.stream.specs.Streams.{Stream}
use Rattle.run.specs.Coming.{to_come}
use Rattle.run.specs.Reading.{given}
use Rattle.level.specs.Courses.{equal_to}
use Rattle.level.proofs.Blocks.{some_given, read_comes, block_holds}
use Rattle.level.proofs.count.def_course.Goals as goal

equal_most : (max : ℕ) (xs : List ℕ) → equal_to max xs ≤ length xs
equal_most max xs = count_by-le-length _ xs

pub loop-taken-preserved : goal.loop-taken-preserved
loop-taken-preserved c =
    let s : Stream = to_come c.args.reader in
    let u : Stream = to_come c.loop-taken.ahead in
    let t : ℕ = c.loop-taken.taken in
    let k : ℕ = c.in_ok-k.k in
    let o : List ℕ = take c.min-size.result c.loop-taken.block in
    let i = c.loop-taken.invariant in
    let e : k ≡ given (length o) u = some_given (length o) u k c.in_ok-k.ensures.reply in
    let l : length o ≡ c.min-size.result = simp length-take (omega (arith, i.block)) in
    let h : length u.numbers ≡ length s.numbers - t = ap (λ z. length z.numbers) i.comes ∙ length-drop t s.numbers in
    let b : take k (c.read_some.new.out ++ drop c.min-size.result c.loop-taken.block) ≡ take k (drop t s.numbers) =
    block_holds k u o c.read_some.new.out (drop c.min-size.result c.loop-taken.block) e c.in_ok-k.ensures.filled ∙ ap (λ z. take k z.numbers) i.comes in
    let n : equal_to c.args.max (take (t + k) s.numbers) ≡ equal_to c.args.max (take t s.numbers) + equal_to c.args.max (take k (drop t s.numbers)) =
    ap (equal_to c.args.max) (take-add t k s.numbers) ∙ sum_by-append _ (take t s.numbers) (take k (drop t s.numbers)) in
    record {
      comes = read_comes (length o) k t s u (to_come c.read_some.new.self) e i.comes c.in_ok-k.ensures.rest;
      there = omega (arith, e, h, i.there);
      most = omega (arith, e, l);
      told = omega (arith, n, i.told, c.count_equal-told.ensures ∙ ap (equal_to c.args.max) b);
      few = omega (arith, i.few, c.count_equal-told.ensures, equal_most c.args.max (take k (c.read_some.new.out ++ drop c.min-size.result c.loop-taken.block)), length-take k (c.read_some.new.out ++ drop c.min-size.result c.loop-taken.block));
      block = c.if-k-eq0.array_long;
    }
