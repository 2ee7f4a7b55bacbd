use Rattle.std.proofs.Common.{ℕ, ◌+◌, arith}
use Rattle.run.specs.Coming.{to_come}
use Rattle.run.proofs.Calls.{passes_step, passes_to, all_after}
use Rattle.run.proofs.reader.RunReader.skip_some.Goals as goal

pub returns-then-passed-m-clause-rest : goal.returns-then-passed-m-clause-rest
returns-then-passed-m-clause-rest c =
    let s = to_come c.args.self.now in
    let n : ℕ = c.pass-passed.result in
    let a = passes_step s c.runs.passed c.runs.self n c.pass-passed.new.self c.runs.invariant.passes c.pass-passed.ensures.steps in
    all_after s (to_come c.pass-passed.new.self) (c.runs.passed + n) c.args.m a c.if-passed-m.true

pub runs-preserved : goal.runs-preserved
runs-preserved c =
    let s = to_come c.args.self.now in
    let n : ℕ = c.pass-passed.result in
    let a = passes_step s c.runs.passed c.runs.self n c.pass-passed.new.self c.runs.invariant.passes c.pass-passed.ensures.steps in
    let h = rw c.in-Ok-true.field-0-test at c.in-Ok-true.ensures in
    record {
      most = omega (arith, c.runs.invariant.most, c.pass-passed.ensures.most);
      passes = passes_to s (to_come c.pass-passed.new.self) (to_come c.next_run.new.self) (c.runs.passed + n) a h.0;
    }
