use Rattle.std.proofs.Common.{ℕ, ◌+◌, length, arith}
use Rattle.run.specs.Coming.{to_come}
use Rattle.run.proofs.Calls.{got_none, got_step, got_to, got_length, all_after, all_filled}
use Rattle.run.proofs.reader.RunReader.read_some.Goals as goal

pub runs-init : goal.runs-init
runs-init g c = got_none g.T.Number.from (to_come c.args.self.now) c.args.out.now

pub returns-then-k-out-clause-rest : goal.returns-then-k-out-clause-rest
returns-then-k-out-clause-rest g c =
    let s = to_come c.args.self.now in
    let o = c.args.out.now in
    let n : ℕ = c.take-k.result in
    let a = got_step g.T.Number.from s o c.runs.out c.take-k.new.out c.runs.k c.runs.self n c.take-k.new.self c.runs.invariant c.take-k.ensures.steps c.take-k.ensures.most c.take-k.ensures.written in
    let l = got_length g.T.Number.from s (to_come c.take-k.new.self) o _ (c.runs.k + n) a in
    all_after s (to_come c.take-k.new.self) (c.runs.k + n) (length o) a.passes (omega (arith, l))

pub returns-then-k-out-clause-filled : goal.returns-then-k-out-clause-filled
returns-then-k-out-clause-filled g c =
    let s = to_come c.args.self.now in
    let o = c.args.out.now in
    let n : ℕ = c.take-k.result in
    let a = got_step g.T.Number.from s o c.runs.out c.take-k.new.out c.runs.k c.runs.self n c.take-k.new.self c.runs.invariant c.take-k.ensures.steps c.take-k.ensures.most c.take-k.ensures.written in
    let l = got_length g.T.Number.from s (to_come c.take-k.new.self) o _ (c.runs.k + n) a in
    all_filled g.T.Number.from s (to_come c.take-k.new.self) o _ (c.runs.k + n) a (omega (arith, l))

pub runs-preserved : goal.runs-preserved
runs-preserved g c =
    let s = to_come c.args.self.now in
    let o = c.args.out.now in
    let n : ℕ = c.take-k.result in
    let a = got_step g.T.Number.from s o c.runs.out c.take-k.new.out c.runs.k c.runs.self n c.take-k.new.self c.runs.invariant c.take-k.ensures.steps c.take-k.ensures.most c.take-k.ensures.written in
    let h = rw c.in-Ok-true.field-0-test at c.in-Ok-true.ensures in
    got_to g.T.Number.from s (to_come c.take-k.new.self) (to_come c.next_run.new.self) o _ (c.runs.k + n) a h.0
