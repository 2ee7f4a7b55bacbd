use Rattle.std.proofs.Common.{ℕ, arith}
use Rattle.run.specs.Coming.{to_come}
use Rattle.level.proofs.Aheads.{held_rest}
use Rattle.level.proofs.ahead.Ahead.hand_on.Goals as goal

pub returns-clause-comes : goal.returns-clause-comes
returns-clause-comes c =
    let a = c.args.self.now in
    let k : ℕ = c.args.k in
    held_rest a.buffer a.offset a.len (to_come a.reader) (omega arith) (omega arith) k (omega (arith, c.requires))
