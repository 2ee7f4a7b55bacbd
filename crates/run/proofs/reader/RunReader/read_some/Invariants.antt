use Rattle.std.proofs.Common.{length}
use Rattle.run.specs.Coming.{to_come}
use Rattle.run.proofs.Calls.{Got}
use Rattle.run.proofs.reader.RunReader.read_some.Given as goal

abbrev pub invariant-runs : goal.invariant-runs
invariant-runs g l = Got g.T.Number.from (to_come l.initial.self) l.initial.out l.k l.out (to_come l.self)

abbrev pub decreases-runs : goal.decreases-runs
decreases-runs g l = length l.self.bytes.now
