use Rattle.std.proofs.Common.{◌≤◌, length}
use Rattle.run.specs.Coming.{to_come}
use Rattle.run.specs.Reading.{Passes}
use Rattle.run.proofs.reader.RunReader.skip_some.Given as goal

abbrev pub invariant-runs : goal.invariant-runs
invariant-runs l = record { most : l.passed ≤ l.m; passes : Passes (to_come l.initial.self) l.passed (to_come l.self) }

abbrev pub decreases-runs : goal.decreases-runs
decreases-runs l = length l.self.bytes.now
