use Rattle.std.proofs.Common.{refl}
use Rattle.run.specs.declared.reader.RunReader.{RunReader}
use Rattle.run.proofs.Calls.{step_over, step_most, step_stops}
use Rattle.run.proofs.reader.RunReader.pass.Goals as goal

pub returns : goal.returns
returns c =
    let s = c.args.self.now in
    let t : RunReader = record s { run = c.pass.new.self } in
    let e = c.pass.ensures in
    record {
      steps = step_over s t c.args.m c.pass.result e.is e.left refl refl refl;
      most = step_most s t c.args.m c.pass.result e.is e.left refl refl refl;
      stops = step_stops s t c.args.m c.pass.result e.is e.left refl refl refl;
    }
