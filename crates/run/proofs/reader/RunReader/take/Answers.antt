use Rattle.std.proofs.Common.{length, refl}
use Rattle.run.specs.declared.reader.RunReader.{RunReader}
use Rattle.run.proofs.Calls.{step_over, step_most, step_stops}
use Rattle.run.proofs.reader.RunReader.take.Goals as goal

pub returns : goal.returns
returns g c =
    let s = c.args.self.now in
    let t : RunReader = record s { run = c.take.new.self } in
    let m = length c.args.out.now in
    let e = c.take.ensures in
    record {
      steps = step_over s t m c.take.result e.is e.left refl refl refl;
      most = step_most s t m c.take.result e.is e.left refl refl refl;
      stops = step_stops s t m c.take.result e.is e.left refl refl refl;
      written = e.written;
    }
