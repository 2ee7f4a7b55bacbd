use Rattle.level.proofs.Walks.{At}
use Rattle.level.proofs.asked.Asked.walk.Given as goal

abbrev pub invariant-loop-i : goal.invariant-loop-i
invariant-loop-i l = At l.self.opened l.self.records l.levels l.i l.closed l.opened
