use Rattle.std.proofs.Common.{ap, ◌∙◌, arith}
use Rattle.run.specs.Packed.{good}
use Rattle.run.proofs.Parts.{front_good, front_few}
use Rattle.run.proofs.packed.Part.pass.Goals as goal

pub advance-requires : goal.advance-requires
advance-requires c =
    let h = front_few c.args.self.now c.front.result c.min.result c.good-k.result c.args.limit c.front.ensures.count c.good-k.ensures in
    omega arith

pub returns-clause-is : goal.returns-clause-is
returns-clause-is c = c.good-k.ensures ∙ ap (good c.args.limit) (front_good c.args.self.now c.front.result c.args.m c.min.result c.min.ensures c.front.ensures.numbers)
