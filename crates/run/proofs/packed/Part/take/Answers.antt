use Rattle.std.proofs.Common.{length, ap, ◌∙◌, arith}
use Rattle.run.specs.Packed.{numbers, good}
use Rattle.run.proofs.Parts.{front_good, front_few, wrote_front}
use Rattle.run.proofs.packed.Part.take.Goals as goal

pub returns-clause-is : goal.returns-clause-is
returns-clause-is g c =
    c.unpack_good-k.ensures.is
    ∙ ap (good c.args.limit) (front_good c.args.self.now c.front.result (length c.args.out.now) c.min-n.result c.min-n.ensures c.front.ensures.numbers)

pub returns-clause-written : goal.returns-clause-written
returns-clause-written g c =
    let p = c.args.self.now in
    wrote_front g.T.Number.from c.args.out.now c.unpack_good-k.new.out (numbers p) (numbers c.front.result) c.min-n.result c.unpack_good-k.result (omega arith)
    (front_few p c.front.result c.min-n.result c.unpack_good-k.result c.args.limit c.front.ensures.count c.unpack_good-k.ensures.is) c.front.ensures.numbers c.unpack_good-k.ensures.written
