use Rattle.std.proofs.Common.{arith}
use Rattle.run.specs.Packed.{numbers}
use Rattle.run.proofs.Laws.{put_at, put_all}
use Rattle.run.proofs.PackedParts.{numbers_length}
use Rattle.run.proofs.packed.Part.one_by_one.Goals as goal

pub loop-i-preserved : goal.loop-i-preserved
loop-i-preserved g c =
    put_at g.T.Number.from c.loop-i.out (numbers c.args.self) c.loop-i.i c.number.result c.from_u32.result (omega arith) (omega (arith, numbers_length c.args.self)) c.loop-i.invariant
    c.from_u32.ensures c.number.ensures

pub returns : goal.returns
returns g c = put_all g.T.Number.from c.loop-i.out (numbers c.args.self) c.loop-i.i (omega arith) (omega (arith, numbers_length c.args.self)) c.loop-i.invariant
