use Rattle.std.proofs.Common.{length, sym, ◌∙◌, arith, ltb-true}
use Rattle.std.proofs.lemmas.List.{drop-replicate}
use Rattle.run.proofs.Parts.{copies_good, wrote_copies}
use Rattle.run.proofs.copies.Copies.take.Goals as goal

pub returns-clause-is : goal.returns-clause-is
returns-clause-is g c =
    let s = c.args.self.now in
    copies_good c.args.limit s.value (length c.args.out.now) s.count c.min-n.result (ltb-true s.value c.args.limit (sym c.below.ensures ∙ c.if-not-below.false)) c.min-n.ensures

pub returns-clause-left : goal.returns-clause-left
returns-clause-left g c = let s = c.args.self.now in sym (drop-replicate c.min-n.result s.count s.value)

pub returns-clause-written : goal.returns-clause-written
returns-clause-written g c =
    let s = c.args.self.now in
    wrote_copies g.T.Number.from c.args.out.now c.fill_all.new.out s.value s.count c.min-n.result c.from_u32.result (omega arith) (omega arith) c.from_u32.ensures c.fill_all.ensures
