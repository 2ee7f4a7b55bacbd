use Rattle.std.proofs.Common.{sym, ◌∙◌, ltb-true}
use Rattle.std.proofs.lemmas.List.{drop-replicate}
use Rattle.run.proofs.Parts.{copies_good}
use Rattle.run.proofs.copies.Copies.pass.Goals as goal

pub returns-clause-is : goal.returns-clause-is
returns-clause-is c =
    let s = c.args.self.now in
    copies_good c.args.limit s.value c.args.m s.count c.min-n.result (ltb-true s.value c.args.limit (sym c.below.ensures ∙ c.if-not-below.false)) c.min-n.ensures

pub returns-clause-left : goal.returns-clause-left
returns-clause-left c = let s = c.args.self.now in sym (drop-replicate c.min-n.result s.count s.value)
