use Rattle.std.proofs.Common.{length, sym, ap, ◌∙◌, arith}
use Rattle.std.specs.Option.{unwrap_or}
use Rattle.run.specs.Packed.{good}
use Rattle.run.proofs.Goods.{good_all, good_none, good_place}
use Rattle.run.proofs.limit.first_at_least.Goals as goal

pub returns-in_default : goal.returns-in_default
returns-in_default c = sym (good_all c.args.limit c.args.numbers.now (λ i h. omega (arith, c.type_inv.numbers i)))

pub returns-then-not-any_at_least : goal.returns-then-not-any_at_least
returns-then-not-any_at_least c =
    let h = c.in-Ok.ensures in
    good_none c.in-Ok.limit c.args.numbers.now (sym c.if-not-any_at_least.ensures) ∙ ap (λ l. good l c.args.numbers.now) h.1

pub returns : goal.returns
returns c =
    let h = c.in-Ok.ensures in
    c.unwrap_or.ensures
    ∙ (ap (λ o. unwrap_or o (length c.args.numbers.now)) c.first_bad.ensures ∙ (good_place c.in-Ok.limit c.args.numbers.now ∙ ap (λ l. good l c.args.numbers.now) h.1))
