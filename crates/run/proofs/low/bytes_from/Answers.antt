use Rattle.std.proofs.Common.{sym, ap, ◌∙◌, arith}
use Rattle.std.proofs.lemmas.List.{take_rest}
use Rattle.stream.specs.Packing.{le}
use Rattle.run.proofs.Laws.{le_drop}
use Rattle.run.proofs.low.bytes_from.Goals as goal

pub returns : goal.returns
returns c = ap le (take_rest c.args.bytes.now c.args.j) ∙ sym (le_drop c.args.j c.args.bytes.now (λ k. omega (arith, c.type_inv.bytes k)))
