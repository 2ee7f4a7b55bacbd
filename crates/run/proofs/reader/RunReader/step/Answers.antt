use Rattle.std.proofs.Common.{ℕ, List, length, take, drop, refl, ap, ◌∙◌, arith}
use Rattle.std.proofs.lemmas.List.{length-append, length-take-le}
use Rattle.stream.specs.Streams.{Stream, hybrid, within}
use Rattle.run.specs.Coming.{to_come}
use Rattle.run.specs.Reading.{Passes}
use Rattle.run.specs.Runs.{left_of}
use Rattle.run.proofs.Calls.{all_after}
use Rattle.run.proofs.Goods.{good_most}
use Rattle.run.proofs.Within.{within_over}
use Rattle.run.proofs.reader.RunReader.step.Goals as goal

pub advance-requires : goal.advance-requires
advance-requires c =
    let r = c.args.self.now in omega (arith, c.holds.ensures c.if-not-holds.false, good_most r.limit (left_of r.run))

pub returns-clause-there : goal.returns-clause-there
returns-clause-there c _ =
    let r = c.args.self.now in
    let m : ℕ = c.args.m in
    let xs : List ℕ = left_of r.run in
    let t : Stream = hybrid r.width.bits r.limit r.bytes.now in
    let g = c.holds.ensures c.if-not-holds.false in
    let l = length-take-le m xs (omega (arith, g, good_most r.limit xs)) in
    omega (arith, ap (λ s. length s.numbers) (within_over r.limit m xs t g), length-append (take m xs) (within r.limit (drop m xs) t).numbers, l)

pub returns-clause-on : goal.returns-clause-on
returns-clause-on c _ =
    let r = c.args.self.now in
    let m : ℕ = c.args.m in
    let xs : List ℕ = left_of r.run in
    let t : Stream = hybrid r.width.bits r.limit r.bytes.now in
    let g = c.holds.ensures c.if-not-holds.false in
    let rest : Stream = within r.limit (drop m xs) t in
    let a : Passes (to_come r) m rest = record { numbers = take m xs; many = length-take-le m xs (omega (arith, g, good_most r.limit xs)); there = within_over r.limit m xs t g } in
    ap (λ ys. within r.limit ys t) c.advance.ensures ∙ all_after (to_come r) rest m m a refl
