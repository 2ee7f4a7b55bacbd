use Rattle.std.proofs.Common.{ℕ, ◌+◌, ◌-◌, ◌*◌, ◌/◌, ◌%◌, ◌^◌, List, length, get_or, sym, ap, ◌∙◌}
use Rattle.stream.specs.Packing.{le, be}
use Rattle.run.specs.Packed.{part}
use Rattle.run.proofs.Laws.{lows_at}
use Rattle.run.proofs.Highs.{highs_at}
use Rattle.run.proofs.packed.Part.number.Goals as goal

pub returns-in-LowFirst : goal.returns-in-LowFirst
returns-in-LowFirst c =
    let s = c.args.self in
    let i : ℕ = c.args.i in
    let bs : List ℕ = s.bytes.now in
    c.low_bits.ensures
    ∙ (ap (λ b. le bs / 2 ^ ((s.skip + i) * b) % 2 ^ s.width.bits) c.bits.ensures.is
    ∙ (sym (lows_at s.width.bits s.skip s.count i bs c.requires) ∙ ap (λ o. get_or (part o s.width.bits s.skip s.count bs) i 0) (sym c.in-LowFirst.is)))

pub returns-in-HighFirst : goal.returns-in-HighFirst
returns-in-HighFirst c =
    let s = c.args.self in
    let i : ℕ = c.args.i in
    let bs : List ℕ = s.bytes.now in
    c.high_bits.ensures
    ∙ (ap (λ b. be bs / 2 ^ (8 * length bs - ((s.skip + i) * b + s.width.bits)) % 2 ^ s.width.bits) c.bits.ensures.is
    ∙ (sym (highs_at s.width.bits s.skip s.count i bs c.requires) ∙ ap (λ o. get_or (part o s.width.bits s.skip s.count bs) i 0) (sym c.in-HighFirst.is)))
