use Rattle.std.proofs.Common.{ℕ, ◌-◌, ◌*◌, ◌<◌, List, sym, ◌∙◌, inl, inr, arith}
use Rattle.stream.specs.Packing.{le, low_first}
use Rattle.run.proofs.Laws.{put_at, below_at, below_length, group_bit, low_field}
use Rattle.run.proofs.low.group.Goals as goal
use Rattle.run.proofs.low.group.Goals.{then-this-le8, else-this-le8}

pub loop-k-preserved : goal.loop-k-preserved
loop-k-preserved g c =
    let w : ℕ = g.row.W in
    let k : ℕ = c.loop-k.k in
    let from : ℕ = c.if-this-le8.from in
    let bs : List ℕ = c.args.bytes.now in
    let l : k < 8 = omega arith in
    let b = group_bit k w from l c.requires.narrow (elim c.if-this-le8.branch [ then-this-le8 v ↦ inl (v.from-is, v.if-this-le8.true) | else-this-le8 v ↦ inr v.from-is ]) in
    put_at g.T.Number.from c.loop-k.out (low_first w 8 bs) k _ c.from_u32.result (omega arith) (omega (arith, below_length w 8 (le bs))) c.loop-k.invariant c.from_u32.ensures
    (low_field bs from (k * w - 8 * from) w (k * w) c.word.result (λ i. omega (arith, c.type_inv.bytes i)) b.1 (omega arith) b.0 c.word.ensures
    ∙ sym (below_at w 8 (le bs) k l))
