use Rattle.std.proofs.Common.{ℕ, ◌+◌, ◌*◌, List, map, length, drop, ap, ◌∙◌, arith}
use Rattle.std.proofs.lemmas.List.{take_rest}
use Rattle.stream.specs.Packing.{low_first}
use Rattle.run.proofs.Laws.{put_on, group_more}
use Rattle.run.proofs.low.by_groups.Goals as goal

pub loop-g-preserved : goal.loop-g-preserved
loop-g-preserved g c =
    let f = g.T.Number.from in
    let w : ℕ = g.row.W in
    let i : ℕ = c.loop-g.g in
    let bs : List ℕ = c.args.bytes.now in
    let e = c.group.ensures ∙ ap (λ b. map f (low_first w 8 b)) (take_rest bs (i * w)) in
    put_on f c.loop-g.out c.group.new.out (low_first w (8 * i) bs) (low_first w 8 (drop (i * w) bs)) (low_first w (8 * (i + 1)) bs) (8 * i) _ (8 * (i + 1))
    (omega (arith, ap length e)) (omega arith) c.loop-g.invariant e (group_more w i bs (λ k. omega (arith, c.type_inv.bytes k)))
