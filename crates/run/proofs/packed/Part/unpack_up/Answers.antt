use Rattle.std.proofs.Common.{◌≡◌, ℕ, ◌+◌, ◌*◌, ◌/◌, ◌≤◌, List, map, take, drop, sym, ap, ◌∙◌, mul-le-mul_right, mul_assoc, arith}
use Rattle.run.specs.Packed.{part, numbers}
use Rattle.run.proofs.Laws.{groups_lie, put_three}
use Rattle.run.proofs.packed.Part.unpack_up.Goals as goal

pub bytes_from-bytes-requires : goal.bytes_from-bytes-requires
bytes_from-bytes-requires g c =
    let s = c.args.self in
    let q : ℕ = (s.skip + c.min-head.result) / 8 in
    let l : 8 * q ≤ s.skip + s.count = omega arith in
    let m = mul-le-mul_right s.width.bits l in
    let e : q * c.bits-width.result ≡ q * s.width.bits = ap (λ b. q * b) c.bits-width.ensures.is in
    omega (arith, s.whole, mul_assoc 8 q s.width.bits)

pub returns : goal.returns
returns g c =
    let f = g.T.Number.from in
    let s = c.args.self in
    let w : ℕ = s.width.bits in
    let h : ℕ = c.min-head.result in
    let n : ℕ = c.groups-n.result in
    let bs : List ℕ = s.bytes.now in
    let e = groups_lie w c.bits-width.result s.skip h s.count n bs c.bytes_from-bytes.result.now c.bits-width.ensures.is (omega arith) (omega arith) c.bytes_from-bytes.ensures in
    put_three f c.one_by_one.new.out c.groups-n.new.out c.one_by_one-2.new.out (numbers s) h n _ (omega arith)
    (c.one_by_one.ensures ∙ ap (map f) c.front.ensures.numbers)
    (c.groups-n.ensures.is ∙ ap (map f) (e ∙ ap (λ o. take n (drop h (part o w s.skip s.count bs))) (sym c.requires.up)))
    (c.one_by_one-2.ensures ∙ ap (map f) c.behind.ensures.numbers)
