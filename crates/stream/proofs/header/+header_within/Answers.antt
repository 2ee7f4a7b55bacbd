use Rattle.std.proofs.Common.{ℕ, ◌-◌, ◌*◌, arith, pow_pos}
use Rattle.std.proofs.lemmas.List.{length-take, length-drop}
use Rattle.stream.proofs.Headers.{sevens_more}
use Rattle.stream.proofs.header.+header_within.Goals as goal

pub returns-in-len1-up-clause-small : goal.returns-in-len1-up-clause-small
returns-in-len1-up-clause-small t c =
    let k : ℕ = c.args.k in
    (omega (arith, sevens_more k (omega arith), pow_pos (7 * (k - 1))), omega arith, omega arith)

pub returns-in-Some-clause-small : goal.returns-in-Some-clause-small
returns-in-Some-clause-small t c =
    let k : ℕ = c.args.k in
    let s = rw c.in-Some.is at c.in_ok-high-in-len1-up-2.ensures.small in
    (omega (arith, s.0, sevens_more k (omega arith), c.type_inv.bytes 0), omega (arith, s.1), omega (arith, simp (length-take, length-drop) at s.2))
