use Rattle.std.proofs.Common.{◌≤◌, ◌^◌, sym, arith, leb-true}
use Rattle.std.proofs.lemmas.Nat.{one_shl}
use Rattle.run.proofs.Parts.{good_width}
use Rattle.run.proofs.packed.Part.fits_below.Goals as goal

pub returns : goal.returns
returns c e =
    let s = c.args.self in
    let l = one_shl c.bits.result 64 (omega arith) in
    let t : 2 ^ c.bits.result ≤ c.args.limit = omega (arith, leb-true _ _ e) in
    let u : 2 ^ s.width.bits ≤ c.args.limit = rw c.bits.ensures.is at t in
    sym (good_width s.order s.width.bits s.skip s.count c.args.limit s.bytes.now u)
