use Rattle.std.proofs.Common.{◌-◌, min, length, ap, ◌∙◌, arith}
use Rattle.raw.proofs.Raws.{part_none, part_some, part_length}
use Rattle.raw.proofs.Raw.next_part.Goals as goal

pub returns-then-self : goal.returns-then-self
returns-then-self c = record { means = part_none c.args.self.now (omega arith); fits = tt }

pub returns : goal.returns
returns c =
    let r = c.args.self.now in
    let n = c.min-length.result in
    let l = part_length r.at n r.values.now (omega arith) in
    record {
      means = part_some r n (omega arith) (c.min-length.ensures ∙ ap (λ b. min b (length r.values.now - r.at)) c.page_bytes.ensures.value);
      fits = (omega (arith, c.page_bytes.ensures.bound), omega arith);
    }
