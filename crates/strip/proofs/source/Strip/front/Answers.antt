use Rattle.strip.proofs.Strips.{strip_record}
use Rattle.strip.proofs.source.Strip.front.Goals as goal

pub returns : goal.returns
returns c =
    let s = c.args.self.now in
    strip_record s.«data».now s.records.now c.in-Some.record c.in-Some.rest.now _ (rw c.in-Some.is at c.in_ok-record.ensures) c.in_ok-page.ensures
