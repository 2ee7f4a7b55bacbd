use Rattle.page.proofs.page.FieldsDisplay.fmt.Goals as goal

pub returns-in-DataPageV2-clause-writes : goal.returns-in-DataPageV2-clause-writes
returns-in-DataPageV2-clause-writes g c = λ p ok. rw c.in-DataPageV2.is (c.write-in-DataPageV2.ensures.writes p ok)
