-- What the inner functions of a strip answer.
use Rattle.std.specs.Prelude.{ℕ, ◌+◌, cond, List, [], ◌∷◌, length, take, drop, Some, None, Ok, Err, Option, Result, nat_lt}
use Rattle.std.specs.Borrow.{Bor}
use Rattle.page.specs.declared.fault.SourceFault.{SourceFault}
use Rattle.page.specs.declared.fault.SourceFault.TheVariants.{CutRecord, OutsideData}
use Rattle.page.specs.declared.page.Page.{Page}
use Rattle.page.specs.declared.page.PageMetadata.{PageMetadata}
use Rattle.strip.specs.declared.record.Record.{Record}
use Rattle.strip.specs.declared.source.Cut.{Cut}
use Rattle.page.specs.Coming.{Coming, clean, fault, Contents, contents_of, metadata, Answer, none, some, bad}
use Rattle.strip.specs.Strip.{Front, broken, whole, front, strip_told, then_pages, strip_pages}

-- the first record and the bytes behind it, if the strip has not ended
pub data First : Type 0 where
  nothing : First
  refused : SourceFault → First
  first : Record → List ℕ → First

abbrev pub behind : Front → List ℕ → First
behind (broken e) b = refused e
behind (whole r n) b = first r (drop n b)

abbrev pub first_of : List ℕ → First
first_of [] = nothing
first_of (kind ∷ b) = behind (front kind b) b

abbrev pub whole_of : Result (Record × Bor (List ℕ)) SourceFault → First
whole_of (Ok t) = first t.0 t.1.now
whole_of (Err e) = refused e

abbrev pub taken_of : Result (Option (Record × Bor (List ℕ))) SourceFault → First
taken_of (Ok None) = nothing
taken_of (Ok (Some t)) = whole_of (Ok t)
taken_of (Err e) = whole_of (Err e)

-- the part of the data that a record names
abbrev pub parted : List ℕ → ℕ → ℕ → Result (List ℕ) SourceFault
parted d place n = cond (nat_lt (length d) (place + n)) (Err OutsideData) (Ok (take n (drop place d)))

-- what stands behind a body of n bytes
abbrev pub rested : List ℕ → ℕ → Result (List ℕ) SourceFault
rested b n = cond (nat_lt (length b) n) (Err CutRecord) (Ok (drop n b))

abbrev pub part_of : Result (Bor (List ℕ)) SourceFault → Result (List ℕ) SourceFault
part_of (Ok p) = Ok p.now
part_of (Err e) = Err e

-- the first page and the bytes behind its record
pub record FrontPage : Type 0 where
  pub contents : Contents
  pub rest : List ℕ

abbrev pub cut_of : Result (Option Cut) SourceFault → Answer FrontPage
cut_of (Ok None) = none
cut_of (Ok (Some c)) = some (record { contents = contents_of c.page; rest = c.rest.now })
cut_of (Err e) = bad e

-- the pages of a strip, by what was found in front: nothing, a fault, or a page, and then those of the rest
abbrev pub by_front : List ℕ → Answer FrontPage → Coming
by_front d none = record { pages = []; ends = clean }
by_front d (bad e) = record { pages = []; ends = fault e }
by_front d (some p) = then_pages (Ok p.contents) (strip_pages d p.rest)

abbrev pub page_of : Result Page SourceFault → Result Contents SourceFault
page_of (Ok p) = Ok (contents_of p)
page_of (Err e) = Err e

abbrev pub told_of : Page → PageMetadata
told_of p = metadata (record { told = strip_told (contents_of p); contents = contents_of p })
