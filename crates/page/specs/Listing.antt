-- What a list of pages says of a source.
use Rattle.std.specs.Prelude.{◌≡◌, List, [], map, Ok, Err, Result}
use Rattle.page.specs.declared.page.PageMetadata.{PageMetadata}
use Rattle.page.specs.declared.list.ListedPage.{ListedPage}
use Rattle.page.specs.declared.list.ListError.{ListError}
use Rattle.page.specs.declared.list.ListError.TheVariants.{Source, NoMemory}
use Rattle.page.specs.Coming.{Coming, ToCome, Contents, contents_of, metadata, clean, fault}

-- a page with what a peek tells of it
pub record Listed : Type 0 where
  pub told : PageMetadata
  pub contents : Contents

abbrev pub listed : ToCome → Listed
listed p = record { told = metadata p; contents = p.contents }

abbrev pub listed_of : ListedPage → Listed
listed_of l = record { told = l.metadata; contents = contents_of l.page }

-- the pages to come, as a list shows them
abbrev pub listing : Coming → List Listed
listing c = map listed c.pages

-- When listing has ended: no page is left and the reply tells how they end; or memory ended first, and the end is still to come.
abbrev pub ListedAll : Result Unit ListError → Coming → Coming → Type 0
ListedAll (Ok _) left was = (left.pages ≡ []) × (left.ends ≡ clean) × (was.ends ≡ clean)
ListedAll (Err (Source f)) left was = (left.pages ≡ []) × (left.ends ≡ fault f) × (was.ends ≡ fault f)
ListedAll (Err NoMemory) left was = left.ends ≡ was.ends
