use Rattle.std.proofs.Common.{◌≡◌, ◌++◌, map, length, vec_items}
use Rattle.page.specs.Listing.{listed_of, listing}
use Rattle.page.proofs.list.list_pages.Given as goal

abbrev pub invariant-loop-metadata : goal.invariant-loop-metadata
invariant-loop-metadata g l =
    (map listed_of (vec_items l.pages) ++ listing (g.S.PageReader.coming l.source) ≡ map listed_of (vec_items l.initial.pages) ++ listing (g.S.PageReader.coming l.initial.source))
    × ((g.S.PageReader.coming l.source).ends ≡ (g.S.PageReader.coming l.initial.source).ends)

abbrev pub decreases-loop-metadata : goal.decreases-loop-metadata
decreases-loop-metadata g l = length (g.S.PageReader.coming l.source).pages
