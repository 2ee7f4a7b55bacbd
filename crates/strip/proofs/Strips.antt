-- A strip's pages by the record in front.
use Rattle.std.proofs.Common.{◌≡◌, ℕ, zero, suc, List, [], ◌∷◌, drop, Result, sym, refl, ap, ◌∙◌}
use Rattle.strip.specs.declared.record.Record.{Record}
use Rattle.page.specs.declared.fault.SourceFault.{SourceFault}
use Rattle.page.specs.Coming.{Coming, Contents, clean, fault}
use Rattle.strip.specs.Strip.{Front, broken, whole, front, page_in, onto, then_pages, strip_from, strip_pages}
use Rattle.strip.specs.Records.{First, nothing, refused, first, behind, first_of}

-- the bytes that are passed over are dropped
strip_at : (d : List ℕ) (k : ℕ) (s : List ℕ) → strip_from d k s ≡ strip_pages d (drop k s)
strip_at d zero s = refl
strip_at d (suc k) [] = refl
strip_at d (suc k) (b ∷ s) = strip_at d k s

-- the pages of a strip whose first record is known
abbrev by_first : List ℕ → First → Coming
by_first d nothing = record { pages = []; ends = clean }
by_first d (refused e) = record { pages = []; ends = fault e }
by_first d (first r b) = then_pages (page_in d r) (strip_pages d b)

onto_front : (d s : List ℕ) (f : Front) → onto d f (λ n. strip_from d n s) ≡ by_first d (behind f s)
onto_front d s (broken e) = refl
onto_front d s (whole r n) = ap (then_pages (page_in d r)) (strip_at d n s)

strip_first : (d s : List ℕ) → strip_pages d s ≡ by_first d (first_of s)
strip_first d [] = refl
strip_first d (kind ∷ s) = onto_front d s (front kind s)

-- where a record is in front, its page comes first
pub strip_record : (d s : List ℕ) (r : Record) (b : List ℕ) (p : Result Contents SourceFault) → first r b ≡ first_of s → p ≡ page_in d r
    → strip_pages d s ≡ then_pages p (strip_pages d b)
strip_record d s r b p e f = strip_first d s ∙ (ap (by_first d) (sym e) ∙ sym (ap (λ q. then_pages q (strip_pages d b)) f))
