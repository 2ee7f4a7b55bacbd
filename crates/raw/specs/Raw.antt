-- What raw values mean as a source of pages.
use Rattle.std.specs.Prelude.{ℕ, zero, suc, ◌+◌, ◌-◌, ◌*◌, ◌/◌, ◌%◌, ◌≤◌, cond, ◌&&◌, ◌||◌, List, [], ◌∷◌, length, take, drop, Some, None, Ok, Err, Option, Result, ◌==◌, nat_le}
use Rattle.std.specs.Borrow.{Bor}
use Rattle.page.specs.declared.fault.MakingFault.{MakingFault}
use Rattle.page.specs.declared.fault.MakingFault.TheVariants.{RawWidth, RawPageValues, RawCutValue}
use Rattle.raw.specs.declared.Raw.{Raw}
use Rattle.raw.specs.declared.Width.{Width}
use Rattle.raw.specs.declared.Width.TheVariants.{Four, Eight}
use Rattle.page.specs.Coming.{Coming, ToCome, v1, clean}

-- a page of values that are w bytes wide: PLAIN, level encodings 3, no level bytes, rows and levels told
abbrev pub raw_page : ℕ → ℕ → List ℕ → ToCome
raw_page w place bytes =
    record { told = record { rows = Some (length bytes / w); levels = Some (length bytes / w) }; contents = v1 place bytes (length bytes / w) 0 3 3 }

-- the first n pages of s bytes each, the last perhaps shorter
abbrev pub cut_pages : ℕ → ℕ → ℕ → ℕ → List ℕ → List ToCome
cut_pages zero w s place bs = []
cut_pages (suc n) w s place bs = raw_page w place (take s bs) ∷ cut_pages n w s (place + s) (drop s bs)

-- as many pages of s bytes as n bytes need
abbrev pub pages_in : ℕ → ℕ → ℕ
pages_in s n = (n + (s - 1)) / s

-- the meaning of raw values of width w, k to a page, that stand at a place: they end cleanly
abbrev pub raw_pages : ℕ → ℕ → ℕ → List ℕ → Coming
raw_pages w k place bs = record { pages = cut_pages (pages_in (w * k) (length bs)) w (w * k) place bs; ends = clean }

-- what making a raw source answers: its pages, or refusal 14 for another width than 4 or 8, another k than 1 to 65,536, or a cut value
abbrev pub raw_made : List ℕ → ℕ → ℕ → Result Coming MakingFault
raw_made bs w k =
    cond (w == 4 || w == 8)
    (cond (nat_le 1 k && nat_le k 65536)
    (cond (length bs % w == 0) (Ok (raw_pages w k 0 bs)) (Err RawCutValue))
    (Err RawPageValues))
    (Err RawWidth)

-- the width of so many bytes
abbrev pub width_made : ℕ → Result Width MakingFault
width_made n = cond (n == 4) (Ok Four) (cond (n == 8) (Ok Eight) (Err RawWidth))

abbrev pub bytes_of : Width → ℕ
bytes_of Four = 4
bytes_of Eight = 8

abbrev pub page_bytes_of : Raw → ℕ
page_bytes_of r = bytes_of r.width * r.page_values.count

-- the meaning of the code's raw source
abbrev pub raw_of : Raw → Coming
raw_of r = raw_pages (bytes_of r.width) r.page_values.count r.at (drop r.at r.values.now)

-- For the inner function: the pages by the bytes of the next one, if a value is left,
abbrev pub by_part : Raw → Option (Bor (List ℕ)) → Coming
by_part r None = record { pages = []; ends = clean }
by_part r (Some part) =
    record {
      pages = raw_page (bytes_of r.width) r.at part.now
          ∷ (raw_pages (bytes_of r.width) r.page_values.count (r.at + length part.now) (drop (r.at + length part.now) r.values.now)).pages;
      ends = clean;
    }

-- which are at most 65,536 values of 8 bytes and lie within the values.
abbrev pub Fitting : Raw → Option (Bor (List ℕ)) → Type 0
Fitting r None = Unit {0}
Fitting r (Some part) = (length part.now ≤ 524288) × (r.at + length part.now ≤ length r.values.now)
