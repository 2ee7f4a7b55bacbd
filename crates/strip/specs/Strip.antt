-- What the bytes of a strip mean over its data.
use Rattle.std.specs.Prelude.{ℕ, zero, suc, ◌+◌, cond, List, [], ◌∷◌, length, take, drop, Some, None, Ok, Err, Result, ◌==◌, nat_le, nat_lt, slice_index}
use Rattle.page.specs.declared.fault.SourceFault.{SourceFault}
use Rattle.page.specs.declared.fault.SourceFault.TheVariants.{UnknownKind, CutRecord, OutsideData}
use Rattle.page.specs.declared.fault.MakingFault.{MakingFault}
use Rattle.page.specs.declared.fault.MakingFault.TheVariants.{StripTooLong, DataTooLong}
use Rattle.strip.specs.declared.source.Strip.{Strip}
use Rattle.strip.specs.declared.record.Span.{Span}
use Rattle.strip.specs.declared.record.Record.{Record}
use Rattle.strip.specs.declared.record.Record.TheVariants.{Dictionary, V1, V2}
use Rattle.page.specs.Bytes.{le4}
use Rattle.page.specs.Coming.{Coming, Told, Contents, dictionary, v1, v2, clean, fault}

-- what stands in front of a strip: a broken record, or one and the number of bytes in its body
pub data Front : Type 0 where
  broken : SourceFault → Front
  whole : Record → ℕ → Front

-- a body of n bytes
abbrev pub body : ℕ → List ℕ → Record → Front
body n b r = cond (nat_lt (length b) n) (broken CutRecord) (whole r n)

-- a body begins with place and length
abbrev pub span_of : List ℕ → Span
span_of b = record { place = le4 b 0; length = le4 b 4 }

-- place, length, count, encoding
abbrev pub dictionary_body : List ℕ → Front
dictionary_body b = body 13 b (Dictionary (span_of b) (le4 b 8) (slice_index b 12))

-- place, length, levels, then the encodings of values, definition and repetition levels
abbrev pub v1_body : List ℕ → Front
v1_body b = body 15 b (V1 (span_of b) (le4 b 8) (slice_index b 12) (slice_index b 13) (slice_index b 14))

-- place, length, levels, nulls, rows, repetition bytes, definition bytes, encoding of values
abbrev pub v2_body : List ℕ → Front
v2_body b = body 29 b (V2 (span_of b) (le4 b 8) (le4 b 12) (le4 b 16) (le4 b 20) (le4 b 24) (slice_index b 28))

-- the record of a kind, with b behind its kind
abbrev pub front : ℕ → List ℕ → Front
front kind b =
    cond (kind == 0) (dictionary_body b)
    (cond (kind == 1) (v1_body b)
    (cond (kind == 2) (v2_body b)
    (broken (UnknownKind kind))))

-- place and length name a part of the data d
abbrev pub placed : List ℕ → ℕ → ℕ → (List ℕ → Contents) → Result Contents SourceFault
placed d place n make = cond (nat_lt (length d) (place + n)) (Err OutsideData) (Ok (make (take n (drop place d))))

-- the page that a record names in the data
abbrev pub page_in : List ℕ → Record → Result Contents SourceFault
page_in d (Dictionary span count encoding) = placed d span.place span.length (λ bytes. dictionary span.place bytes count encoding)
page_in d (V1 span levels encoding definition repetition) = placed d span.place span.length (λ bytes. v1 span.place bytes levels encoding definition repetition)
page_in d (V2 span levels nulls rows rep-bytes def-bytes encoding) = placed d span.place span.length (λ bytes. v2 span.place bytes levels nulls rows rep-bytes def-bytes encoding)

-- what a peek tells of a strip's page: levels of data pages, rows of those of version 2
abbrev pub strip_told : Contents → Told
strip_told (dictionary _ _ _ _) = record { rows = None; levels = None }
strip_told (v1 _ _ levels _ _ _) = record { rows = None; levels = Some levels }
strip_told (v2 _ _ levels _ rows _ _ _) = record { rows = Some rows; levels = Some levels }

-- a page, then those behind it; or the fault in its place
abbrev pub then_pages : Result Contents SourceFault → Coming → Coming
then_pages (Err e) rest = record { pages = []; ends = fault e }
then_pages (Ok c) rest = record { pages = record { told = strip_told c; contents = c } ∷ rest.pages; ends = rest.ends }

-- the record in front, then the pages behind it: `go n` is the pages behind the first n bytes
abbrev pub onto : List ℕ → Front → (ℕ → Coming) → Coming
onto d (broken e) go = record { pages = []; ends = fault e }
onto d (whole r n) go = then_pages (page_in d r) (go n)

-- the pages of the strip behind its first k bytes
abbrev pub strip_from : List ℕ → ℕ → List ℕ → Coming
strip_from d k [] = record { pages = []; ends = clean }
strip_from d (suc k) (_ ∷ b) = strip_from d k b
strip_from d zero (kind ∷ b) = onto d (front kind b) (λ n. strip_from d n b)

-- the meaning of a strip over its data
abbrev pub strip_pages : List ℕ → List ℕ → Coming
strip_pages d strip = strip_from d 0 strip

-- what making a strip answers: its pages, or refusal 14 where strip or data has 2^31 bytes or more
abbrev pub strip_made : List ℕ → List ℕ → Result Coming MakingFault
strip_made d strip =
    cond (nat_le 2147483648 (length strip)) (Err StripTooLong)
    (cond (nat_le 2147483648 (length d)) (Err DataTooLong)
    (Ok (strip_pages d strip)))

-- the meaning of the code's strip
abbrev pub strip_of : Strip → Coming
strip_of s = strip_pages s.«data».now s.records.now
