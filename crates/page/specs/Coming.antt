-- What a source of pages means, and what each call of it answers.
use Rattle.std.specs.Prelude.{ℕ, Bool, true, false, List, [], ◌∷◌, ◌++◌, is_some, Some, None, Ok, Err, Option, Result}
use Rattle.page.specs.declared.fault.SourceFault.{SourceFault}
use Rattle.page.specs.declared.page.PageMetadata.{PageMetadata}
use Rattle.page.specs.declared.page.Page.{Page}
use Rattle.page.specs.declared.page.Page.TheVariants.{DictionaryPage, DataPage, DataPageV2}

-- a page, with its bytes as a list
pub data Contents : Type 0 where
  dictionary : (place : ℕ) (bytes : List ℕ) (values encoding : ℕ) → Contents
  v1 : (place : ℕ) (bytes : List ℕ) (levels encoding definition repetition : ℕ) → Contents
  v2 : (place : ℕ) (bytes : List ℕ) (levels nulls rows repetition_bytes definition_bytes encoding : ℕ) → Contents

-- what every peek tells of a page, besides whether it is a dictionary
pub record Told : Type 0 where
  pub rows : Option ℕ
  pub levels : Option ℕ

-- a page to come
pub record ToCome : Type 0 where
  pub told : Told
  pub contents : Contents

-- how the pages end: cleanly, or with refusal 1 and its cause
pub data PagesEnd : Type 0 where
  clean : PagesEnd
  fault : SourceFault → PagesEnd

-- the meaning of a source: the pages to come, and how they end
pub record Coming : Type 0 where
  pub pages : List ToCome
  pub ends : PagesEnd

-- what a call answers: nothing, a thing, or a fault
pub data Answer (X : Type 0) : Type 0 where
  none : Answer X
  some : X → Answer X
  bad : SourceFault → Answer X

abbrev pub is_dictionary : Contents → Bool
is_dictionary (dictionary _ _ _ _) = true
is_dictionary (v1 _ _ _ _ _ _) = false
is_dictionary (v2 _ _ _ _ _ _ _ _) = false

-- what a peek tells of a page: whether it is a dictionary is always the truth
abbrev pub metadata : ToCome → PageMetadata
metadata p = record { num_rows = p.told.rows; num_levels = p.told.levels; is_dict = is_dictionary p.contents }

abbrev pub contents_of : Page → Contents
contents_of (DictionaryPage place buf values encoding) = dictionary place buf.now values encoding
contents_of (DataPage place buf levels encoding def rep) = v1 place buf.now levels encoding def rep
contents_of (DataPageV2 place buf levels nulls rows rep-bytes def-bytes encoding) = v2 place buf.now levels nulls rows rep-bytes def-bytes encoding

-- the replies of the code, as answers
abbrev pub peek_of : Result (Option PageMetadata) SourceFault → Answer PageMetadata
peek_of (Ok None) = none
peek_of (Ok (Some m)) = some m
peek_of (Err e) = bad e

abbrev pub get_of : Result (Option Page) SourceFault → Answer Contents
get_of (Ok None) = none
get_of (Ok (Some p)) = some (contents_of p)
get_of (Err e) = bad e

abbrev pub skip_of : Result Unit SourceFault → Answer Unit
skip_of (Ok _) = none
skip_of (Err e) = bad e

abbrev pub flag_of : Result Bool SourceFault → Answer Bool
flag_of (Ok b) = some b
flag_of (Err e) = bad e

-- what a making answers, with what was made by its meaning
abbrev pub made_of : {X Y E : Type 0} → (X → Y) → Result X E → Result Y E
made_of means (Ok x) = Ok (means x)
made_of means (Err e) = Err e

-- what every call answers where no page is left
abbrev pub at_end : {X : Type 0} → PagesEnd → Answer X
at_end clean = none
at_end (fault e) = bad e

-- what `peek_next_page`, `get_next_page` and `skip_next_page` answer
abbrev pub peeked : Coming → Answer PageMetadata
peeked c = elim c.pages [ [] ↦ at_end c.ends | p ∷ _ ↦ some (metadata p) ]

abbrev pub got : Coming → Answer Contents
got c = elim c.pages [ [] ↦ at_end c.ends | p ∷ _ ↦ some p.contents ]

abbrev pub skipped : Coming → Answer Unit
skipped c = elim c.pages [ [] ↦ at_end c.ends | _ ∷ _ ↦ none ]

-- what is to come when the next page, if there is one, is taken or dropped
abbrev pub after : Coming → Coming
after c = record { pages = elim c.pages [ [] ↦ [] | _ ∷ ps ↦ ps ]; ends = c.ends }

-- a record boundary follows if no page comes or the next page's rows are told
abbrev pub boundary : Coming → Answer Bool
boundary c = elim (peeked c) [ none ↦ some true | some m ↦ some (is_some m.num_rows) | bad e ↦ bad e ]

-- the pages of one, then those of another; a fault that ends the first ends both
abbrev pub joined : Coming → Coming → Coming
joined a b = elim a.ends [ clean ↦ record { pages = a.pages ++ b.pages; ends = b.ends } | fault _ ↦ a ]
