-- Pages and the causes of refusals in words.
use Rattle.std.specs.Prelude.{ℕ, List, ◌++◌, length, codes, decimal}
use Rattle.page.specs.declared.fault.SourceFault.{SourceFault}
use Rattle.page.specs.declared.fault.SourceFault.TheVariants.{UnknownKind, CutRecord, OutsideData}
use Rattle.page.specs.declared.fault.MakingFault.{MakingFault}
use Rattle.page.specs.declared.fault.MakingFault.TheVariants.{StripTooLong, DataTooLong, RawWidth, RawPageValues, RawCutValue, FileTooShort, FileType, FileStrip}
use Rattle.page.specs.Coming.{Contents, dictionary, v1, v2}

abbrev pub dictionary_fields : ℕ → ℕ → List ℕ
dictionary_fields values encoding = codes "values " ++ (decimal values ++ (codes " encoding " ++ decimal encoding))

abbrev pub v1_fields : ℕ → ℕ → ℕ → ℕ → List ℕ
v1_fields levels encoding definition repetition =
    codes "levels " ++ (decimal levels ++ (codes " encoding " ++ (decimal encoding ++ (codes " definition " ++ (decimal definition ++ (codes " repetition " ++ decimal repetition))))))

abbrev pub v2_fields : ℕ → ℕ → ℕ → ℕ → ℕ → ℕ → List ℕ
v2_fields levels nulls rows repetition definition encoding =
    codes "levels " ++ (decimal levels ++ (codes " nulls " ++ (decimal nulls ++ (codes " rows " ++ (decimal rows
    ++ (codes " repetition-bytes " ++ (decimal repetition ++ (codes " definition-bytes " ++ (decimal definition ++ (codes " encoding " ++ decimal encoding))))))))))

abbrev pub fields_words : Contents → List ℕ
fields_words (dictionary place bytes values encoding) = dictionary_fields values encoding
fields_words (v1 place bytes levels encoding definition repetition) = v1_fields levels encoding definition repetition
fields_words (v2 place bytes levels nulls rows repetition_bytes definition_bytes encoding) = v2_fields levels nulls rows repetition_bytes definition_bytes encoding

-- a page's kind and place, and then its own fields
abbrev pub place_text : List ℕ → ℕ → ℕ → List ℕ → List ℕ
place_text kind place length fields =
    kind ++ (codes " place " ++ (decimal place ++ (codes " length " ++ (decimal length ++ (codes " " ++ fields)))))

abbrev pub page_words : Contents → List ℕ
page_words (dictionary place bytes values encoding) = place_text (codes "dictionary") place (length bytes) (dictionary_fields values encoding)
page_words (v1 place bytes levels encoding definition repetition) = place_text (codes "v1") place (length bytes) (v1_fields levels encoding definition repetition)
page_words (v2 place bytes levels nulls rows repetition_bytes definition_bytes encoding) =
    place_text (codes "v2") place (length bytes) (v2_fields levels nulls rows repetition_bytes definition_bytes encoding)

abbrev pub source_words : SourceFault → List ℕ
source_words (UnknownKind _) = codes "the record is of an unknown kind"
source_words CutRecord = codes "the strip ends within the record"
source_words OutsideData = codes "the record names bytes outside the data"

abbrev pub making_words : MakingFault → List ℕ
making_words StripTooLong = codes "the strip has 2^31 bytes or more"
making_words DataTooLong = codes "the data has 2^31 bytes or more"
making_words RawWidth = codes "raw values are neither 4 nor 8 bytes wide"
making_words RawPageValues = codes "a raw page holds 1 to 65536 values"
making_words RawCutValue = codes "the raw bytes end within a value"
making_words FileTooShort = codes "the file ends within its header"
making_words (FileType _) = codes "the type is unknown"
making_words FileStrip = codes "the strip reaches past the end of the file"
