-- The lines that are written of column files, pages and refusals.
use Rattle.std.specs.Prelude.{ℕ, List, ◌++◌, codes, decimal}
use Rattle.column_file.specs.declared.ColumnFile.{ColumnFile}
use Rattle.column_file.specs.ColumnFile.{type_number}
use Rattle.page.specs.Coming.{Contents}
use Rattle.page.specs.Words.{page_words}

abbrev pub numbers_text : ℕ → ℕ → ℕ → List ℕ
numbers_text r d t = codes "repetition " ++ (decimal r ++ (codes " definition " ++ (decimal d ++ (codes " type " ++ decimal t))))

-- a column file's maxima and type
abbrev pub header_text : ColumnFile → List ℕ
header_text f = numbers_text f.max_rep_level f.max_def_level (type_number f.physical_type)

-- a page behind its number
abbrev pub page_as_text : ℕ → Contents → List ℕ
page_as_text number c = decimal number ++ (codes ": " ++ page_words c)

abbrev pub end_text : ℕ → List ℕ
end_text count = codes "end pages " ++ decimal count

-- refusal 1, with the broken record's number and its cause
abbrev pub broken_text : ℕ → List ℕ → List ℕ
broken_text n cause = codes "refused 1 page " ++ (decimal n ++ (codes ": " ++ cause))

-- refusal 14, with its cause
abbrev pub refused_text : List ℕ → List ℕ
refused_text cause = codes "refused 14: " ++ cause
