-- The numbers by which refusals tell the faults of values.
use Rattle.std.specs.Prelude.{ℕ}
use Rattle.value_fault.specs.declared.fault.ValueFault.{ValueFault}
use Rattle.value_fault.specs.declared.fault.ValueFault.TheVariants.{DictionaryEncoding, DictionaryCut, SecondDictionary, UnknownEncoding, NoDictionary, NoWidth, Width, Unreadable, TooFew}

abbrev pub number : ValueFault → ℕ
number (DictionaryEncoding _) = 2
number DictionaryCut = 2
number SecondDictionary = 3
number (UnknownEncoding _) = 10
number NoDictionary = 10
number NoWidth = 11
number (Width _) = 11
number Unreadable = 11
number TooFew = 12
