-- Values to come.
use Rattle.std.specs.Prelude.{List, [], ℕ, drop}
use Rattle.value_fault.specs.declared.fault.ValueFault.{ValueFault}

-- how values end: there are no more, or the next one has this fault
pub data ValuesEnd : Type 0 where
  short : ValuesEnd
  fault : ValueFault → ValuesEnd

-- values to come, and how they end
pub record Values (V : Type 0) : Type 0 where
  pub items : List V
  pub ends : ValuesEnd

-- no values to come
abbrev pub none_left : {V : Type 0} → Values V
none_left = record { items = []; ends = short }

-- those behind the first `n`
abbrev pub behind : {V : Type 0} → ℕ → Values V → Values V
behind n s = record { items = drop n s.items; ends = s.ends }
