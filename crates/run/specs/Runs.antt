-- The run that is being read.
use Rattle.std.specs.Prelude.{ℕ, List, replicate}
use Rattle.run.specs.Packed.{numbers}
use Rattle.run.specs.declared.copies.Copies.{Copies}
use Rattle.run.specs.declared.kind.Run.{Run}
use Rattle.run.specs.declared.kind.Run.TheVariants.{Repeated, Packed}

-- the numbers of copies
abbrev pub copied : Copies → List ℕ
copied c = replicate c.count c.value

-- the numbers that are left of a run
abbrev pub left_of : Run → List ℕ
left_of (Repeated c) = copied c
left_of (Packed p) = numbers p
