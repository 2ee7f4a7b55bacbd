-- How many values a page of raw values holds.
use Rattle.std.specs.Prelude.{ℕ, cond, ◌&&◌, Ok, Err, Result, nat_le}
use Rattle.page.specs.declared.fault.MakingFault.{MakingFault}
use Rattle.page.specs.declared.fault.MakingFault.TheVariants.{RawPageValues}

-- 1 to 65,536
abbrev pub count_made : ℕ → Result ℕ MakingFault
count_made k = cond (nat_le 1 k && nat_le k 65536) (Ok k) (Err RawPageValues)
