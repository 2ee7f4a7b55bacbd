use Rattle.std.proofs.Common.{◌≡◌, take, nat_le}
use Rattle.std.specs.List.{list_any}
use Rattle.run.proofs.limit.any_at_least.Given as goal

abbrev pub invariant-loop-x : goal.invariant-loop-x
invariant-loop-x l = l.found ≡ list_any (λ x. nat_le l.limit x) (take l.x-index l.numbers)
