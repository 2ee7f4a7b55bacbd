use Rattle.std.proofs.Common.{◌≡◌, ◌+◌, ◌≤◌, ◌++◌, map, length, take, drop}
use Rattle.run.specs.Packed.{numbers, good, all_good}
use Rattle.run.proofs.packed.Part.unpack_held.Given as goal

abbrev pub invariant-loop-rest : goal.invariant-loop-rest
invariant-loop-rest g l =
    record {
      held : length l.held ≡ 256;
      within : l.k ≤ length l.out;
      many : l.k + good l.limit (numbers l.rest) ≡ good l.limit (numbers l.self);
      written : take l.k l.out ++ map g.T.Number.from (all_good l.limit (numbers l.rest)) ≡ map g.T.Number.from (all_good l.limit (numbers l.self));
      kept : drop l.k l.out ≡ drop l.k l.initial.out;
    }

abbrev pub decreases-loop-rest : goal.decreases-loop-rest
decreases-loop-rest g l = l.rest.count
