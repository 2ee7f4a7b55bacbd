use Rattle.std.proofs.Common.{◌≡◌, ◌≤◌, ◌-◌, length, take}
use Rattle.run.specs.Coming.{to_come}
use Rattle.run.specs.Reading.{after}
use Rattle.level.specs.Courses.{equal_to}
use Rattle.level.proofs.count.def_course.Given as goal

abbrev pub invariant-loop-taken : goal.invariant-loop-taken
invariant-loop-taken l = record {
  comes : to_come l.ahead ≡ after l.taken (to_come l.reader);
  there : l.taken ≤ length (to_come l.reader).numbers;
  most : l.taken ≤ l.m;
  told : l.told ≡ equal_to l.max (take l.taken (to_come l.reader).numbers);
  few : l.told ≤ l.taken;
  block : length l.block ≡ 1024;
}

abbrev pub decreases-loop-taken : goal.decreases-loop-taken
decreases-loop-taken l = l.m - l.taken
