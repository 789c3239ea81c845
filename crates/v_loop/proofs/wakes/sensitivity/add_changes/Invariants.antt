-- The wakes that are added so far.
use Rattle.std.proofs.Common.{◌≡◌, ◌-◌, ◌≤◌, ◌++◌, map, max}
use Rattle.std.specs.List.{range_with_len}
use Rattle.v_flat.specs.Design.{any_change}
use Rattle.v_loop.proofs.wakes.sensitivity.add_changes.Given as goal

abbrev pub invariant-loop-number : goal.invariant-loop-number
invariant-loop-number l = record {
  added : l.wakes ≡ l.initial.wakes ++ map any_change (range_with_len l.from (l.number - l.from));
  from : l.from ≤ l.number;
  to : l.number ≤ max l.from l.to;
}
