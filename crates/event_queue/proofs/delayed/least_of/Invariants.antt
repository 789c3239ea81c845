use Rattle.std.proofs.Common.{◌≡◌, ◌≤◌, length, drop}
use Rattle.gpi.specs.Keys.{least}
use Rattle.gpi.specs.State.{delayed_times}
use Rattle.event_queue.proofs.delayed.least_of.Given as goal

abbrev pub invariant-loop-at : goal.invariant-loop-at
invariant-loop-at l = record {
  inside : l.at ≤ length l.fresh.items;
  found : l.found ≡ least (delayed_times (drop l.at l.fresh.items));
}

abbrev pub decreases-loop-at : goal.decreases-loop-at
decreases-loop-at l = l.at
