use Rattle.std.proofs.Common.{◌≡◌, ◌≤◌, length, drop}
use Rattle.gpi.specs.Keys.{among}
use Rattle.plain_waits.proofs.keeper.WaitList.is_held.Given as goal

abbrev pub invariant-back : goal.invariant-back
invariant-back l = record {
  inside : l.at ≤ length l.self.held.items;
  found : l.found ≡ among l.key (drop l.at l.self.held.items);
}

abbrev pub decreases-back : goal.decreases-back
decreases-back l = l.at
