use Rattle.std.proofs.Common.{◌≡◌, ◌≤◌, false, length, drop}
use Rattle.gpi.specs.Keys.{among}
use Rattle.await_tree.specs.WaitList.Waiting.{keys_of}
use Rattle.plain_waits.specs.Kept.{waiting_in}
use Rattle.plain_waits.proofs.keeper.WaitList.is_waited.Given as goal

abbrev pub invariant-back : goal.invariant-back
invariant-back l = record {
  inside : l.at ≤ length l.self.waiting.items;
  none : among l.key (keys_of (drop l.at (waiting_in l.self))) ≡ false;
}

abbrev pub decreases-back : goal.decreases-back
decreases-back l = l.at
