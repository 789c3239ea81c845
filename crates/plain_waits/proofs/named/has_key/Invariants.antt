use Rattle.std.proofs.Common.{◌≡◌, ◌≤◌, length, drop}
use Rattle.gpi.specs.Keys.{among}
use Rattle.await_tree.specs.WaitList.Waiting.{keys_among}
use Rattle.plain_waits.proofs.named.has_key.Given as goal

abbrev pub invariant-back : goal.invariant-back
invariant-back l = record {
  inside : l.at ≤ length l.awaited;
  found : l.found ≡ among l.key (keys_among (drop l.at l.awaited));
}

abbrev pub decreases-back : goal.decreases-back
decreases-back l = l.at
