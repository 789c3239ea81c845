use Rattle.std.proofs.Common.{◌≡◌, ◌≤◌, length, drop}
use Rattle.await_tree.specs.Fire.{is_among}
use Rattle.plain_waits.proofs.named.has_leaf.Given as goal

abbrev pub invariant-back : goal.invariant-back
invariant-back l = record {
  inside : l.at ≤ length l.awaited;
  found : l.found ≡ is_among l.on (drop l.at l.awaited);
}

abbrev pub decreases-back : goal.decreases-back
decreases-back l = l.at
