use Rattle.std.proofs.Common.{◌≡◌, ◌≤◌, length, drop}
use Rattle.std.specs.Prelude.{filter}
use Rattle.await_tree.specs.Fire.{awaits}
use Rattle.await_tree.specs.WaitList.Waiting.{Waiting}
use Rattle.plain_waits.specs.Kept.{waiting_in}
use Rattle.plain_waits.proofs.keeper.WaitList.reached.Given as goal

abbrev pub invariant-back : goal.invariant-back
invariant-back l = record {
  inside : l.at ≤ length l.self.waiting.items;
  count : l.count ≡ length (filter (λ (w : Waiting). awaits l.on w.tree) (drop l.at (waiting_in l.self)));
}

abbrev pub decreases-back : goal.decreases-back
decreases-back l = l.at
