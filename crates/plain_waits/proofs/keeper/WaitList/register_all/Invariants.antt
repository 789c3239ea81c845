use Rattle.std.proofs.Common.{◌≤◌, ◌-◌, ◌++◌, length, take}
use Rattle.await_tree.specs.WaitList.Keys.{Rekeyed}
use Rattle.await_tree.specs.WaitList.Waiting.{keys_among}
use Rattle.plain_waits.specs.Kept.{names_of}
use Rattle.plain_waits.proofs.keeper.WaitList.register_all.Given as goal

abbrev pub invariant-loop-at : goal.invariant-loop-at
invariant-loop-at g l = record {
  inside : l.at ≤ length l.awaited;
  loaded : g.K.Gpi.is_loaded l.kernel;
  keys : Rekeyed (g.K.Gpi.content l.fn.kernel) (g.K.Gpi.content l.kernel) (keys_among (take l.at l.awaited)) (names_of l.self) (keys_among l.awaited ++ names_of l.self);
}

abbrev pub decreases-loop-at : goal.decreases-loop-at
decreases-loop-at g l = length l.awaited - l.at
