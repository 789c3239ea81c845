use Rattle.std.proofs.Common.{◌≤◌, ◌-◌, ◌++◌, length, drop}
use Rattle.await_tree.specs.WaitList.Waiting.{keys_among}
use Rattle.plain_waits.specs.Kept.{names_of}
use Rattle.await_tree.specs.WaitList.Parts.{Narrows}
use Rattle.plain_waits.proofs.keeper.WaitList.let_go.Given as goal

abbrev pub invariant-loop-at : goal.invariant-loop-at
invariant-loop-at g l = record {
  inside : l.at ≤ length l.left;
  loaded : g.K.Gpi.is_loaded l.kernel;
  keys : Narrows (g.K.Gpi.content l.fn.kernel) (g.K.Gpi.content l.kernel) (keys_among l.left ++ names_of l.self) (keys_among (drop l.at l.left) ++ names_of l.self);
}

abbrev pub decreases-loop-at : goal.decreases-loop-at
decreases-loop-at g l = length l.left - l.at
