use Rattle.std.proofs.Common.{◌≡◌, ◌≤◌, ◌+◌, ◌-◌, ◌++◌, length, take, drop}
use Rattle.await_tree.specs.Fire.{fire}
use Rattle.plain_waits.specs.Kept.{names_of, waiting_in}
use Rattle.await_tree.specs.WaitList.Parts.{Narrows}
use Rattle.plain_waits.specs.Parts.{left_after, woken_after}
use Rattle.plain_waits.proofs.keeper.WaitList.serve.Given as goal

abbrev pub invariant-loop-at : goal.invariant-loop-at
invariant-loop-at g l = record {
  inside : l.at ≤ length (waiting_in l.self);
  waiting : take l.at (waiting_in l.self) ++ left_after (fire l.cause) (drop l.at (waiting_in l.self)) ≡ left_after (fire l.cause) (waiting_in l.fn.self);
  ready : l.ready.entries ++ woken_after (fire l.cause) (drop l.at (waiting_in l.self)) ≡ l.fn.ready.entries ++ woken_after (fire l.cause) (waiting_in l.fn.self);
  room : length l.ready.entries + length (drop l.at (waiting_in l.self)) ≤ l.ready.room;
  same_room : l.ready.room ≡ l.fn.ready.room;
  held : l.self.held ≡ l.fn.self.held;
  loaded : g.K.Gpi.is_loaded l.kernel;
  keys : Narrows (g.K.Gpi.content l.fn.kernel) (g.K.Gpi.content l.kernel) (names_of l.fn.self) (names_of l.self);
}

abbrev pub decreases-loop-at : goal.decreases-loop-at
decreases-loop-at g l = length (waiting_in l.self) - l.at
