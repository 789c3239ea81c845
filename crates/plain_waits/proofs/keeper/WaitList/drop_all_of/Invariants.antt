use Rattle.std.proofs.Common.{◌≡◌, ◌≤◌, ◌-◌, ◌++◌, length, take, drop}
use Rattle.await_tree.specs.WaitList.Waiting.{without_task}
use Rattle.plain_waits.specs.Kept.{names_of, waiting_in}
use Rattle.await_tree.specs.WaitList.Parts.{Narrows}
use Rattle.plain_waits.proofs.keeper.WaitList.drop_all_of.Given as goal

abbrev pub invariant-loop-at : goal.invariant-loop-at
invariant-loop-at g l = record {
  inside : l.at ≤ length (waiting_in l.self);
  waiting : take l.at (waiting_in l.self) ++ without_task l.task (drop l.at (waiting_in l.self)) ≡ without_task l.task (waiting_in l.fn.self);
  held : l.self.held ≡ l.fn.self.held;
  loaded : g.K.Gpi.is_loaded l.kernel;
  keys : Narrows (g.K.Gpi.content l.fn.kernel) (g.K.Gpi.content l.kernel) (names_of l.fn.self) (names_of l.self);
}

abbrev pub decreases-loop-at : goal.decreases-loop-at
decreases-loop-at g l = length (waiting_in l.self) - l.at
