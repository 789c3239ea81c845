-- A means of proof: what a list of waiting tasks keeps, for the proofs of the plain keeper of waiting tasks.
use Rattle.std.specs.Prelude.{List, map}
use Rattle.gpi.specs.declared.types.Key.{Key}
use Rattle.await_tree.specs.Whole.{tree_in}
use Rattle.await_tree.specs.WaitList.Waiting.{Waiting, named}
use Rattle.plain_waits.specs.declared.keeper.WaitList.{WaitList}
use Rattle.plain_waits.specs.declared.waiter.Waiter.{Waiter}

-- the waiting task that a value of the code is
abbrev pub waiting_of : Waiter → Waiting
waiting_of w = record { task = w.task; tree = tree_in w.tree }

abbrev pub waiting_in : WaitList → List Waiting
waiting_in kept = map waiting_of kept.waiting.items

-- the keys of the waiting tasks, and those that the runner itself holds
abbrev pub names_of : WaitList → List Key
names_of kept = named (waiting_in kept) kept.held.items
