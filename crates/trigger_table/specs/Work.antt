-- A means of proof: how much there is to do, the waiting leaves of tasks, by which the steps of work are bounded.
use Rattle.std.specs.Prelude.{ℕ, ◌+◌, ◌*◌, List, [], ◌∷◌, filter, length, take}
use Rattle.gpi.specs.declared.types.Key.{Key}
use Rattle.py_value.specs.declared.trigger.LockNo.{LockNo}
use Rattle.py_value.specs.declared.trigger.TaskNo.{TaskNo}
use Rattle.await_tree.specs.Tree.{leaves}
use Rattle.await_tree.specs.Fire.{awaits, reach_of}
use Rattle.await_tree.specs.declared.cause.Cause.{Cause}
use Rattle.await_tree.specs.declared.cause.Cause.TheVariants as cause
use Rattle.await_tree.specs.WaitList.Waiting.{Waiting, is_of, still_waiting, wants}

-- how many leaves of these tasks wait
abbrev pub leaf_count : List Waiting → ℕ
leaf_count [] = 0
leaf_count (w ∷ ws) = length (leaves w.tree) + leaf_count ws

-- what waits of this task
abbrev pub of_task : TaskNo → List Waiting → List Waiting
of_task task waiting = filter (is_of task) waiting

-- the tasks that a cause reaches
abbrev pub reached_by : Cause → List Waiting → List Waiting
reached_by cause waiting = filter (λ (w : Waiting). awaits (reach_of cause) w.tree) waiting

-- the first of the tasks that wait for a lock
abbrev pub first_wanting : LockNo → List Waiting → List Waiting
first_wanting lock waiting = take 1 (filter (λ (w : Waiting). wants lock w.tree) waiting)

-- the most steps that it takes to serve keys in order: eight for each, and eight for each waiting leaf of the trees that it reaches
abbrev pub fired_work : List Key → List Waiting → ℕ
fired_work [] waiting = 0
fired_work (key ∷ keys) waiting = 8 * leaf_count (reached_by (cause.Key key) waiting) + 8 + fired_work keys (still_waiting (cause.Key key) waiting)
