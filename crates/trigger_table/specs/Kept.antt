-- A means of proof: how `Records` keeps its state.
use Rattle.std.specs.Prelude.{◌≡◌, ℕ, ◌<◌, List, map, filter, Option, Some, None, slice_index_or, IsSome}
use Rattle.trigger_table.specs.declared.rings.Rings.{Rings}
use Rattle.trigger_table.specs.Rings.{items, list_of, key_limit}
use Rattle.trigger_table.specs.Links.{is_list}
use Rattle.trigger_table.specs.State.{Row, Link, concat_by}
use Rattle.await_tree.specs.WaitList.Waiting.{Waiting}
use Rattle.await_tree.specs.Whole.{tree_in}
use Rattle.trigger_table.specs.declared.entries.TaskRecord.{TaskRecord}
use Rattle.trigger_table.specs.declared.entries.CauseRecord.{CauseRecord}

abbrev pub number_or_zero : Option ℕ → ℕ
number_or_zero None = 0
number_or_zero (Some n) = n

-- a waiter as a link
unfoldable pub link_of : Rings → ℕ → Link
link_of by_cause waiter = record { waiter = waiter; cause = number_or_zero (list_of by_cause waiter) }

-- the waiting task that a record is
abbrev pub kept_as : Option TaskRecord → Option Waiting
kept_as None = None
kept_as (Some kept) = Some (record { task = kept.task; tree = tree_in kept.tree })

unfoldable pub row_of : List (Option TaskRecord) → Rings → Rings → ℕ → Row
row_of tasks by_cause by_task number =
    record { number = number; entry = kept_as (slice_index_or tasks number None); links = map (link_of by_cause) (items by_task number) }

abbrev pub rows_of : List (Option TaskRecord) → Rings → Rings → Rings → List Row
rows_of tasks by_cause by_task order = map (row_of tasks by_cause by_task) (items order 0)

-- all waiters, task by task, from left to right
abbrev pub all_waiters : Rings → Rings → List ℕ
all_waiters by_task order = concat_by (items by_task) (items order 0)

pub record IsSound (causes : List (Option CauseRecord)) (tasks : List (Option TaskRecord)) (waiters : List (Option (Unit {0}))) (by_cause by_task order : Rings) : Type 0 where
  -- the chain has the tasks that are kept
  pub ordered : (number : ℕ) → IsSome (slice_index_or tasks number None) → list_of order number ≡ Some 0
  pub kept : (number list : ℕ) → list_of order number ≡ Some list → (list ≡ 0) × IsSome (slice_index_or tasks number None)
  -- each waiter has a task and a cause that are kept
  pub of_task : (waiter number : ℕ) → list_of by_task waiter ≡ Some number → IsSome (slice_index_or tasks number None) × IsSome (list_of by_cause waiter) × IsSome (slice_index_or waiters waiter None)
  pub of_cause : (waiter cause : ℕ) → list_of by_cause waiter ≡ Some cause → IsSome (slice_index_or causes cause None) × IsSome (list_of by_task waiter)
  -- there is room
  pub task_room : (number : ℕ) → IsSome (slice_index_or tasks number None) → number < key_limit by_task
  -- the chain of a cause has the waiters on it in order
  pub chains : (cause : ℕ) → items by_cause cause ≡ filter (λ waiter. is_list cause (list_of by_cause waiter)) (all_waiters by_task order)
