-- A means of proof: what records are named by.
use Rattle.std.specs.Prelude.{◌≡◌, ℕ, Bool, List, Option, Some, None, slice_index_or}
use Rattle.await_tree.specs.declared.cause.Awaited.{Awaited}
use Rattle.py_value.specs.declared.trigger.TaskNo.{TaskNo}
use Rattle.trigger_table.specs.declared.entries.CauseRecord.{CauseRecord}
use Rattle.trigger_table.specs.declared.entries.TaskRecord.{TaskRecord}
use Rattle.trigger_table.specs.declared.name.Name.{Name}
use Rattle.await_tree.specs.Steps.{rest_of, step_of}
use Rattle.await_tree.specs.Tree as tree
use Rattle.await_tree.specs.Whole.{tree_in}
use Rattle.await_tree.specs.declared.cause.Step.{Step}
use Rattle.trigger_table.specs.Indexed.{Sets}
use Rattle.trigger_table.specs.Name.{name_of}

abbrev pub cause_name : CauseRecord → Name
cause_name cause = name_of cause.on

abbrev pub task_name : TaskRecord → ℕ
task_name task = task.task.0

-- the record of this number is that of what is awaited
abbrev pub HasCause : List (Option CauseRecord) → ℕ → Awaited → Type 0
HasCause slots number on = (held : Bool) × (slice_index_or slots number None ≡ Some (record { on = on; held = held }))

-- the record of this number is that of the task
abbrev pub HasTask : List (Option TaskRecord) → ℕ → TaskNo → Type 0
HasTask slots number task = (kept : TaskRecord) × (slice_index_or slots number None ≡ Some kept) × (kept.task ≡ task)

-- The tree of the record of this number was told something, and came to this: it has answered, and its rest is kept.
pub record Told (old new : List (Option TaskRecord)) (number : ℕ) (task : TaskNo) (came : tree.Tree) (answer : Step) : Type 0 where
  pub kept : TaskRecord
  pub answers : answer ≡ step_of came
  pub of : kept.task ≡ task
  pub rest : tree_in kept.tree ≡ rest_of came
  pub sets : Sets old new number (Some kept)
