-- The ring of ready tasks.
use Rattle.std.specs.Prelude.{ℕ, ◌==◌, Bool, not, List, filter}
use Rattle.std.specs.List.{list_any}
use Rattle.py_value.specs.declared.trigger.TaskNo.{TaskNo}
use Rattle.await_tree.specs.declared.wait_list.ready.Entry.{Entry}

-- its entries, the first of them first, and how many it has room for
pub record Ring : Type 0 where
  pub entries : List Entry
  pub room : ℕ

abbrev pub is_entry_of : TaskNo → Entry → Bool
is_entry_of task e = e.task.0 == task.0

-- the task has an entry
abbrev pub has_entry : TaskNo → List Entry → Bool
has_entry task es = list_any (is_entry_of task) es

-- the entries without those of the task
abbrev pub without_entry : TaskNo → List Entry → List Entry
without_entry task es = filter (λ (e : Entry). not (is_entry_of task e)) es
