-- A means of proof: which results of joins take memory where they are copied, values that do and faults, for the proofs of a test's tasks
-- that have ended.
use Rattle.std.specs.Prelude.{Bool, true, false, IsTrue, Option, Some, None}
use Rattle.py_value.specs.Memory.{copy_takes_memory}
use Rattle.py_value.specs.declared.trigger.TaskNo.{TaskNo}
use Rattle.await_tree.specs.declared.cause.Given.{Given}
use Rattle.await_tree.specs.declared.cause.Given.TheVariants as given
use Rattle.await_tree.specs.declared.ended_tasks.ending.Ending.{Ending}
use Rattle.await_tree.specs.declared.ended_tasks.ending.Ending.TheVariants.{Returned, Failed, Killed}
use Rattle.await_tree.specs.EndedTasks.Endings.{Endings, ending_of}

abbrev pub takes_memory : Ending → Bool
takes_memory (Returned value) = copy_takes_memory value
takes_memory (Failed fault) = true
takes_memory Killed = false

abbrev pub any_takes_memory : Option Ending → Bool
any_takes_memory (Some ending) = takes_memory ending
any_takes_memory None = false

abbrev pub join_takes_memory : TaskNo → Endings → Bool
join_takes_memory task endings = any_takes_memory (ending_of task endings)

-- memory may be wanting for what is given
abbrev pub IsWant : Given → Endings → Type 0
IsWant (given.Joined task) endings = IsTrue (join_takes_memory task endings)
IsWant _ endings = ⊥
