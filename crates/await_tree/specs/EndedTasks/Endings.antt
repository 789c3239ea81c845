-- How the tasks of a test have ended, each by its number from 0 in the order in which they were started (cocotb 1.8, "Triggers", `Join`).
use Rattle.std.specs.Prelude.{Bool, true, false, ◌<◌, length, List, [], ◌∷◌, ◌++◌, map, Option, Some, None, is_some, slice_index_or, slice_set}
use Rattle.std.specs.Option.{option_map}
use Rattle.py_value.specs.declared.trigger.TaskNo.{TaskNo}
use Rattle.py_value.specs.declared.value.Value.TheVariants.{Absent}
use Rattle.await_tree.specs.declared.cause.Given.{Given}
use Rattle.await_tree.specs.declared.cause.Given.TheVariants as given
use Rattle.await_tree.specs.declared.ended_tasks.ending.Ending.{Ending}
use Rattle.await_tree.specs.declared.ended_tasks.ending.Ending.TheVariants.{Returned, Failed, Killed}
pub use Rattle.await_tree.specs.EndedTasks.Limits.{start_limit}

-- of each task that was started how it has ended; of one that lives nothing
abbrev pub Endings : Type 0
Endings = List (Option Ending)

abbrev pub ending_of : TaskNo → Endings → Option Ending
ending_of task endings = slice_index_or endings task.0 None

-- ---- starts and ends

-- a task that was started lives
abbrev pub with_task : Endings → Endings
with_task endings = endings ++ None ∷ []

abbrev pub with_ending : TaskNo → Ending → Endings → Endings
with_ending task ending endings = slice_set endings task.0 (Some ending)

-- ---- what is asked

abbrev pub is_done : TaskNo → Endings → Bool
is_done task endings = is_some (ending_of task endings)

abbrev pub is_failure : Ending → Bool
is_failure (Returned value) = false
is_failure (Failed fault) = true
is_failure Killed = false

-- of a task that has ended, whether it failed
abbrev pub failed_of : Option Ending → Option Bool
failed_of ending = option_map is_failure ending

abbrev pub failed : TaskNo → Endings → Option Bool
failed task endings = failed_of (ending_of task endings)

-- of each task whether it has ended, and of each that has whether it failed
abbrev pub all_done : Endings → List Bool
all_done endings = map is_some endings

abbrev pub all_failed : Endings → List (Option Bool)
all_failed endings = map failed_of endings

-- ---- joins

-- what a task is given that joins one that has ended so: a killed one gives None
abbrev pub given_of : Ending → Given
given_of (Returned value) = given.Value value
given_of (Failed fault) = given.Fault fault
given_of Killed = given.Value Absent

-- of a live one no join has a result, and None stands here
abbrev pub joined_given : Option Ending → Given
joined_given (Some ending) = given_of ending
joined_given None = given.Value Absent

abbrev pub joined : TaskNo → Endings → Given
joined task endings = joined_given (ending_of task endings)

-- what is given, with the result in the place of a join
abbrev pub told_given : Given → Endings → Given
told_given given.Begin endings = given.Begin
told_given (given.Value value) endings = given.Value value
told_given (given.Fault fault) endings = given.Fault fault
told_given (given.Joined task) endings = joined task endings

-- the task that is joined was started
abbrev pub HasStarted : Given → Endings → Type 0
HasStarted (given.Joined task) endings = task.0 < length endings
HasStarted _ endings = Unit {0}
