-- A means of proof: what the code's arguments and calls stand for, for the proofs of a task's statements.
use Rattle.std.specs.Prelude.{List, map}
use Rattle.rig_model.specs.Task.Calls.{Argument, Called}
use Rattle.task_step.specs.declared.task_values.operands.Argument as code
use Rattle.task_step.specs.declared.task_values.call.Called as called

abbrev pub argument_in : code.Argument → Argument
argument_in x = record { parameter = x.parameter; value = x.value }

abbrev pub arguments_in : List code.Argument → List Argument
arguments_in xs = map argument_in xs

abbrev pub called_in : called.Called → Called
called_in c = record { function = c.function; arguments = c.arguments }
