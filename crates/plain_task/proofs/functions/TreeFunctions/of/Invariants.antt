use Rattle.std.proofs.Common.{◌≡◌, map, take}
use Rattle.test_meaning.specs.Body.Views.{view_function}
use Rattle.task_core.specs.Code.Functions.{function_of}
use Rattle.plain_task.specs.Tree.{read_tree}
use Rattle.plain_task.proofs.functions.TreeFunctions.of.Given as goal

-- the functions so far
abbrev pub invariant-loop-at : goal.invariant-loop-at
invariant-loop-at l = map (function_of read_tree) l.functions.items ≡ map view_function (take l.at l.file.functions)
