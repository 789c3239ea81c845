use Rattle.std.proofs.Common.{◌≡◌, ◌∙◌, ap, map}
use Rattle.task_core.specs.Code.Functions.{function_of}
use Rattle.plain_task.specs.Tree.{read_tree}
use Rattle.plain_task.specs.declared.functions.TreeFunctions.{TreeFunctions}
use Rattle.runner_tests.proofs.runner.plain.run_functions.Goals as goal

pub run_with-requires-clause-functions : goal.run_with-requires-clause-functions
run_with-requires-clause-functions g c = ap (λ (fs : TreeFunctions). map (function_of read_tree) fs.functions.items) c.new-maker.ensures ∙ c.requires.functions
