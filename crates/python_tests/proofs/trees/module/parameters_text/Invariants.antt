use Rattle.std.proofs.Common.{◌≡◌, take}
use Rattle.std.specs.List.{flat_map}
use Rattle.python_tests.specs.Trees.ModuleText.{parameter_text}
use Rattle.python_tests.proofs.trees.module.parameters_text.Given as goal

abbrev pub invariant-loop-parameter : goal.invariant-loop-parameter
invariant-loop-parameter l = l.text.items ≡ flat_map parameter_text (take l.parameter-index l.parameters)
