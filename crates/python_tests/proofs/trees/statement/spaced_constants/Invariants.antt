use Rattle.std.proofs.Common.{◌≡◌, take}
use Rattle.std.specs.List.{flat_map}
use Rattle.python_tests.specs.Trees.StatementText.{spaced_constant}
use Rattle.python_tests.proofs.trees.statement.spaced_constants.Given as goal

abbrev pub invariant-loop-constant : goal.invariant-loop-constant
invariant-loop-constant l = l.text.items ≡ flat_map spaced_constant (take l.constant-index l.constants)
