use Rattle.std.proofs.Common.{◌≡◌, take}
use Rattle.std.specs.List.{flat_map}
use Rattle.python_tests.specs.Trees.StatementText.{spaced_kind}
use Rattle.python_tests.proofs.trees.statement.spaced_kinds.Given as goal

abbrev pub invariant-loop-kind : goal.invariant-loop-kind
invariant-loop-kind l = l.text.items ≡ flat_map spaced_kind (take l.kind-index l.kinds)
