use Rattle.std.proofs.Common.{◌≡◌, map, take}
use Rattle.std.specs.List.{flat_map}
use Rattle.py_syntax.specs.StatementTrees.{view_argument}
use Rattle.python_tests.specs.Trees.CallText.{argument_text}
use Rattle.python_tests.proofs.trees.call.arguments_text.Given as goal

abbrev pub invariant-loop-argument : goal.invariant-loop-argument
invariant-loop-argument l = l.text.items ≡ flat_map argument_text (map view_argument (take l.argument-index l.arguments))
