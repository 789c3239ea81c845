use Rattle.std.proofs.Common.{◌≡◌, take}
use Rattle.std.specs.List.{flat_map}
use Rattle.python_tests.specs.Trees.ModuleText.{spaced_name}
use Rattle.python_tests.proofs.trees.module.spaced_names.Given as goal

abbrev pub invariant-loop-name : goal.invariant-loop-name
invariant-loop-name l = l.text.items ≡ flat_map spaced_name (take l.name-index l.names)
