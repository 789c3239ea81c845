use Rattle.std.proofs.Common.{◌≡◌, map, take}
use Rattle.std.specs.List.{flat_map}
use Rattle.py_syntax.specs.BlockTrees.{view_module_item}
use Rattle.python_tests.specs.Trees.ModuleText.{module_item_text}
use Rattle.python_tests.proofs.trees.module.items_text.Given as goal

abbrev pub invariant-loop-item : goal.invariant-loop-item
invariant-loop-item l = l.text.items ≡ flat_map module_item_text (map view_module_item (take l.item-index l.items))
