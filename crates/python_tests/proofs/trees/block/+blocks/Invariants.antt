use Rattle.std.proofs.Common.{◌≡◌, take}
use Rattle.std.specs.List.{flat_map}
use Rattle.py_syntax.specs.BlockTrees.{view_item}
use Rattle.python_tests.specs.Trees.ModuleText.{item_text}
use Rattle.python_tests.proofs.trees.block.+blocks.Given as goal

abbrev pub invariant-block_text-loop-item : goal.invariant-block_text-loop-item
invariant-block_text-loop-item l = l.text.items ≡ flat_map (λ x. item_text (view_item x)) (take l.item-index l.block)
