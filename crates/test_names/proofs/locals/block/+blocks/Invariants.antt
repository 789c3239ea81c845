-- What the items so far assign has its places.
use Rattle.std.proofs.Common.{List, take}
use Rattle.std.specs.List.{flat_map}
use Rattle.py_syntax.specs.BlockTrees.{view_item}
use Rattle.test_meaning.specs.Rules.Names.{Name}
use Rattle.test_meaning.specs.Rules.Uses.{assigned_at}
use Rattle.test_names.specs.Locals.Own.{AreNumbered, with_names}
use Rattle.test_names.proofs.locals.block.+blocks.Given as goal

abbrev pub invariant-add_block-loop-item : goal.invariant-add_block-loop-item
invariant-add_block-loop-item l = (ns : List Name) → AreNumbered ns l.fn.before
    → AreNumbered (with_names ns (flat_map (λ x. assigned_at (view_item x)) (take l.item-index l.block))) l.names
