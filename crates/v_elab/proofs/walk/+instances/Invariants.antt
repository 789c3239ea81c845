-- The levels that may stand below, and the items that are left.
use Rattle.std.proofs.Common.{◌+◌, ◌*◌, drop, map}
use Rattle.v_syntax.specs.SourceTrees.{view_item}
use Rattle.v_elab.proofs.Passed.{IsLeft}
use Rattle.v_elab.proofs.walk.+instances.Given as goal

abbrev pub decreases-instance : goal.decreases-instance
decreases-instance l = l.level.now.room * 3 + 2

abbrev pub decreases-items : goal.decreases-items
decreases-items l = l.level.now.room * 3 + 1

abbrev pub decreases-one_item : goal.decreases-one_item
decreases-one_item l = l.level.now.room * 3

abbrev pub invariant-items-loop-item : goal.invariant-items-loop-item
invariant-items-loop-item l = IsLeft l.level (map view_item l.items) (map view_item (drop l.item-index l.items)) l.fn.walked l.walked
