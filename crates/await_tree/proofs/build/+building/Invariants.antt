use Rattle.std.proofs.Common.{◌≡◌, ◌+◌, ◌*◌, ◌≤◌, drop, length}
use Rattle.py_value.specs.Trigger.{row}
use Rattle.py_value.specs.TriggerCode as code
use Rattle.await_tree.specs.Check.{all_trees}
use Rattle.await_tree.specs.Shape.{shapes}
use Rattle.await_tree.proofs.build.+building.Given as goal

abbrev pub decreases-node_of : goal.decreases-node_of
decreases-node_of l = 3 * code.size l.trig.now + 3

abbrev pub decreases-first : goal.decreases-first
decreases-first l = 3 * code.row_size (row l.trigs.now.list.items) + 2

abbrev pub decreases-combine : goal.decreases-combine
decreases-combine l = 3 * code.row_size (row l.trigs.now.list.items) + 2

abbrev pub decreases-limit : goal.decreases-limit
decreases-limit l = 3 * code.row_size (row l.inner.now.list.items) + 2

abbrev pub decreases-parts_of : goal.decreases-parts_of
decreases-parts_of l = 3 * code.row_size (row l.trigs.now.list.items) + 1

-- the parts are the trees of the last triggers
abbrev pub invariant-parts_of-loop-at : goal.invariant-parts_of-loop-at
invariant-parts_of-loop-at l = (l.at ≤ length l.trigs.list.items) × (shapes l.parts ≡ all_trees (row (drop l.at l.trigs.list.items)) l.now)

abbrev pub decreases-parts_of-loop-at : goal.decreases-parts_of-loop-at
decreases-parts_of-loop-at l = l.at
