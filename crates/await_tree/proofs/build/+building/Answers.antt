use Rattle.std.proofs.Common.{rules, ◌≡◌, ◌+◌, ◌-◌, drop, arith}
use Rattle.std.specs.Prelude.{slice_get, Some}
use Rattle.py_value.specs.Trigger.{row}
use Rattle.await_tree.specs.Tree.{Then}
use Rattle.await_tree.specs.Check.{tree_of, all_trees}
use Rattle.await_tree.specs.Shape.{shape, shapes}
use Rattle.await_tree.proofs.Building.{next_trees}
use Rattle.await_tree.proofs.build.+building.Goals as goal

pub parts_of-loop-at-preserved : goal.parts_of-loop-at-preserved
parts_of-loop-at-preserved t c =
    let h : slice_get c.args.trigs.now.list.items (c.loop-at.at - 1) ≡ Some c.get.result.now = search rules in
    let e : shape c.in_ok-node_of.field-0 ≡ tree_of c.get.result.now c.args.now = search rules in
    let d : shapes c.loop-at.parts ≡ all_trees (row (drop c.loop-at.at c.args.trigs.now.list.items)) c.args.now = search rules in
    let v : shapes c.in_ok-parts.parts ≡ Then (shape c.in_ok-node_of.field-0) (shapes c.loop-at.parts) = search rules in
    let n : c.loop-at.at ≡ (c.loop-at.at - 1) + 1 = omega arith in (
      omega arith,
      next_trees c.args.trigs.now.list.items (c.loop-at.at - 1) c.loop-at.at c.get.result.now c.args.now (shape c.in_ok-node_of.field-0)
          (shapes c.loop-at.parts) (shapes c.in_ok-parts.parts) h n e d v,
    )
