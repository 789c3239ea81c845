use Rattle.std.proofs.Common.{rules, ◌≡◌, ◌<◌, slice_get, Some, None, length, arith}
use Rattle.gpi.proofs.Trees.{parents_inside, tree_by, read, none_is, some_if}
use Rattle.gpi.proofs.parents.is_tree_by.Goals as goal

pub are_rooted-requires-clause-inside : goal.are_rooted-requires-clause-inside
are_rooted-requires-clause-inside c = parents_inside c.args.nodes.now c.note_parents.new.parents c.note_parents.ensures.count (c.note_parents.ensures.is (search rules))

pub returns-then-is_none : goal.returns-then-is_none
returns-then-is_none c =
    let some : 0 < length c.args.nodes.now = some_if c.args.nodes.now c.is_empty.result c.is_empty.ensures c.if-is_empty.false in
    let l : 0 < length c.note_parents.new.parents = omega (arith, some, c.note_parents.ensures.count) in
    let root : slice_get c.note_parents.new.parents 0 ≡ Some None = read c.note_parents.new.parents 0 None l (none_is _ c.is_none.result c.is_none.ensures c.if-is_none.true) in
    tree_by c.args.nodes.now c.note_parents.new.parents c.are_rooted.result some c.note_parents.ensures.count (c.note_parents.ensures.is (search rules)) root c.are_rooted.ensures
