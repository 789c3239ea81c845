-- The limit and what else is found in an item.
use Rattle.std.proofs.Common.{ap, ◌∙◌}
use Rattle.v_syntax.specs.SourceTrees.{view_kind}
use Rattle.v_elab.specs.ItemsSteps.{leaves_room}
use Rattle.v_elab.proofs.Ends.{item_ends}
use Rattle.v_elab.proofs.items.item.Goals as goal

pub returns : goal.returns
returns c =
    let k = view_kind c.args.item.now.kind in
    item_ends c.args.timing c.args.item.now.at k c.args.state c.has_room-has_room.result c.in_ok-found.found c.wants.result c.ended.result
    (c.has_room-has_room.ensures ∙ ap (λ n. leaves_room k n) c.len.ensures) c.in_ok-found.ensures c.wants.ensures c.ended.ensures
