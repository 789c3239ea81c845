-- The items, one after another.
use Rattle.std.proofs.Common.{map}
use Rattle.v_syntax.specs.SourceTrees.{view_item}
use Rattle.v_flat.specs.Scope.Scope.{means}
use Rattle.v_flat.specs.Headers.{names_in}
use Rattle.v_header.specs.Names.{and_later}
use Rattle.v_header.proofs.LaterNames.{item_turn, items_done}
use Rattle.v_header.proofs.names.declare_items.Goals as goal

pub loop-item-preserved : goal.loop-item-preserved
loop-item-preserved c =
    item_turn c.args.items.now c.loop-item.item-index (and_later (names_in (map view_item c.args.items.now)) (means c.args.scope.now))
    c.item-item.result (means c.loop-item.scope) (means c.declare_item.new.scope)
    c.loop-item-test.true c.item-item.is c.in_ok-declare_item.ensures c.loop-item.invariant

pub returns : goal.returns
returns c =
    items_done c.args.items.now c.loop-item.item-index (and_later (names_in (map view_item c.args.items.now)) (means c.args.scope.now))
    (means c.loop-item.scope) c.loop-item-test.false c.loop-item.invariant
