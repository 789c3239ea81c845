-- The items, one after another.
use Rattle.std.proofs.Common.{◌++◌, map}
use Rattle.v_syntax.specs.SourceTrees.{view_item}
use Rattle.v_flat.specs.Headers.{item_parameters}
use Rattle.v_header.specs.Parameters.{parameters_in}
use Rattle.v_header.proofs.ParameterLaws.{item_turn, items_done}
use Rattle.v_header.proofs.parameters.add_items.Goals as goal

pub loop-item-preserved : goal.loop-item-preserved
loop-item-preserved c =
    item_turn c.args.items.now c.loop-item.item-index (parameters_in c.args.found.now.items ++ item_parameters (map view_item c.args.items.now))
    (parameters_in c.loop-item.found.items) c.loop-item.invariant c.item-item.result (parameters_in c.add_item.new.found.items)
    c.loop-item-test.true c.item-item.is c.in_ok-add_item.ensures

pub returns : goal.returns
returns c =
    items_done c.args.items.now c.loop-item.item-index (parameters_in c.args.found.now.items ++ item_parameters (map view_item c.args.items.now))
    (parameters_in c.loop-item.found.items) c.loop-item.invariant c.loop-item-test.false
