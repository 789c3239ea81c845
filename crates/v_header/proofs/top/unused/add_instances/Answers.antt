-- One more item, and all of them.
use Rattle.std.proofs.Common.{refl}
use Rattle.v_header.proofs.TopLemmas.Instances.{adding_none, adding_all, items_more, names_of_items}
use Rattle.v_header.proofs.top.unused.add_instances.Goals as goal

pub loop-item-init : goal.loop-item-init
loop-item-init c = adding_none names_of_items c.args.items.now c.args.names.now

pub loop-item-preserved : goal.loop-item-preserved
loop-item-preserved c =
    items_more c.args.items.now c.loop-item.item-index c.item-item.result c.args.names.now c.loop-item.names c.add_instance.new.names c.loop-item-test.true c.item-item.is
    c.in_ok-add_instance.ensures c.loop-item.invariant

pub returns : goal.returns
returns c = adding_all names_of_items c.args.items.now c.loop-item.item-index c.args.names.now c.loop-item.names refl c.loop-item-test.false c.loop-item.invariant
