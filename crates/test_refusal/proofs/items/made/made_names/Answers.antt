-- One item more.
use Rattle.test_refusal.proofs.ItemsLemmas.Factories.{no_item, item_more, all_items}
use Rattle.test_refusal.proofs.items.made.made_names.Goals as goal

pub loop-item-init : goal.loop-item-init
loop-item-init c = no_item c.args.items.now _ c.new-names.ensures

pub loop-item-preserved : goal.loop-item-preserved
loop-item-preserved c = item_more _ _ _ _ _ c.loop-item-test.true c.item-item.is c.in_ok-names.ensures c.loop-item.invariant

pub returns : goal.returns
returns c = all_items _ _ _ c.loop-item-test.false c.loop-item.invariant
