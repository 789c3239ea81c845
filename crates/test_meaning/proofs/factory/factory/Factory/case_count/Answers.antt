use Rattle.test_meaning.proofs.FactoryLemmas.Product.{counted_at}
use Rattle.test_meaning.proofs.factory.factory.Factory.case_count.Goals as goal

pub loop-option-preserved : goal.loop-option-preserved
loop-option-preserved c = record {
  counted = counted_at c.deref-option-items.result.now c.loop-option.option-index c.loop-option.count c.value_count.result
      c.saturating_mul-count.result c.option-item.result _ _ c.loop-option-test.true c.option-item.is c.value_count.ensures
      c.saturating_mul-count.ensures c.loop-option.invariant.counted;
  few = c.loop-option.invariant.few;
}
