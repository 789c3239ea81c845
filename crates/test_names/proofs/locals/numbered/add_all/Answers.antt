-- One name more.
use Rattle.test_names.proofs.LocalsLemmas.Numbers.{found_more, all_found}
use Rattle.test_names.proofs.locals.numbered.add_all.Goals as goal

pub loop-name-preserved : goal.loop-name-preserved
loop-name-preserved c = found_more _ _ _ _ _ _ _ c.loop-name-test.true c.name-item.is c.bytes.ensures c.in_ok-names.ensures c.loop-name.invariant

pub returns : goal.returns
returns c = all_found _ _ _ _ c.loop-name-test.false c.loop-name.invariant
