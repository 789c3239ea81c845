-- From an item to the next.
use Rattle.std.proofs.Common.{ap, map}
use Rattle.test_meaning.specs.Body.Views.{view_case}
use Rattle.test_file.specs.List.SoFar.{file_of_whole}
use Rattle.test_file.proofs.ListLemmas.Walked.{few_there, walked_all, walked_on}
use Rattle.test_file.proofs.list.walk.all_tests.Goals as goal

pub loop-item-init : goal.loop-item-init
loop-item-init c = record { above = c.nothing-above.ensures (file_of_whole c.args.whole.now); tests = ap (λ ts. map view_case ts) c.new-tests.ensures }

pub with_generated-requires : goal.with_generated-requires
with_generated-requires c =
    few_there c.args.whole.now c.loop-item.item-index c.item-item.result c.loop-item.above c.loop-item.tests c.loop-item-test.true c.item-item.is c.requires c.loop-item.invariant

pub loop-item-preserved : goal.loop-item-preserved
loop-item-preserved c =
    walked_on c.args.whole.now c.loop-item.item-index c.item-item.result c.loop-item.above _ c.loop-item.tests _ _
    c.loop-item-test.true c.item-item.is c.loop-item.invariant c.in_ok-tests.ensures c.in_ok-tests-2.ensures c.in_ok-above.ensures

pub returns : goal.returns
returns c = walked_all c.args.whole.now c.loop-item.item-index c.loop-item.above c.loop-item.tests c.loop-item-test.false c.loop-item.invariant
