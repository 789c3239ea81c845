-- What is known of the items so far, and their tests.
use Rattle.std.proofs.Common.{take}
use Rattle.test_file.proofs.ListLemmas.Walked.{HasWalked}
use Rattle.test_file.proofs.list.walk.all_tests.Given as goal

abbrev pub invariant-loop-item : goal.invariant-loop-item
invariant-loop-item l = HasWalked l.whole (take l.item-index l.whole.values.now.items.now) l.above l.tests
