-- A test more, or none.
use Rattle.test_file.proofs.ListLemmas.Steps.{not_pushed, test_pushed}
use Rattle.test_file.proofs.list.walk.with_test.Goals as goal

pub returns-in_ok-push : goal.returns-in_ok-push
returns-in_ok-push c = λ d of. test_pushed c.args.is_test c.args.tests _ c.in_ok-case.case _ c.if-is_test.true c.in_ok-push.ensures.ok (c.in_ok-case.ensures d of)

pub returns-else-is_test : goal.returns-else-is_test
returns-else-is_test c = λ d of. not_pushed c.args.is_test c.args.tests _ c.if-is_test.false
