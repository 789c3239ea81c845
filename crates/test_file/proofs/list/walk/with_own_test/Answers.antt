-- The function of the item, or none.
use Rattle.std.proofs.lemmas.Result.{IfOk-weaker}
use Rattle.std.proofs.Common.{◌≡◌, ◌++◌, Option, map, subst}
use Rattle.std.specs.Prelude.{option_copied}
use Rattle.py_syntax.specs.BlockTrees.{view_module_item}
use Rattle.test_meaning.specs.Body.Views.{view_case}
use Rattle.test_file.specs.declared.cases.factories.TestedFunction.{TestedFunction}
use Rattle.test_meaning.specs.Cases.{own_test}
use Rattle.test_file.specs.List.SoFar.{AreOne, file_of_whole, function_at}
use Rattle.test_file.proofs.ListLemmas.Steps.{decorated, no_own_test, own_tested}
use Rattle.test_file.proofs.list.walk.with_own_test.Goals as goal

pub returns-in-Some : goal.returns-in-Some
returns-in-Some c =
    let d = function_at c.args.above.now.count (option_copied c.args.above.now.settings) (view_module_item c.args.item.now) in
    IfOk-weaker c.with_test.result _
    (λ more. map view_case more ≡ map view_case c.args.tests ++ own_test (file_of_whole c.args.whole.now) d)
    (λ more step. own_tested (file_of_whole c.args.whole.now) d c.in-Some.function (option_copied c.args.above.now.settings) c.is_test-is_test.result (map view_case c.args.tests) (map view_case more)
    (subst (λ (v : Option TestedFunction). AreOne d v) c.in-Some.is c.function_at.ensures) (decorated c.args.above.now.count (option_copied c.args.above.now.settings) (view_module_item c.args.item.now)) c.is_test-is_test.ensures step)
    c.with_test.ensures

pub returns-in-None : goal.returns-in-None
returns-in-None c =
    let d = function_at c.args.above.now.count (option_copied c.args.above.now.settings) (view_module_item c.args.item.now) in
    no_own_test (file_of_whole c.args.whole.now) d (map view_case c.args.tests) (subst (λ (v : Option TestedFunction). AreOne d v) c.in-None.is c.function_at.ensures)
