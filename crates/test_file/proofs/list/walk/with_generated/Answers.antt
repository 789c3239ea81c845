-- The item's tests, or none.
use Rattle.std.proofs.Common.{◌≡◌, ◌++◌, List, map}
use Rattle.std.proofs.lemmas.Result.{IfOk-weaker}
use Rattle.py_syntax.specs.BlockTrees as tree
use Rattle.py_syntax.specs.BlockTrees.{view_module_item}
use Rattle.test_meaning.specs.Body.Views.{view_case}
use Rattle.test_meaning.specs.Rules.File.{file_of}
use Rattle.test_file.specs.List.SoFar.{IsAbove, file_of_whole, generated}
use Rattle.test_file.proofs.ListLemmas.Steps.{no_generation, with_generation}
use Rattle.test_file.proofs.list.walk.with_generated.Goals as goal

pub generated-requires : goal.generated-requires
generated-requires c = c.requires _ c.in-Some.ensures

pub returns-in_ok-cases-in-Some : goal.returns-in_ok-cases-in-Some
returns-in_ok-cases-in-Some c =
    IfOk-weaker c.joined.result _
    (λ more. (xs : List tree.ModuleItem) → IsAbove (file_of_whole c.args.whole.now) xs c.args.above.now
    → map view_case more ≡ map view_case c.args.tests ++ generated (file_of_whole c.args.whole.now) (file_of xs) (view_module_item c.args.item.now))
    (λ all e xs is. with_generation (file_of_whole c.args.whole.now) (file_of xs) (view_module_item c.args.item.now) _ c.args.tests c.in_ok-cases-in-Some.cases.items all c.in-Some.ensures e
    (c.in_ok-cases-in-Some.ensures xs is))
    c.joined.ensures

pub returns-in-None : goal.returns-in-None
returns-in-None c = λ xs is. no_generation (file_of_whole c.args.whole.now) (file_of xs) (view_module_item c.args.item.now) c.args.tests c.in-None.ensures
