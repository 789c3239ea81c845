-- One factory more, or none.
use Rattle.std.proofs.Common.{List, [], ◌∷◌, ◌++◌}
use Rattle.std.proofs.lemmas.Result.{IfOk-weaker}
use Rattle.py_syntax.specs.BlockTrees as tree
use Rattle.py_syntax.specs.BlockTrees.{view_module_item}
use Rattle.test_file.specs.List.SoFar.{AreFactories}
use Rattle.test_file.proofs.ListLemmas.Steps.{factory_added, no_factory}
use Rattle.test_file.proofs.list.factories.with_maker.Goals as goal

pub returns-in-Some : goal.returns-in-Some
returns-in-Some c =
    IfOk-weaker c.with.result _
    (λ after. (xs : List tree.ModuleItem) → AreFactories xs c.args.factories → AreFactories (xs ++ view_module_item c.args.item.now ∷ []) after)
    (λ after step xs old. factory_added xs (view_module_item c.args.item.now) c.args.factories after c.in-Some.maker.name.now c.in-Some.maker.function old c.in-Some.ensures step)
    c.with.ensures

pub returns-in-None : goal.returns-in-None
returns-in-None c = λ xs old. no_factory xs (view_module_item c.args.item.now) c.args.factories c.in-None.ensures old
