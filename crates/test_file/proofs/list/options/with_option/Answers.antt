-- One option more, or none.
use Rattle.std.proofs.Common.{List, [], ◌∷◌, ◌++◌}
use Rattle.std.proofs.lemmas.Result.{IfOk-weaker}
use Rattle.py_syntax.specs.BlockTrees as tree
use Rattle.py_syntax.specs.BlockTrees.{view_module_item}
use Rattle.test_meaning.specs.Rules.File.{File}
use Rattle.test_file.specs.List.SoFar.{AreOptions}
use Rattle.test_file.proofs.ListLemmas.Steps.{no_option, option_added}
use Rattle.test_file.proofs.list.options.with_option.Goals as goal

pub returns-in-Some : goal.returns-in-Some
returns-in-Some c =
    IfOk-weaker c.with_more.result _
    (λ after. (f : File) (xs : List tree.ModuleItem) → AreOptions f xs c.args.options → AreOptions f (xs ++ view_module_item c.args.item.now ∷ []) after)
    (λ after step f xs old. option_added f xs (view_module_item c.args.item.now) c.args.options after c.in-Some.extension.factory.now c.in-Some.extension.option old c.in-Some.ensures step)
    c.with_more.ensures

pub returns-in-None : goal.returns-in-None
returns-in-None c = λ f xs old. no_option f xs (view_module_item c.args.item.now) c.args.options c.in-None.ensures old
