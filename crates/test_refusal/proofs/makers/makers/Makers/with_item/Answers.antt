-- A line, or nothing.
use Rattle.std.proofs.Common.{List, ap, sym, subst, ◌++◌, ◌∷◌, []}
use Rattle.std.proofs.lemmas.Result.{IfOk-weaker}
use Rattle.py_syntax.specs.BlockTrees as tree
use Rattle.py_syntax.specs.BlockTrees.{view_module_item}
use Rattle.py_syntax.specs.declared.tree.ModuleItem as code
use Rattle.test_refusal.specs.Makers.SoFar.{StandsFor}
use Rattle.test_refusal.proofs.MakersLemmas.Items.{item_adds_nothing, stands_still}
use Rattle.test_refusal.proofs.makers.makers.Makers.with_item.Goals as goal

pub returns-in-Line : goal.returns-in-Line
returns-in-Line c =
    IfOk-weaker c.with_line.result _ (λ after. (xs : List tree.ModuleItem) → StandsFor xs c.args.self → StandsFor (xs ++ view_module_item c.args.item.now ∷ []) after)
    (λ after step xs old. subst (λ (i : code.ModuleItem). StandsFor (xs ++ view_module_item i ∷ []) after) (sym c.in-Line.is) (step xs c.in-Line.number.0 old))
    c.with_line.ensures

pub returns-in_default : goal.returns-in_default
returns-in_default c = λ xs old. stands_still xs (view_module_item c.args.item.now) c.args.self (item_adds_nothing c.args.item.now c.in_default.not-Line) old
