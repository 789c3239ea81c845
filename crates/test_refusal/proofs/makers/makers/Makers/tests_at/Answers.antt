-- A line, or a function.
use Rattle.std.proofs.Common.{ap, sym, subst, ◌≡◌, ◌∙◌}
use Rattle.py_syntax.specs.BlockTrees.{block_of, view_module_item}
use Rattle.py_syntax.specs.declared.tree.ModuleItem as code
use Rattle.test_meaning.specs.Rules.File.{file_of}
use Rattle.test_meaning.specs.Rules.Rules.{tests_at}
use Rattle.test_refusal.specs.Makers.SoFar.{IsTestAt, cut}
use Rattle.test_refusal.proofs.MakersLemmas.Tells.{one_function}
use Rattle.test_refusal.proofs.makers.makers.Makers.tests_at.Goals as goal

pub returns-in-Line : goal.returns-in-Line
returns-in-Line c = λ f xs h test.
    c.tests_of_line.ensures f xs c.in-Line.number.0 h ∙ ap (λ (i : code.ModuleItem). cut (tests_at f (file_of xs) (view_module_item i))) (sym c.in-Line.is)

pub returns-in-Function : goal.returns-in-Function
returns-in-Function c = λ f xs h.
    subst (λ (i : code.ModuleItem). IsTestAt f xs (view_module_item i) c.args.is_test → c.one_or_none.result ≡ cut (tests_at f (file_of xs) (view_module_item i))) (sym c.in-Function.is)
    (one_function f xs c.in-Function.number.0 c.in-Function.name c.in-Function.parameters.items (block_of c.in-Function.body.items) c.args.is_test c.one_or_none.result c.one_or_none.ensures)
