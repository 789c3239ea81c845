-- An option, tests, or nothing.
use Rattle.std.proofs.Common.{◌++◌, ◌∷◌, [], ℕ, List, ap, subst, sym, ◌∙◌}
use Rattle.std.proofs.lemmas.Result.{IfOk-weaker}
use Rattle.py_syntax.specs.BlockTrees as tree
use Rattle.py_syntax.specs.ModuleTrees.{view_module_line}
use Rattle.py_syntax.specs.declared.module.ModuleLine as code
use Rattle.test_refusal.specs.Makers.SoFar.{StandsFor}
use Rattle.test_refusal.proofs.MakersLemmas.Items.{line_adds_nothing, stands_still, stands_with_option, stands_with_tests}
use Rattle.test_refusal.proofs.makers.makers.Makers.with_line.Goals as goal

pub returns-in-AddOption : goal.returns-in-AddOption
returns-in-AddOption c =
    IfOk-weaker c.with_option.result _ (λ after. (xs : List tree.ModuleItem) (l : ℕ) → StandsFor xs c.args.self → StandsFor (xs ++ tree.LineAt l (view_module_line c.args.line.now) ∷ []) after)
    (λ after step xs l old. subst (λ (z : code.ModuleLine). StandsFor (xs ++ tree.LineAt l (view_module_line z) ∷ []) after) (sym c.in-AddOption.is)
    (stands_with_option xs l c.in-AddOption.factory c.in-AddOption.option c.in-AddOption.values.items c.bytes.result.now c.bytes-in-AddOption.result.now c.len.result c.args.self after
    c.bytes.ensures c.bytes-in-AddOption.ensures (c.len.ensures ∙ c.in-AddOption.values.ok.0) step old))
    c.with_option.ensures

pub returns-in-GenerateTests : goal.returns-in-GenerateTests
returns-in-GenerateTests c =
    IfOk-weaker c.with_tests.result _ (λ after. (xs : List tree.ModuleItem) (l : ℕ) → StandsFor xs c.args.self → StandsFor (xs ++ tree.LineAt l (view_module_line c.args.line.now) ∷ []) after)
    (λ after step xs l old. subst (λ (z : code.ModuleLine). StandsFor (xs ++ tree.LineAt l (view_module_line z) ∷ []) after) (sym c.in-GenerateTests.is)
    (stands_with_tests xs l c.in-GenerateTests.factory c.in-GenerateTests.field-1 c.in-GenerateTests.field-2 c.bytes-in-GenerateTests.result.now c.args.self after c.bytes-in-GenerateTests.ensures step old))
    c.with_tests.ensures

pub returns-in_default : goal.returns-in_default
returns-in_default c = λ xs l old.
    stands_still xs (tree.LineAt l (view_module_line c.args.line.now)) c.args.self (line_adds_nothing c.args.line.now c.in_default.not-AddOption c.in_default.not-GenerateTests l) old
