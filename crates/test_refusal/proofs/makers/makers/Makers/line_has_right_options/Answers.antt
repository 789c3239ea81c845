-- A line of a factory, or another one.
use Rattle.std.proofs.Common.{ℕ, List, ◌||◌, ◌∙◌, ap, sym}
use Rattle.py_syntax.specs.BlockTrees.{LineAt}
use Rattle.py_syntax.specs.ModuleTrees.{view_module_line}
use Rattle.py_syntax.specs.declared.module.ModuleLine as code
use Rattle.test_meaning.specs.Rules.File.{is_decorator, made_by}
use Rattle.test_meaning.specs.Rules.Rules.{has_right_options, is_complete, is_open_option}
use Rattle.test_names.specs.Scope.Around.{around_in, file_in}
use Rattle.test_refusal.proofs.MakersLemmas.Items.{other_line_is_right}
use Rattle.test_refusal.proofs.makers.makers.Makers.line_has_right_options.Goals as goal

pub returns-in-AddOption : goal.returns-in-AddOption
returns-in-AddOption c = λ l h.
    let f = file_in c.args.scope.now in
    let a = (around_in c.args.scope.now).above in
    c.is_open_option.ensures h
    ∙ ap (λ (y : List ℕ). is_open_option f a y c.bytes-in-AddOption.result.now (made_by a y)) c.bytes.ensures
    ∙ ap (λ (y : List ℕ). is_open_option f a c.in-AddOption.factory y (made_by a c.in-AddOption.factory)) c.bytes-in-AddOption.ensures
    ∙ ap (λ (z : code.ModuleLine). is_decorator (LineAt l (view_module_line z)) || has_right_options f a (LineAt l (view_module_line z))) (sym c.in-AddOption.is)

pub returns-in-GenerateTests : goal.returns-in-GenerateTests
returns-in-GenerateTests c = λ l h.
    let f = file_in c.args.scope.now in
    let a = (around_in c.args.scope.now).above in
    c.is_complete.ensures h
    ∙ ap (λ (y : List ℕ). is_complete f a y (made_by a y)) c.bytes-in-GenerateTests.ensures
    ∙ ap (λ (z : code.ModuleLine). is_decorator (LineAt l (view_module_line z)) || has_right_options f a (LineAt l (view_module_line z))) (sym c.in-GenerateTests.is)

pub returns-in_default : goal.returns-in_default
returns-in_default c = λ l h.
    other_line_is_right c.args.line.now c.in_default.not-AddOption c.in_default.not-GenerateTests (file_in c.args.scope.now) (around_in c.args.scope.now).above l
