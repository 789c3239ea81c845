-- The factory's function, or none.
use Rattle.std.proofs.Common.{◌≡◌, ◌≤◌, ◌∙◌, List, Option, ap, map, subst, sym}
use Rattle.std.proofs.lemmas.Result.{IfOk-weaker}
use Rattle.py_syntax.specs.BlockTrees as tree
use Rattle.test_meaning.specs.Body.Views.{view_case}
use Rattle.test_file.specs.declared.cases.factories.TestedFunction.{TestedFunction}
use Rattle.test_meaning.specs.Factory.Product.{case_count, case_limit}
use Rattle.test_meaning.specs.Rules.File.{choices, file_of, made_by}
use Rattle.test_file.specs.List.SoFar.{AreOne, IsAbove, choice_in, file_of_whole, tests_of}
use Rattle.test_file.specs.declared.list.options.AddedOption.{AddedOption}
use Rattle.test_file.proofs.ListLemmas.Steps.{generated_of, generates_nothing}
use Rattle.std.specs.Prelude.{option_copied}
use Rattle.test_file.proofs.list.walk.generated.Goals as goal

pub factory-requires : goal.factory-requires
factory-requires c =
    subst (λ (os : List AddedOption). case_count (map (choice_in (file_of_whole c.args.whole.now)) os) ≤ case_limit) (sym c.list-options.ensures) c.requires

pub returns-in_ok-factory-in-Some : goal.returns-in_ok-factory-in-Some
returns-in_ok-factory-in-Some c =
    let f = file_of_whole c.args.whole.now in
    let g = c.args.generation.now in
    IfOk-weaker c.factory_cases.result _
    (λ cases. (xs : List tree.ModuleItem) → IsAbove f xs c.args.above.now
    → map view_case cases.items ≡ tests_of f (file_of xs) (record { factory = g.factory.now; prefix = g.prefix.now; postfix = g.postfix.now }))
    (λ cases step xs is. generated_of f g.prefix.now g.postfix.now (choices f (file_of xs) g.factory.now) _ (made_by (file_of xs) g.factory.now) c.in-Some.function.now (map view_case cases.items)
    (subst (λ (v : Option TestedFunction). AreOne (made_by (file_of xs) g.factory.now) v) (ap (λ o. option_copied o) c.in-Some.is) (c.made_by.ensures f xs is))
    (is.options g.factory.now ∙ sym (c.in_ok-factory-in-Some.ensures ∙ ap (λ (os : List AddedOption). map (choice_in f) os) c.list-options.ensures)) step)
    c.factory_cases.ensures

pub returns-in-None : goal.returns-in-None
returns-in-None c = λ xs is.
    let f = file_of_whole c.args.whole.now in
    let g = c.args.generation.now in
    generates_nothing f g.prefix.now g.postfix.now (choices f (file_of xs) g.factory.now) (made_by (file_of xs) g.factory.now) _
    (subst (λ (v : Option TestedFunction). AreOne (made_by (file_of xs) g.factory.now) v) (ap (λ o. option_copied o) c.in-None.is) (c.made_by.ensures f xs is))
    (ap (λ l. map view_case l) c.new.ensures.items)
