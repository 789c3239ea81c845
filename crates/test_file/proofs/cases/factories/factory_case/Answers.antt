-- The case of a number, with its arguments.
use Rattle.std.proofs.Common.{List, map, ap, ◌∙◌}
use Rattle.std.specs.Prelude.{ℕ, slice_get}
use Rattle.py_syntax.specs.declared.constant.Const.{Const}
use Rattle.test_meaning.specs.Factory.Options.{chosen}
use Rattle.test_meaning.specs.Factory.Product.{product}
use Rattle.test_meaning.specs.Cases.{argument}
use Rattle.test_file.proofs.CasesLemmas.Numbers.{case_tested}
use Rattle.test_file.proofs.cases.factories.factory_case.Goals as goal

pub returns : goal.returns
returns g c =
    let f = g.V.Values.file c.args.values.now in
    case_tested c.test_case.result f c.args.function.now (slice_get (product c.args.factory.now) c.args.number) (map chosen c.in_ok-case.case.values.items) c.args.name
    c.in_ok-args.args c.in_ok-case.ensures
    (c.in_ok-args.ensures ∙ ap (λ (xs : List (List ℕ × Const)). map (argument f (map chosen xs)) c.args.function.now.further.now) c.deref.ensures.value)
    c.test_case.ensures
