-- One case more.
use Rattle.std.proofs.Common.{◌<◌, ◌≤◌, ◌+◌, List, [], length, map, get_or, sym, ap, ◌∙◌, arith}
use Rattle.std.proofs.lemmas.Option.{slice_get-get_or}
use Rattle.test_meaning.specs.Body.Views.{view_case}
use Rattle.test_meaning.specs.declared.body.file.TestCase.{TestCase}
use Rattle.test_meaning.specs.Factory.Product.{product}
use Rattle.test_meaning.proofs.FactoryLemmas.Product.{count_is_length}
use Rattle.test_meaning.specs.Cases.{arguments, case_name, test_of}
use Rattle.test_meaning.specs.Rules.Names.{Name}
use Rattle.test_file.proofs.CasesLemmas.Numbers.{more_cases, all_cases}
use Rattle.test_file.proofs.cases.factories.factory_cases.Goals as goal

pub loop-number-preserved : goal.loop-number-preserved
loop-number-preserved g c = λ d of.
    let f = g.V.Values.file c.args.values.now in
    let css = product c.args.factory.now in
    let i = c.loop-number.number in
    let h : i < length css = omega (arith, c.loop-number-test.true, c.case_count-number-end.ensures, count_is_length c.args.factory.now) in
    ap (λ (xs : List TestCase). map view_case xs) c.in_ok-push.ensures.items
    ∙ more_cases f d c.args.prefix.now c.args.postfix.now css i c.loop-number.cases.items c.in_ok-case.case h (c.loop-number.invariant d of)
    (c.in_ok-case.ensures d of (get_or css i []) (slice_get-get_or css i [] h)
    ∙ ap (λ (n : Name). test_of f d n (arguments f d (get_or css i [])))
    (c.in_ok-name.ensures ∙ ap (λ (m : Name). case_name c.args.prefix.now m c.args.postfix.now (i + 1)) (sym of.name)))

pub returns : goal.returns
returns g c = λ d of.
    let css = product c.args.factory.now in
    let i = c.loop-number.number in
    let h : length css ≤ i = omega (arith, c.loop-number-test.false, c.case_count-number-end.ensures, count_is_length c.args.factory.now) in
    all_cases (g.V.Values.file c.args.values.now) d c.args.prefix.now c.args.postfix.now css i c.loop-number.cases.items h (c.loop-number.invariant d of)
