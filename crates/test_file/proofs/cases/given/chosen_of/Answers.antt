-- One of them has the name, or none.
use Rattle.std.proofs.Common.{rules, ◌≡◌, sym, ap, ◌∙◌}
use Rattle.std.specs.Prelude.{option_map}
use Rattle.std.specs.Str.{bytes_eq}
use Rattle.test_file.proofs.CasesLemmas.Found.{chosen_found, found, nowhere}
use Rattle.test_file.proofs.cases.given.chosen_of.Goals as goal

pub returns-then-eq : goal.returns-then-eq
returns-then-eq c =
    let n = c.args.name.now in
    let e : c.eq.result ≡ bytes_eq c.choice-item.result.0 n = search rules in
    sym (chosen_found n c.args.case.now
    ∙ ap (λ o. option_map (λ x. x.1) o)
    (found (λ x. bytes_eq x.0 n) c.args.case.now c.loop-choice.choice-index c.choice-item.result c.eq.result c.loop-choice-test.true c.choice-item.is e c.if-eq.true
    c.loop-choice.invariant))

pub returns : goal.returns
returns c =
    let n = c.args.name.now in
    sym (chosen_found n c.args.case.now
    ∙ ap (λ o. option_map (λ x. x.1) o)
    (nowhere (λ x. bytes_eq x.0 n) c.args.case.now c.loop-choice.choice-index c.loop-choice-test.false c.loop-choice.invariant))
