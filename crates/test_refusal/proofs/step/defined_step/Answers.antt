-- What is defined twice, and then the later rules.
use Rattle.std.proofs.Common.{◌&&◌, not, ◌∙◌, Option, ap, sym, subst}
use Rattle.test_names.specs.Duplicates.Twice.{IsBelow, Table}
use Rattle.test_refusal.specs.Items.Functions.{function_name}
use Rattle.test_meaning.specs.Rules.File.{is_function, is_made_name, line_of}
use Rattle.test_meaning.specs.Rules.Rules.{refused_at}
use Rattle.test_meaning.specs.declared.rules.rule.FileRule.{FileRule}
use Rattle.test_refusal.specs.Places.{file_of_whole, place_of}
use Rattle.test_refusal.proofs.Parts.{none_left, once_defined}
use Rattle.test_refusal.proofs.Steps.{tests_more}
use Rattle.test_refusal.proofs.step.defined_step.Goals as goal

pub returns-in-Some-later : goal.returns-in-Some-later
returns-in-Some-later c =
    once_defined (file_of_whole c.args.place.now.whole.now) (place_of c.args.place.now) (line_of (place_of c.args.place.now).item) c.in_ok-later.later (subst (λ (o : Option Table). IsBelow (place_of c.args.place.now).above (place_of c.args.place.now).item o) c.in-Some.is (c.in_ok-more.ensures (place_of c.args.place.now).above c.requires.seen.names)).0 c.in_ok-later.ensures
    ∙ ap (λ (o : Option FileRule). refused_at (line_of (place_of c.args.place.now).item) o) c.in-Some-later.is ∙ sym c.refusal-in-Some-later.ensures

pub below-requires-clause-has_tests : goal.below-requires-clause-has_tests
below-requires-clause-has_tests c =
    tests_more (file_of_whole c.args.place.now.whole.now) (place_of c.args.place.now).above (place_of c.args.place.now).item c.args.seen.has_tests
    (is_function (place_of c.args.place.now).item && (c.args.seen.is_decorated && not (is_made_name (file_of_whole c.args.place.now.whole.now) (function_name (place_of c.args.place.now).item)))) c.has_tests_so_far-has_tests.result
    c.requires.seen.has_tests (ap (λ d. is_function (place_of c.args.place.now).item && (d && not (is_made_name (file_of_whole c.args.place.now.whole.now) (function_name (place_of c.args.place.now).item)))) c.requires.seen.decorated)
    c.has_tests_so_far-has_tests.ensures

pub returns : goal.returns
returns c = (
  once_defined (file_of_whole c.args.place.now.whole.now) (place_of c.args.place.now) (line_of (place_of c.args.place.now).item) c.in_ok-later.later (subst (λ (o : Option Table). IsBelow (place_of c.args.place.now).above (place_of c.args.place.now).item o) c.in-Some.is (c.in_ok-more.ensures (place_of c.args.place.now).above c.requires.seen.names)).0 c.in_ok-later.ensures
      ∙ ap (λ (o : Option FileRule). refused_at (line_of (place_of c.args.place.now).item) o) (none_left c.in_ok-later.later c.in_default-later.not-Some),
  c.in_ok-next.ensures,
)
