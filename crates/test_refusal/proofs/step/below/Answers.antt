-- What the item adds.
use Rattle.test_refusal.proofs.ItemsLemmas.Functions.{decorated_by_last}
use Rattle.std.proofs.Common.{◌∙◌, sym}
use Rattle.test_refusal.specs.Places.{place_of}
use Rattle.test_refusal.proofs.step.below.Goals as goal

pub returns : goal.returns
returns c = record {
  names = c.requires.names;
  makers = c.in_ok-makers.ensures (place_of c.args.place.now).above c.requires.makers;
  tests = c.requires.tests;
  has_tests = c.requires.has_tests;
  decorated = c.is_decorator.ensures ∙ sym (decorated_by_last (place_of c.args.place.now).above (place_of c.args.place.now).item);
}
