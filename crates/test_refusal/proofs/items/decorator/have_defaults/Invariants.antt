-- All parameters so far have defaults.
use Rattle.std.proofs.Common.{◌≡◌, drop}
use Rattle.test_meaning.specs.Rules.Rules.{have_defaults}
use Rattle.test_refusal.proofs.items.decorator.have_defaults.Given as goal

abbrev pub invariant-loop-parameter : goal.invariant-loop-parameter
invariant-loop-parameter l = have_defaults l.parameters ≡ have_defaults (drop l.parameter-index l.parameters)
