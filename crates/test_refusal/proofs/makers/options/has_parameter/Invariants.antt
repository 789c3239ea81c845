-- None of the parameters so far has the name.
use Rattle.std.proofs.Common.{◌≡◌, drop}
use Rattle.test_meaning.specs.Rules.Names.{is_among}
use Rattle.test_meaning.specs.Rules.Uses.{parameter_names}
use Rattle.test_refusal.proofs.makers.options.has_parameter.Given as goal

abbrev pub invariant-loop-parameter : goal.invariant-loop-parameter
invariant-loop-parameter l = is_among l.name (parameter_names l.parameters) ≡ is_among l.name (parameter_names (drop l.parameter-index l.parameters))
