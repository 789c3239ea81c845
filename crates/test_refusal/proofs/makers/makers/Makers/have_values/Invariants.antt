-- All parameters so far have values.
use Rattle.std.proofs.Common.{◌≡◌, drop}
use Rattle.std.specs.List.{list_all}
use Rattle.test_refusal.specs.Makers.SoFar.{has_value_in}
use Rattle.test_refusal.proofs.makers.makers.Makers.have_values.Given as goal

abbrev pub invariant-loop-parameter : goal.invariant-loop-parameter
invariant-loop-parameter l = list_all (has_value_in l.self l.factory) l.parameters ≡ list_all (has_value_in l.self l.factory) (drop l.parameter-index l.parameters)
