use Rattle.std.proofs.Common.{◌≡◌, take}
use Rattle.std.specs.List.{flat_map}
use Rattle.design_tests.specs.Elaboration.Runs.{value_text}
use Rattle.design_tests.proofs.elaboration.values.values_text.Given as goal

abbrev pub invariant-loop-number : goal.invariant-loop-number
invariant-loop-number g l = l.text.items ≡ flat_map value_text (take l.number (g.K.Gpi.content l.kernel).state.signals)
