use Rattle.std.proofs.Common.{◌≡◌, take}
use Rattle.std.specs.List.{flat_map}
use Rattle.design_tests.specs.Elaboration.Runs.{path_text}
use Rattle.design_tests.proofs.elaboration.values.paths_text.Given as goal

abbrev pub invariant-loop-number : goal.invariant-loop-number
invariant-loop-number l = l.text.items ≡ flat_map path_text (take l.number l.signals)
