use Rattle.std.proofs.Common.{◌≡◌, ◌++◌, drop}
use Rattle.std.specs.List.{flat_map}
use Rattle.std.specs.Prelude.{string_bytes}
use Rattle.runner_tests.specs.Runner.Designs.{signal_word}
use Rattle.runner_tests.proofs.runner.designs.signals_shown.Given as goal

abbrev pub invariant-loop-at : goal.invariant-loop-at
invariant-loop-at l = string_bytes l.text ++ flat_map signal_word (drop l.at l.signals) ≡ flat_map signal_word l.signals
