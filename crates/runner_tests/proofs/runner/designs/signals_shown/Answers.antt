use Rattle.std.proofs.Common.{◌∙◌}
use Rattle.std.specs.Prelude.{string_bytes}
use Rattle.runner_tests.specs.Runner.Designs.{signal_word}
use Rattle.runner_tests.proofs.RunnerLemmas.Written.{more_written}
use Rattle.runner_tests.proofs.runner.designs.signals_shown.Goals as goal

pub loop-at-preserved : goal.loop-at-preserved
loop-at-preserved c =
    more_written signal_word c.args.signals.now c.loop-at.at c.get.result.now (string_bytes c.loop-at.text) c.deref.result.now _
    c.loop-at.invariant c.get.ensures (c.deref.ensures ∙ c.in_ok-signal_shown.ensures) c.in_ok-push_str.ensures.bytes
