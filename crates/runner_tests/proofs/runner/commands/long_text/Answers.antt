use Rattle.std.proofs.Common.{subst}
use Rattle.std.specs.Prelude.{codes, string_bytes}
use Rattle.port_io.specs.Memory.{Files}
use Rattle.runner_tests.specs.Runner.Commands.{Ends}
use Rattle.runner_tests.specs.Runner.Files.{sink_failing}
use Rattle.runner_tests.proofs.RunnerLemmas.Shown.{long_shown}
use Rattle.runner_tests.proofs.runner.commands.long_text.Goals as goal

pub returns : goal.returns
returns g c =
    long_shown string_bytes c.args.row.now (g.K.Gpi.content c.ended.new.kernel) c.in_ok-ended.ended.0 c.in_ok-ended.ended.1 c.bytes.result.now
    (subst (λ (s : Files). Ends (codes "d.v t.py") s (sink_failing 0) (g.K.Gpi.content c.ended.new.kernel) c.in_ok-ended.ended.0 c.in_ok-ended.ended.1)
    c.in_ok-store.ensures c.in_ok-ended.ensures.ends)
    c.bytes.ensures c.ended_text.result c.ended_text.ensures
