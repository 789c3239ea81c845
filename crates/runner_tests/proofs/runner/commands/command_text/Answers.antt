use Rattle.std.specs.Prelude.{string_bytes}
use Rattle.runner_tests.proofs.RunnerLemmas.Shown.{command_shown}
use Rattle.runner_tests.proofs.runner.commands.command_text.Goals as goal

pub returns : goal.returns
returns g c =
    command_shown string_bytes c.args.row.now _ c.in_ok-ended.ended.0 c.in_ok-ended.ended.1 c.bytes.result.now
    c.in_ok-ended.ensures.ends c.bytes.ensures c.ended_text.result c.ended_text.ensures
