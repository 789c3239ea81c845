use Rattle.std.specs.Prelude.{string_bytes}
use Rattle.runner_tests.proofs.RunnerLemmas.Shown.{kept_shown}
use Rattle.runner_tests.proofs.runner.commands.kept_text.Goals as goal

pub returns : goal.returns
returns g c =
    kept_shown g.K.Gpi.content g.K.Gpi.is_loaded string_bytes c.args.row.now c.args.kernel.now c.row_ended.new.kernel c.in_ok-ended.ended.0 c.in_ok-ended.ended.1 c.bytes.result.now
    c.in_ok-ended.ensures.ends c.in_ok-ended.ensures.leaves c.bytes.ensures c.counted_text.result c.counted_text.ensures
