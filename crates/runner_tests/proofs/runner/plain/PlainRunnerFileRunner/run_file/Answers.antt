use Rattle.port_io.specs.Means.{sink_means}
use Rattle.command.proofs.FileRuns.{file_none}
use Rattle.runner_tests.proofs.runner.plain.PlainRunnerFileRunner.run_file.Goals as goal

pub returns-in_err-functions-clause-runs : goal.returns-in_err-functions-clause-runs
returns-in_err-functions-clause-runs g c = file_none (sink_means g.O.Sink) c.args.options _ _ _ _ _ c.from_residual.ensures.0
