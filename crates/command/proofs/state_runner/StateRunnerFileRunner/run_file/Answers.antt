use Rattle.port_io.specs.Means.{sink_means}
use Rattle.command.proofs.FileRuns.{file_none}
use Rattle.command.proofs.state_runner.StateRunnerFileRunner.run_file.Goals as goal

pub returns-in_err-program-clause-runs : goal.returns-in_err-program-clause-runs
returns-in_err-program-clause-runs g c = file_none (sink_means g.O.Sink) c.args.options _ _ _ _ _ c.from_residual.ensures.0
