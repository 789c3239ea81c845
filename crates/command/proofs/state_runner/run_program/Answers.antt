use Rattle.port_io.specs.Means.{sink_means}
use Rattle.command.proofs.FileRuns.{file_none, program_functions}
use Rattle.command.proofs.state_runner.run_program.Goals as goal

pub returns-in_err-functions-clause-runs : goal.returns-in_err-functions-clause-runs
returns-in_err-functions-clause-runs g c = file_none (sink_means g.O.Sink) c.args.options _ _ _ _ _ c.from_residual.ensures.0

pub run_with-requires-clause-functions : goal.run_with-requires-clause-functions
run_with-requires-clause-functions g c =
    program_functions c.args.file.now c.args.program.now _ c.new-maker.result.functions.now c.new-maker.ensures c.in_ok-functions.ensures c.requires.program
