use Rattle.port_io.specs.Means.{sink_means}
use Rattle.command.proofs.FileRuns.{file_none, few_cases, maker_sound, opens, engine_cases, engine_runs}
use Rattle.command.proofs.file_runner.run_with.Goals as goal

pub returns-in_err-engine-clause-runs : goal.returns-in_err-engine-clause-runs
returns-in_err-engine-clause-runs g c = file_none (sink_means g.O.Sink) c.args.options _ _ _ _ _ c.from_residual.ensures.0

pub run_all-requires-clause-fits : goal.run_all-requires-clause-fits
run_all-requires-clause-fits g c =
    let file = c.args.file.now in
    rw c.requires.opening (c.in_ok-engine.ensures.fits c.requires.flat (maker_sound file _ c.requires.functions c.requires.file))

pub run_all-requires-clause-opening : goal.run_all-requires-clause-opening
run_all-requires-clause-opening g c =
    let file = c.args.file.now in (
      c.args.options.seed,
      opens c.args.options c.args.flat.now file _ _ c.requires.functions c.in_ok-engine.ensures.setup
          (g.K.Gpi.content c.args.kernel.now) _ c.requires.opening (c.in_ok-engine.ensures.empty (g.K.Gpi.content c.args.kernel.now)),
    )

pub run_all-requires-clause-few : goal.run_all-requires-clause-few
run_all-requires-clause-few g c = few_cases c.args.file.now c.requires.file

pub run_all-requires-clause-sound : goal.run_all-requires-clause-sound
run_all-requires-clause-sound g c =
    let file = c.args.file.now in
    engine_cases c.args.options c.args.flat.now file _ _ c.requires.functions c.in_ok-engine.ensures.setup c.requires.file

pub returns-clause-runs : goal.returns-clause-runs
returns-clause-runs g c =
    let file = c.args.file.now in
    engine_runs c.args.options c.args.flat.now file _ _ c.requires.functions c.in_ok-engine.ensures.setup
    (sink_means g.O.Sink) c.run_all.result _ (g.K.Gpi.content c.run_all.new.kernel) c.args.out.now c.run_all.new.out
    (c.run_all.ensures.runs c.args.options.seed
    (opens c.args.options c.args.flat.now file _ _ c.requires.functions c.in_ok-engine.ensures.setup
    (g.K.Gpi.content c.args.kernel.now) _ c.requires.opening (c.in_ok-engine.ensures.empty (g.K.Gpi.content c.args.kernel.now))))
