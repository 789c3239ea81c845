use Rattle.port_io.specs.Means.{sink_means}
use Rattle.test_meaning.specs.Body.Views.{view_file}
use Rattle.command.proofs.Leaving.{shown_leaves}
use Rattle.command.proofs.top.answer.Goals as goal

pub returns-in-Ok-clause-kernel : goal.returns-in-Ok-clause-kernel
returns-in-Ok-clause-kernel g c =
    shown_leaves g.K.Gpi.is_loaded c.args.kernel.now c.run_shown.new.kernel c.in-Ok.ensures.loaded
    (sink_means g.O.Sink) c.args.options c.in-Runs.flat (view_file c.in-Runs.file) (g.K.Gpi.content c.run_shown.new.kernel) c.args.out.now c.run_shown.new.out
    c.args.options.shown c.in-Ok.status c.in-Ok.ensures.runs
