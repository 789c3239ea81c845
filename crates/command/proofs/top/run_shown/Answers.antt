use Rattle.std.proofs.Common.{subst, sym}
use Rattle.test_meaning.specs.Body.Views.{view_file}
use Rattle.command.specs.Regression.Runs.{status_in}
use Rattle.port_io.specs.Means.{sink_means}
use Rattle.command.specs.declared.options.Shown.{Shown}
use Rattle.command.specs.Answer.{RunsShown}
use Rattle.command.proofs.VcdRuns.{shown_none}
use Rattle.command.proofs.top.run_shown.Goals as goal

pub returns-in_err-load-clause-runs : goal.returns-in_err-load-clause-runs
returns-in_err-load-clause-runs g c = shown_none (sink_means g.O.Sink) c.args.options _ _ c.args.options.shown _ _ _ c.from_residual.ensures.0

pub returns-in-LastLine-clause-runs : goal.returns-in-LastLine-clause-runs
returns-in-LastLine-clause-runs g c =
    subst (λ (shown : Shown). RunsShown shown (sink_means g.O.Sink) c.args.options c.args.flat.now (view_file c.args.file.now) (status_in c.run_last.result)
    (g.K.Gpi.content c.run_last.new.kernel) c.args.out.now c.run_last.new.out)
    (sym c.in-LastLine.is) c.run_last.ensures.runs
