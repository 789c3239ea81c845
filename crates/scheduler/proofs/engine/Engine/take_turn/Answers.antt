use Rattle.port_io.specs.Means.{sink_means}
use Rattle.scheduler.specs.Parts.{means}
use Rattle.scheduler.proofs.EventTurns.{short_turning}
use Rattle.scheduler.proofs.Fitting.{keeps_all, taken_known, taken_turning}
use Rattle.scheduler.proofs.Running.{no_fault}
use Rattle.std.proofs.Common.{refl}
use Rattle.scheduler.proofs.engine.Engine.take_turn.Goals as goal

pub returns-in_err-given-in-Some-clause-turns : goal.returns-in_err-given-in-Some-clause-turns
returns-in_err-given-in-Some-clause-turns g c =
    let m = means g.M.FlowMaker g.M.Flow.Flow g.W.Awaits in
    let self = c.args.self.now in
    let k = g.K.Gpi.content c.args.kernel.now in
    record {
      turning = short_turning (sink_means g.O.Sink) _ _ _ _ _ _ _ _ c.from_residual.ensures.0 refl;
      fits = λ o. absurd (no_fault _ c.from_residual.ensures.0 o);
      keeps = keeps_all m g.K.Gpi self.teller.flat.now self _ c.args.kernel.now refl c.requires.loaded
          (c.first.ensures.fits self.teller.flat.now k c.requires.fits.test.queue);
    }

pub run_task-requires-clause-known : goal.run_task-requires-clause-known
run_task-requires-clause-known g c =
    let m = means g.M.FlowMaker g.M.Flow.Flow g.W.Awaits in
    taken_known m c.args.self.now (g.K.Gpi.content c.args.kernel.now) c.requires.fits c.first.new.self c.in-Some.task c.in-Some.given c.in-Some.ensures.first c.in_ok-given-in-Some.given c.in_ok-given-in-Some.ensures

pub returns-in_ok-given-in-Some-clause-turns : goal.returns-in_ok-given-in-Some-clause-turns
returns-in_ok-given-in-Some-clause-turns g c =
    let m = means g.M.FlowMaker g.M.Flow.Flow g.W.Awaits in
    let keeps = c.run_task.ensures.keeps in
    record {
      turning = taken_turning m c.args.self.now (g.K.Gpi.content c.args.kernel.now) c.requires.fits c.first.new.self c.in-Some.task c.in-Some.given c.in-Some.ensures.first (sink_means g.O.Sink) c.in_ok-given-in-Some.given
          _ _ _ _ _ _ c.in_ok-given-in-Some.ensures c.run_task.ensures.turning;
      fits = c.run_task.ensures.fits;
      keeps = record { setup = keeps.setup; loaded = keeps.loaded; keys = keeps.keys };
    }
