use Rattle.port_io.specs.Means.{sink_means}
use Rattle.scheduler.specs.Parts.{means}
use Rattle.scheduler.proofs.TurnLaws.{turning_short_of_memory}
use Rattle.scheduler.specs.Engine.{rig_of, setup_of}
use Rattle.scheduler.proofs.Fitting.{has_queues}
use Rattle.scheduler.proofs.Running.{cut_comes, ends_comes, ends_fits, goes_comes, goes_fits, goes_less, next_known, next_planned, no_fault, same_setup, spent_comes, spent_fits, turn_fits, wish_known}
use Rattle.std.proofs.Common.{refl, Some}
use Rattle.scheduler.proofs.engine.Engine.run_task.Goals as goal

pub returns-in_err-turned-clause-turning : goal.returns-in_err-turned-clause-turning
returns-in_err-turned-clause-turning g c = c.effects.invariant.turning _ _ _ _ (turning_short_of_memory (sink_means g.O.Sink) _ _ _ _ _ _ _ _ c.from_residual.ensures.0)

pub returns-in-Spent-clause-turning : goal.returns-in-Spent-clause-turning
returns-in-Spent-clause-turning g c =
    let m = means g.M.FlowMaker g.M.Flow.Flow g.W.Awaits in
    c.effects.invariant.turning _ _ _ _
    (spent_comes m c.effects.self (g.K.Gpi.content c.effects.kernel) c.args.task c.effects.invariant.fits c.effects.invariant.none c.effects.given c.effects.invariant.known c.effects.fuel c.poll.new.self c.in_ok-turned.turned c.poll.new.fuel c.in_ok-turned.ensures.polls c.poll.ensures.queue c.poll.ensures.rest c.poll.ensures.maker c.poll.ensures.room (setup_of m c.args.self.now) c.effects.invariant.setup (sink_means g.O.Sink) c.effects.out c.in-Spent.is)

pub returns-in-Spent-clause-fits : goal.returns-in-Spent-clause-fits
returns-in-Spent-clause-fits g c = λ o.
    let m = means g.M.FlowMaker g.M.Flow.Flow g.W.Awaits in
    spent_fits m c.effects.self (g.K.Gpi.content c.effects.kernel) c.args.task c.effects.invariant.fits c.effects.invariant.none c.effects.given c.effects.invariant.known c.effects.fuel c.poll.new.self c.in_ok-turned.turned c.poll.new.fuel c.in_ok-turned.ensures.polls c.poll.ensures.queue c.poll.ensures.rest c.poll.ensures.maker c.poll.ensures.room

pub poll-requires-clause-events : goal.poll-requires-clause-events
poll-requires-clause-events g c =
    let m = means g.M.FlowMaker g.M.Flow.Flow g.W.Awaits in
    (has_queues m (Some c.args.task) c.effects.self (g.K.Gpi.content c.effects.kernel) c.effects.invariant.fits).made

pub apply-requires : goal.apply-requires
apply-requires g c =
    let m = means g.M.FlowMaker g.M.Flow.Flow g.W.Awaits in
    let fits = turn_fits m c.effects.self (g.K.Gpi.content c.effects.kernel) c.args.task c.effects.invariant.fits c.effects.invariant.none c.effects.given c.effects.invariant.known c.effects.fuel c.poll.new.self c.in_ok-turned.turned c.poll.new.fuel c.in_ok-turned.ensures.polls c.poll.ensures.queue c.poll.ensures.rest c.poll.ensures.maker c.poll.ensures.room in
    record {
      loaded = c.effects.invariant.loaded;
      fits = fits.test;
      time = fits.timely.time;
      known = wish_known m c.effects.self (g.K.Gpi.content c.effects.kernel) c.args.task c.effects.invariant.fits c.effects.invariant.none c.effects.given c.effects.invariant.known c.effects.fuel c.poll.new.self c.in_ok-turned.turned c.poll.new.fuel c.in_ok-turned.ensures.polls c.poll.ensures.queue c.poll.ensures.rest c.poll.ensures.maker c.poll.ensures.room;
      queues = has_queues m (Some c.args.task) (record c.effects.self { test = c.poll.new.self }) (g.K.Gpi.content c.effects.kernel) fits;
      wanted = c.in_default.not-Spent;
    }

pub returns-in_err-next : goal.returns-in_err-next
returns-in_err-next g c =
    let m = means g.M.FlowMaker g.M.Flow.Flow g.W.Awaits in
    record {
      turning = c.effects.invariant.turning _ _ _ _
          (cut_comes m c.effects.self (g.K.Gpi.content c.effects.kernel) c.args.task c.effects.invariant.fits c.effects.invariant.none c.effects.given c.effects.invariant.known c.effects.fuel c.poll.new.self c.in_ok-turned.turned c.poll.new.fuel c.in_ok-turned.ensures.polls c.poll.ensures.queue c.poll.ensures.rest c.poll.ensures.maker c.poll.ensures.room (setup_of m c.args.self.now) c.effects.invariant.setup (sink_means g.O.Sink) c.effects.out c.in_default.not-Spent _ _ _ c.from_residual-in_err-next.ensures.0 c.in_err-next.ensures.puts);
      fits = λ o. absurd (no_fault _ c.from_residual-in_err-next.ensures.0 o);
      keeps = record {
        setup = same_setup m c.effects.self (g.K.Gpi.content c.effects.kernel) c.args.task c.effects.invariant.fits c.effects.invariant.none c.effects.given c.effects.invariant.known c.effects.fuel c.poll.new.self c.in_ok-turned.turned c.poll.new.fuel c.in_ok-turned.ensures.polls c.poll.ensures.queue c.poll.ensures.rest c.poll.ensures.maker c.poll.ensures.room c.in_default.not-Spent c.apply.new.self (g.K.Gpi.content c.apply.new.kernel) c.apply.ensures.kept.maker (setup_of m c.args.self.now) c.effects.invariant.setup;
        loaded = c.apply.ensures.kept.loaded;
        keys = c.apply.ensures.kept.keeps;
      };
      runs = c.effects.invariant.runs;
    }

pub effects-smaller : goal.effects-smaller
effects-smaller g c =
    let m = means g.M.FlowMaker g.M.Flow.Flow g.W.Awaits in
    goes_less m c.effects.self (g.K.Gpi.content c.effects.kernel) c.args.task c.effects.invariant.fits c.effects.invariant.none c.effects.given c.effects.invariant.known c.effects.fuel c.poll.new.self c.in_ok-turned.turned c.poll.new.fuel c.in_ok-turned.ensures.polls c.poll.ensures.queue c.poll.ensures.rest c.poll.ensures.maker c.poll.ensures.room (setup_of m c.args.self.now) c.effects.invariant.setup c.in_default.not-Spent c.in_ok-next.field-0 c.in-GoesOn.next
    (rig_of m (record c.effects.self { test = c.apply.new.self }) (g.K.Gpi.content c.apply.new.kernel)) refl c.in-GoesOn.is c.in_ok-next.ensures.leads

pub effects-preserved : goal.effects-preserved
effects-preserved g c =
    let m = means g.M.FlowMaker g.M.Flow.Flow g.W.Awaits in
    record {
      turning = λ r fuel e out h. c.effects.invariant.turning r fuel e out
          (goes_comes m c.effects.self (g.K.Gpi.content c.effects.kernel) c.args.task c.effects.invariant.fits c.effects.invariant.none c.effects.given c.effects.invariant.known c.effects.fuel c.poll.new.self c.in_ok-turned.turned c.poll.new.fuel c.in_ok-turned.ensures.polls c.poll.ensures.queue c.poll.ensures.rest c.poll.ensures.maker c.poll.ensures.room (setup_of m c.args.self.now) c.effects.invariant.setup (sink_means g.O.Sink) c.effects.out c.in_default.not-Spent c.in_ok-next.field-0 c.in-GoesOn.next _ c.apply.new.out r fuel e out
          c.in-GoesOn.is c.in_ok-next.ensures.leads c.in_ok-next.ensures.puts h);
      setup = same_setup m c.effects.self (g.K.Gpi.content c.effects.kernel) c.args.task c.effects.invariant.fits c.effects.invariant.none c.effects.given c.effects.invariant.known c.effects.fuel c.poll.new.self c.in_ok-turned.turned c.poll.new.fuel c.in_ok-turned.ensures.polls c.poll.ensures.queue c.poll.ensures.rest c.poll.ensures.maker c.poll.ensures.room c.in_default.not-Spent c.apply.new.self (g.K.Gpi.content c.apply.new.kernel) c.apply.ensures.kept.maker (setup_of m c.args.self.now) c.effects.invariant.setup;
      fits = goes_fits m c.effects.self (g.K.Gpi.content c.effects.kernel) c.args.task c.effects.invariant.fits c.effects.invariant.none c.effects.given c.effects.invariant.known c.effects.fuel c.poll.new.self c.in_ok-turned.turned c.poll.new.fuel c.in_ok-turned.ensures.polls c.poll.ensures.queue c.poll.ensures.rest c.poll.ensures.maker c.poll.ensures.room c.in_default.not-Spent c.apply.new.self (g.K.Gpi.content c.apply.new.kernel) c.apply.ensures.kept.maker c.in_ok-next.field-0 c.in-GoesOn.next c.in-GoesOn.is c.in_ok-next.ensures.leads c.in_ok-next.ensures.fits;
      none = next_planned m c.effects.self (g.K.Gpi.content c.effects.kernel) c.args.task c.effects.invariant.fits c.effects.invariant.none c.effects.given c.effects.invariant.known c.effects.fuel c.poll.new.self c.in_ok-turned.turned c.poll.new.fuel c.in_ok-turned.ensures.polls c.poll.ensures.queue c.poll.ensures.rest c.poll.ensures.maker c.poll.ensures.room c.in_default.not-Spent c.apply.new.self (g.K.Gpi.content c.apply.new.kernel) c.apply.ensures.kept.maker c.in_ok-next.field-0 c.in-GoesOn.next c.in-GoesOn.is c.in_ok-next.ensures.leads c.in_ok-next.ensures.fits;
      known = next_known m c.effects.self (g.K.Gpi.content c.effects.kernel) c.args.task c.effects.invariant.fits c.effects.invariant.none c.effects.given c.effects.invariant.known c.effects.fuel c.poll.new.self c.in_ok-turned.turned c.poll.new.fuel c.in_ok-turned.ensures.polls c.poll.ensures.queue c.poll.ensures.rest c.poll.ensures.maker c.poll.ensures.room c.in_default.not-Spent c.apply.new.self (g.K.Gpi.content c.apply.new.kernel) c.apply.ensures.kept.maker c.in_ok-next.field-0 c.in-GoesOn.next c.in-GoesOn.is c.in_ok-next.ensures.leads c.in_ok-next.ensures.fits;
      runs = c.effects.invariant.runs;
      loaded = c.apply.ensures.kept.loaded;
    }

pub returns-in-Ends : goal.returns-in-Ends
returns-in-Ends g c =
    let m = means g.M.FlowMaker g.M.Flow.Flow g.W.Awaits in
    record {
      turning = c.effects.invariant.turning _ _ _ _
          (ends_comes m c.effects.self (g.K.Gpi.content c.effects.kernel) c.args.task c.effects.invariant.fits c.effects.invariant.none c.effects.given c.effects.invariant.known c.effects.fuel c.poll.new.self c.in_ok-turned.turned c.poll.new.fuel c.in_ok-turned.ensures.polls c.poll.ensures.queue c.poll.ensures.rest c.poll.ensures.maker c.poll.ensures.room (setup_of m c.args.self.now) c.effects.invariant.setup (sink_means g.O.Sink) c.effects.out c.in_default.not-Spent c.in_ok-next.field-0 c.in-Ends.turn _ _ c.in-Ends.is c.in_ok-next.ensures.leads c.in_ok-next.ensures.puts);
      fits = ends_fits m c.effects.self (g.K.Gpi.content c.effects.kernel) c.args.task c.effects.invariant.fits c.effects.invariant.none c.effects.given c.effects.invariant.known c.effects.fuel c.poll.new.self c.in_ok-turned.turned c.poll.new.fuel c.in_ok-turned.ensures.polls c.poll.ensures.queue c.poll.ensures.rest c.poll.ensures.maker c.poll.ensures.room c.in_default.not-Spent c.apply.new.self (g.K.Gpi.content c.apply.new.kernel) c.apply.ensures.kept.maker c.in_ok-next.field-0 c.in-Ends.turn c.in-Ends.is c.in_ok-next.ensures.leads c.in_ok-next.ensures.fits;
      keeps = record {
        setup = same_setup m c.effects.self (g.K.Gpi.content c.effects.kernel) c.args.task c.effects.invariant.fits c.effects.invariant.none c.effects.given c.effects.invariant.known c.effects.fuel c.poll.new.self c.in_ok-turned.turned c.poll.new.fuel c.in_ok-turned.ensures.polls c.poll.ensures.queue c.poll.ensures.rest c.poll.ensures.maker c.poll.ensures.room c.in_default.not-Spent c.apply.new.self (g.K.Gpi.content c.apply.new.kernel) c.apply.ensures.kept.maker (setup_of m c.args.self.now) c.effects.invariant.setup;
        loaded = c.apply.ensures.kept.loaded;
        keys = c.apply.ensures.kept.keeps;
      };
      runs = c.effects.invariant.runs;
    }
