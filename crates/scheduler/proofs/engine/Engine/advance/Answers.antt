use Rattle.std.specs.Prelude.{is_some, ◌&&◌, not}
use Rattle.std.proofs.Common.{Bool, refl, ap, subst, ◌∙◌, arith, true, false}
use Rattle.port_io.specs.Means.{sink_means}
use Rattle.scheduler.specs.Parts.{means}
use Rattle.scheduler.specs.Engine.{rig_of, setup_of}
use Rattle.scheduler.specs.Events.{IsEventTurn}
use Rattle.scheduler.proofs.EventTurns.{event_turning, same_idle, short_turning, spent_turning, stalled_turning}
use Rattle.scheduler.proofs.Fitting.{evented_fits, keeps_all}
use Rattle.scheduler.proofs.Running.{no_fault}
use Rattle.scheduler.proofs.Still.{never_spent}
use Rattle.scheduler.proofs.engine.Engine.advance.Goals as goal

pub returns-then-idle-clause-turns : goal.returns-then-idle-clause-turns
returns-then-idle-clause-turns g c =
    let m = means g.M.FlowMaker g.M.Flow.Flow g.W.Awaits in
    let k = g.K.Gpi.content c.args.kernel.now in
    let self = c.args.self.now in
    record {
      turning = stalled_turning (setup_of m self) (rig_of m self k) refl c.requires.none refl (sink_means g.O.Sink) _ _
          (same_idle (setup_of m self) _ _ _ k (rig_of m self k) c.idle.result true c.requires.fits.test.queue.queue c.idle.ensures c.if-idle.true);
      fits = λ o. c.requires.fits;
      keeps = keeps_all m g.K.Gpi self.teller.flat.now self self c.args.kernel.now refl c.requires.loaded c.requires.fits.test.queue;
    }

pub returns-then-fuel-eq0-clause-turns : goal.returns-then-fuel-eq0-clause-turns
returns-then-fuel-eq0-clause-turns g c =
    let m = means g.M.FlowMaker g.M.Flow.Flow g.W.Awaits in
    let k = g.K.Gpi.content c.args.kernel.now in
    let self = c.args.self.now in
    record {
      turning = spent_turning (setup_of m self) (rig_of m self k) refl c.requires.none refl (sink_means g.O.Sink) _ _
          (same_idle (setup_of m self) _ _ _ k (rig_of m self k) c.idle.result false c.requires.fits.test.queue.queue c.idle.ensures c.if-idle.false) c.if-fuel-eq0.true;
      fits = λ o. c.requires.fits;
      keeps = keeps_all m g.K.Gpi self.teller.flat.now self self c.args.kernel.now refl c.requires.loaded c.requires.fits.test.queue;
    }

pub returns-in_err-evented-clause-turns : goal.returns-in_err-evented-clause-turns
returns-in_err-evented-clause-turns g c =
    let m = means g.M.FlowMaker g.M.Flow.Flow g.W.Awaits in
    record {
      turning = short_turning (sink_means g.O.Sink) _ _ _ _ _ _ _ _ c.from_residual.ensures.0 c.in_err-evented.ensures.out;
      fits = λ o. absurd (no_fault _ c.from_residual.ensures.0 o);
      keeps = keeps_all m g.K.Gpi c.args.self.now.teller.flat.now c.args.self.now _ c.do_event.new.kernel refl c.do_event.ensures.loaded c.do_event.ensures.fits;
    }

pub returns-clause-turns : goal.returns-clause-turns
returns-clause-turns g c =
    let m = means g.M.FlowMaker g.M.Flow.Flow g.W.Awaits in
    let k = g.K.Gpi.content c.args.kernel.now in
    let self = c.args.self.now in
    let before = rig_of m self k in
    let functions = g.M.FlowMaker.functions self.test.tasks.maker in
    let done = c.in_ok-evented.ensures.done in
    let after = rig_of m (record self { test = record self.test { queue = c.do_event.new.queue } }) (g.K.Gpi.content c.do_event.new.kernel) in
    record {
      turning = event_turning (setup_of m self) before refl c.requires.none refl done.event (done.next functions before) c.in_ok-evented.evented.is_late after (done.leads functions before)
          c.args.fuel.now (omega arith) (sink_means g.O.Sink) _ _ c.in_ok-evented.evented.fault c.turn_of.result
          (subst (λ (b : Bool). IsEventTurn c.in_ok-evented.evented.fault c.in_ok-evented.evented.is_late b c.turn_of.result)
          (ap (λ (b : Bool). b && not c.is_some.result) c.is_some-was_planned.ensures ∙ ap (λ (b : Bool). is_some self.test.queue.planned && not b) c.is_some.ensures) c.turn_of.ensures)
          (done.puts functions before);
      fits = λ o. evented_fits m self k (g.K.Gpi.content c.do_event.new.kernel) c.requires.fits c.requires.none c.do_event.new.queue done.event c.in_ok-evented.evented.is_late
          (done.next functions before) (done.leads functions before) c.do_event.ensures.fits c.do_event.ensures.room;
      keeps = keeps_all m g.K.Gpi self.teller.flat.now self _ c.do_event.new.kernel refl c.do_event.ensures.loaded c.do_event.ensures.fits;
    }

pub returns-clause-still : goal.returns-clause-still
returns-clause-still g c = λ h. absurd (never_spent _ _ _ c.turn_of.result c.turn_of.ensures h)
