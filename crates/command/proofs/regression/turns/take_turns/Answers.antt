use Rattle.std.proofs.Common.{◌∙◌, ap, Ok, refl}
use Rattle.port_io.specs.Means.{sink_means}
use Rattle.scheduler.proofs.Running.{no_fault}
use Rattle.scheduler.proofs.ManyTurns.{turning_anywhere, turning_err, went_then}
use Rattle.scheduler.specs.Turns.{turn_fault}
use Rattle.scheduler.specs.Parts.{means}
use Rattle.scheduler.specs.Engine.{rig_of, setup_of}
use Rattle.command.proofs.RegressionLemmas.LeaveLaws.{keeps_on}
use Rattle.command.proofs.RegressionLemmas.Waiting.{alone, between_ready, between_still, not_gone, place_still, turns_fall, waits_end, waits_err, waits_then}
use Rattle.command.proofs.regression.turns.take_turns.Goals as goal

pub turns-init : goal.turns-init
turns-init g c = record {
  turning = λ r fuel e out h. h;
  waits = λ b r fuel e out h. h;
  between = λ b. b;
  place = c.requires.place;
  setup = refl;
  loaded = c.requires.loaded;
  fits = c.requires.fits;
}

pub turn-requires-clause-alone : goal.turn-requires-clause-alone
turn-requires-clause-alone g c =
    let m = means g.M.FlowMaker g.M.Flow.Flow g.W.Awaits in
    alone (rig_of m c.turns.engine (g.K.Gpi.content c.turns.kernel)) c.turns.invariant.place

pub returns-in_err-turn-clause-turns : goal.returns-in_err-turn-clause-turns
returns-in_err-turn-clause-turns g c =
    let m = means g.M.FlowMaker g.M.Flow.Flow g.W.Awaits in
    record {
      turning = c.turns.invariant.turning _ _ _ _
          (turning_err (sink_means g.O.Sink) _ _ _ _ _ _ _ _ _ _ c.turns.invariant.setup c.from_residual.ensures.0 c.in_err-turn.ensures.turns.turning);
      fits = λ o. absurd (no_fault _ c.from_residual.ensures.0 o);
      keeps = keeps_on m g.K.Gpi _ _ _ _ c.turns.invariant.setup c.turn.ensures.turns.keeps;
    }

pub returns-in_err-turn-clause-waits : goal.returns-in_err-turn-clause-waits
returns-in_err-turn-clause-waits g c = λ b. c.turns.invariant.waits b _ _ _ _
    (waits_err (sink_means g.O.Sink) _ _ _ _ _ _ _ _ _ _ c.turns.invariant.setup c.from_residual.ensures.0 (c.turns.invariant.between b) c.in_err-turn.ensures.turns.turning)

pub turns-preserved : goal.turns-preserved
turns-preserved g c =
    let m = means g.M.FlowMaker g.M.Flow.Flow g.W.Awaits in
    let before = rig_of m c.turns.engine (g.K.Gpi.content c.turns.kernel) in
    let after = rig_of m c.turn.new.self (g.K.Gpi.content c.turn.new.kernel) in
    record {
      turning = λ r fuel e out more. c.turns.invariant.turning r fuel e out
          (went_then (sink_means g.O.Sink) _ _ _ _ _ _ _ _ _ r fuel e out c.turns.invariant.setup (ap Ok c.in-Went.is) c.in_ok-turn.ensures.turns.turning more);
      waits = λ b r fuel e out more. c.turns.invariant.waits b r fuel e out
          (waits_then (sink_means g.O.Sink) _ _ _ _ _ _ _ _ _ r fuel e out c.turns.invariant.setup (ap Ok c.in-Went.is) (c.turns.invariant.between b) c.in_ok-turn.ensures.turns.turning more);
      between = λ b. between_still (sink_means g.O.Sink) (setup_of m c.turns.engine) (setup_of m c.turns.engine) _ before _ _ _ after _ (ap Ok c.in-Went.is) (c.turns.invariant.between b) c.in_ok-turn.ensures.turns.turning;
      place = place_still (sink_means g.O.Sink) (setup_of m c.turns.engine) (setup_of m c.turns.engine) _ before _ _ _ after _ (ap Ok c.in-Went.is) c.turns.invariant.place c.in_ok-turn.ensures.turns.turning;
      setup = c.turn.ensures.turns.keeps.setup ∙ c.turns.invariant.setup;
      loaded = c.turn.ensures.turns.keeps.loaded;
      fits = c.in_ok-turn.ensures.turns.fits (ap turn_fault (ap Ok c.in-Went.is));
    }

pub turns-smaller : goal.turns-smaller
turns-smaller g c = turns_fall (sink_means g.O.Sink) _ _ _ _ _ _ _ _ _ c.turns.invariant.setup (ap Ok c.in-Went.is) c.in_ok-turn.ensures.turns.turning

pub returns-in-turns-clause-turns : goal.returns-in-turns-clause-turns
returns-in-turns-clause-turns g c =
    let m = means g.M.FlowMaker g.M.Flow.Flow g.W.Awaits in
    record {
      turning = c.turns.invariant.turning _ _ _ _
          (turning_anywhere (sink_means g.O.Sink) _ _ _ _ _ _ _ _ _ c.turns.invariant.setup c.in_ok-turn.ensures.turns.turning);
      fits = c.in_ok-turn.ensures.turns.fits;
      keeps = keeps_on m g.K.Gpi _ _ _ _ c.turns.invariant.setup c.turn.ensures.turns.keeps;
    }

pub returns-in-turns-clause-waits : goal.returns-in-turns-clause-waits
returns-in-turns-clause-waits g c = λ b.
    let m = means g.M.FlowMaker g.M.Flow.Flow g.W.Awaits in
    let before = rig_of m c.turns.engine (g.K.Gpi.content c.turns.kernel) in
    let after = rig_of m c.turn.new.self (g.K.Gpi.content c.turn.new.kernel) in
    c.turns.invariant.waits b _ _ _ _
    (waits_end (sink_means g.O.Sink) _ _ _ before _ (Ok c.in_ok-turn.turn) _ after _ c.turns.invariant.setup (c.turns.invariant.between b) (not_gone c.in_ok-turn.turn (λ h. c.in_default.not-Went h))
    (λ h. c.in_ok-turn.ensures.still (between_ready before (c.turns.invariant.between b)) h) c.in_ok-turn.ensures.turns.turning)
