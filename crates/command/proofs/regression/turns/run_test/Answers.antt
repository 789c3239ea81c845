use Rattle.std.proofs.Common.{◌∙◌, ap, Ok, inl}
use Rattle.port_io.specs.Means.{sink_means}
use Rattle.test_meaning.specs.Body.Views.{view_case}
use Rattle.rig_model.specs.Run.Rig.{Rig, Setup}
use Rattle.scheduler.specs.Parts.{means}
use Rattle.scheduler.specs.Engine.{rig_of, setup_of}
use Rattle.command.proofs.RegressionLemmas.CaseRuns.{begins_only, begins_short, begins_went, tests_turns}
use Rattle.command.proofs.RegressionLemmas.TestBegins.{begun_planned, turning_under}
use Rattle.command.proofs.RegressionLemmas.Waiting.{not_gone}
use Rattle.command.proofs.regression.turns.run_test.Goals as goal

pub returns-in_err-turn-clause-tests : goal.returns-in_err-turn-clause-tests
returns-in_err-turn-clause-tests g c =
    let m = means g.M.FlowMaker g.M.Flow.Flow g.W.Awaits in
    begins_short (sink_means g.O.Sink) (setup_of m c.args.engine.now) (view_case c.args.case.now) c.args.fuel.now (rig_of m c.args.engine.now (g.K.Gpi.content c.args.kernel.now)) c.args.out.now
    c.from_residual.result (rig_of m c.begin_test.new.self (g.K.Gpi.content c.begin_test.new.kernel)) c.begin_test.new.out c.from_residual.ensures.0 c.in_err-turn.ensures.begins

pub returns-in-Went-clause-tests : goal.returns-in-Went-clause-tests
returns-in-Went-clause-tests g c =
    let m = means g.M.FlowMaker g.M.Flow.Flow g.W.Awaits in
    let setup : Setup = setup_of m c.args.engine.now in
    let before : Rig = rig_of m c.args.engine.now (g.K.Gpi.content c.args.kernel.now) in
    let begun : Rig = rig_of m c.begin_test.new.self (g.K.Gpi.content c.begin_test.new.kernel) in
    let after : Rig = rig_of m c.take_turns.new.engine (g.K.Gpi.content c.take_turns.new.kernel) in
    let went = begins_went (sink_means g.O.Sink) setup (view_case c.args.case.now) c.args.fuel.now before c.args.out.now (Ok c.in_ok-turn.turn) begun c.begin_test.new.out (ap Ok c.in-Went.is) c.in_ok-turn.ensures.begins in
    tests_turns (sink_means g.O.Sink) setup (view_case c.args.case.now) c.args.fuel.now before c.args.out.now begun c.begin_test.new.out c.take_turns.result c.take_turns.new.fuel after c.take_turns.new.out
    went.0 went.1 (begun_planned setup (view_case c.args.case.now) before begun c.requires.empty went.0) (λ h. c.take_turns.ensures.stops h)
    (turning_under (sink_means g.O.Sink) (setup_of m c.begin_test.new.self) setup c.args.fuel.now begun c.begin_test.new.out c.take_turns.result c.take_turns.new.fuel after c.take_turns.new.out c.begin_test.ensures.keeps.setup c.take_turns.ensures.turns.turning)

pub returns-in_default : goal.returns-in_default
returns-in_default g c =
    let m = means g.M.FlowMaker g.M.Flow.Flow g.W.Awaits in
    record {
      tests = begins_only (sink_means g.O.Sink) (setup_of m c.args.engine.now) (view_case c.args.case.now) c.args.fuel.now (rig_of m c.args.engine.now (g.K.Gpi.content c.args.kernel.now)) c.args.out.now
          c.in_ok-turn.turn (rig_of m c.begin_test.new.self (g.K.Gpi.content c.begin_test.new.kernel)) c.begin_test.new.out (λ h. c.in_default.not-Went h) c.in_ok-turn.ensures.begins;
      fits = λ n. c.in_ok-turn.ensures.fits;
      keeps = c.begin_test.ensures.keeps;
      idle = c.in_ok-turn.ensures.runs ∙ not_gone c.in_ok-turn.turn (λ h. c.in_default.not-Went h);
    }

pub take_turns-requires-clause-place : goal.take_turns-requires-clause-place
take_turns-requires-clause-place g c =
    let m = means g.M.FlowMaker g.M.Flow.Flow g.W.Awaits in
    let setup : Setup = setup_of m c.args.engine.now in
    let before : Rig = rig_of m c.args.engine.now (g.K.Gpi.content c.args.kernel.now) in
    let begun : Rig = rig_of m c.begin_test.new.self (g.K.Gpi.content c.begin_test.new.kernel) in
    let went = begins_went (sink_means g.O.Sink) setup (view_case c.args.case.now) c.args.fuel.now before c.args.out.now (Ok c.in_ok-turn.turn) begun c.begin_test.new.out (ap Ok c.in-Went.is) c.in_ok-turn.ensures.begins in
    inl (begun_planned setup (view_case c.args.case.now) before begun c.requires.empty went.0)
