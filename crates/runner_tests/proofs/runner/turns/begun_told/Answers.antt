use Rattle.std.proofs.Common.{Ok, ap}
use Rattle.std.specs.Prelude.{string_bytes}
use Rattle.port_io.specs.Means.{sink_means}
use Rattle.test_meaning.specs.Body.Views.{view_case}
use Rattle.rig_model.specs.Run.Rig.{Rig, Setup}
use Rattle.scheduler.specs.Parts.{means}
use Rattle.scheduler.specs.Engine.{rig_of, setup_of}
use Rattle.command.proofs.RegressionLemmas.CaseRuns.{begins_went}
use Rattle.command.proofs.RegressionLemmas.TestBegins.{begun_planned}
use Rattle.runner_tests.specs.Runner.Turns.{turns_budget}
use Rattle.runner_tests.proofs.RunnerLemmas.Told.{test_over, test_went}
use Rattle.runner_tests.proofs.runner.turns.begun_told.Goals as goal
use Rattle.runner_tests.proofs.runner.turns.begun_told.Goals.{in-Went, in_default}

pub turns_told-requires-clause-none : goal.turns_told-requires-clause-none
turns_told-requires-clause-none g c =
    let m = means g.M.FlowMaker g.M.Flow.Flow g.W.Awaits in
    let setup : Setup = setup_of m c.args.engine.now in
    let before : Rig = rig_of m c.args.engine.now (g.K.Gpi.content c.args.kernel.now) in
    let begun : Rig = rig_of m c.begin_test.new.self (g.K.Gpi.content c.begin_test.new.kernel) in
    let went = begins_went (sink_means g.O.Sink) setup (view_case c.args.case.now) turns_budget before c.args.out.now (Ok c.in_ok-begin_test.field-0) begun c.begin_test.new.out (ap Ok c.in-Went.is) c.in_ok-begin_test.ensures.begins in
    begun_planned setup (view_case c.args.case.now) before begun c.requires.empty went.0

pub returns : goal.returns
returns g c =
    let m = means g.M.FlowMaker g.M.Flow.Flow g.W.Awaits in
    let setup : Setup = setup_of m c.args.engine.now in
    let before : Rig = rig_of m c.args.engine.now (g.K.Gpi.content c.args.kernel.now) in
    let begun : Rig = rig_of m c.begin_test.new.self (g.K.Gpi.content c.begin_test.new.kernel) in
    elim c.match-branch-2.branch [
      | in-Went w ↦ rw w.result-is (test_went (sink_means g.O.Sink) setup (view_case c.args.case.now) before begun c.args.out.now c.begin_test.new.out c.in_ok-begin_test.field-0 w.in-Went.is
          c.in_ok-begin_test.ensures.begins string_bytes (setup_of m c.begin_test.new.self) c.begin_test.ensures.keeps.setup w.turns_told.result w.turns_told.ensures)
      | in_default w ↦ rw w.result-is (test_over (sink_means g.O.Sink) setup (view_case c.args.case.now) before begun c.args.out.now c.begin_test.new.out c.in_ok-begin_test.field-0
          (λ h. w.in_default.not-Went h) c.in_ok-begin_test.ensures.begins (string_bytes w.new.result) w.new.ensures.bytes)
    ]
