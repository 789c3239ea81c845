use Rattle.std.proofs.Common.{◌≡◌, ◌+◌, ◌<◌, ◌∙◌, ℕ, Ok, ap, refl, subst, sym}
use Rattle.port_io.specs.Means.{sink_means}
use Rattle.rig_model.specs.Run.Rig.{Rig, Setup}
use Rattle.scheduler.specs.Parts.{means}
use Rattle.scheduler.specs.Engine.{rig_of, setup_of}
use Rattle.gpi.specs.Limits.{latest_time}
use Rattle.test_meaning.specs.Body.Sound.{is_sound_case}
use Rattle.test_meaning.specs.Body.Views.{view_case}
use Rattle.rig_model.specs.Run.Verdict.{reason_of}
use Rattle.scheduler.specs.Turns.{turn_fault}
use Rattle.scheduler.specs.declared.turned.Turn.{Turn}
use Rattle.scheduler.specs.declared.turned.Turn.TheVariants as turn
use Rattle.command.specs.Regression.Stages.{AfterEnd, Judges, StagesTo}
use Rattle.command.proofs.RegressionLemmas.CaseRuns.{behind_least, case_broken, case_cut, case_early, case_over, case_short}
use Rattle.command.proofs.RegressionLemmas.LeaveLaws.{leaves_amid, leaves_broken, leaves_on, short_verdict, stage_short}
use Rattle.command.proofs.RegressionLemmas.Skipping.{sound_at}
use Rattle.command.proofs.RegressionLemmas.StageLaws.{stages_err, tests_as}
use Rattle.command.proofs.RegressionLemmas.Stands.{fits_stands, stands_as}
use Rattle.command.proofs.regression.run.run_case.Goals as goal

pub run_test-requires-clause-sound : goal.run_test-requires-clause-sound
run_test-requires-clause-sound g c =
    let m = means g.M.FlowMaker g.M.Flow.Flow g.W.Awaits in
    sound_at (is_sound_case (setup_of m c.args.engine.now).functions) c.args.cases.now c.args.progress.at c.get.result.now c.requires.sound c.get.ensures

pub returns-in_err-outcome-clause-stages : goal.returns-in_err-outcome-clause-stages
returns-in_err-outcome-clause-stages g c = λ seed first pend.
    let m = means g.M.FlowMaker g.M.Flow.Flow g.W.Awaits in
    let setup : Setup = setup_of m c.args.engine.now in
    let before : Rig = rig_of m c.args.engine.now (g.K.Gpi.content c.args.kernel.now) in
    let tested : Rig = rig_of m c.run_test.new.engine (g.K.Gpi.content c.run_test.new.kernel) in
    stages_err (sink_means g.O.Sink) setup seed c.args.cases.now c.args.budget (c.args.progress.at + 1) c.from_residual.result c.run_test.new.fuel tested (g.K.Gpi.content c.run_test.new.kernel) first c.run_test.new.out c.from_residual.ensures.0
    (case_cut (sink_means g.O.Sink) setup seed c.args.cases.now c.args.budget c.args.progress c.args.fuel.now before first c.args.out.now pend c.get.result.now c.get.ensures c.in_err-outcome.field-0.0 c.run_test.new.fuel tested c.run_test.new.out c.in_err-outcome.ensures.tests)

pub returns-in_err-outcome-clause-leaves : goal.returns-in_err-outcome-clause-leaves
returns-in_err-outcome-clause-leaves g c =
    let m = means g.M.FlowMaker g.M.Flow.Flow g.W.Awaits in
    stage_short m g.K.Gpi c.from_residual.result c.args.engine.now c.run_test.new.engine c.run_test.new.kernel c.from_residual.ensures.0 c.run_test.ensures.keeps c.run_test.ensures.idle

pub go_on-requires-clause-early : goal.go_on-requires-clause-early
go_on-requires-clause-early g c =
    let m = means g.M.FlowMaker g.M.Flow.Flow g.W.Awaits in
    let setup : Setup = setup_of m c.args.engine.now in
    let before : Rig = rig_of m c.args.engine.now (g.K.Gpi.content c.args.kernel.now) in
    let tested : Rig = rig_of m c.run_test.new.engine (g.K.Gpi.content c.run_test.new.kernel) in
    let time : (rig_of m c.end_case-ended.new.engine (g.K.Gpi.content c.end_case-ended.new.kernel)).sim.time ≡ tested.sim.time = ap (λ (x : Rig). x.sim.time) c.end_case-ended.ensures.ended in
    subst (λ (n : ℕ). n < latest_time) (sym time)
    (case_early (sink_means g.O.Sink) setup c.requires.come.seed c.args.cases.now c.args.budget c.args.progress c.args.fuel.now before c.requires.come.first c.args.out.now c.requires.come.pending
    c.get.result.now c.get.ensures c.run_test.new.fuel tested c.run_test.new.out c.in-Over.outcome (tests_as (sink_means g.O.Sink) setup (view_case c.get.result.now) c.args.fuel.now before c.args.out.now c.in_ok-outcome.field-0 (turn.Over c.in-Over.outcome) c.run_test.new.fuel tested c.run_test.new.out c.in-Over.is c.in_ok-outcome.ensures.tests) c.requires.few)

pub returns-in-Over-clause-stages : goal.returns-in-Over-clause-stages
returns-in-Over-clause-stages g c = λ seed first pend.
    let m = means g.M.FlowMaker g.M.Flow.Flow g.W.Awaits in
    let setup : Setup = setup_of m c.args.engine.now in
    let before : Rig = rig_of m c.args.engine.now (g.K.Gpi.content c.args.kernel.now) in
    let tested : Rig = rig_of m c.run_test.new.engine (g.K.Gpi.content c.run_test.new.kernel) in
    let ended : Rig = rig_of m c.end_case-ended.new.engine (g.K.Gpi.content c.end_case-ended.new.kernel) in
    let after : Rig = rig_of m c.go_on.new.engine (g.K.Gpi.content c.go_on.new.kernel) in
    let judges : Judges (sink_means g.O.Sink) tested.sim.time c.args.cases.now c.args.progress (view_case c.get.result.now) (reason_of setup.flat (view_case c.get.result.now) c.in-Over.outcome)
    c.end_case-ended.result c.run_test.new.out c.end_case-ended.new.out
    = subst (λ (x : Setup). Judges (sink_means g.O.Sink) tested.sim.time c.args.cases.now c.args.progress (view_case c.get.result.now) (reason_of x.flat (view_case c.get.result.now) c.in-Over.outcome)
    c.end_case-ended.result c.run_test.new.out c.end_case-ended.new.out) c.run_test.ensures.keeps.setup (c.end_case-ended.ensures.judges c.get.result.now c.get.ensures) in
    subst (λ (x : Setup). AfterEnd (sink_means g.O.Sink) x seed c.args.cases.now c.args.budget c.end_case-ended.result c.run_test.new.fuel ended first c.end_case-ended.new.out
    → StagesTo (sink_means g.O.Sink) x seed c.args.cases.now c.args.budget (c.args.progress.at + 1) c.go_on.result c.go_on.new.fuel after (g.K.Gpi.content c.go_on.new.kernel) first c.go_on.new.out)
    (c.end_case-ended.ensures.keeps.setup ∙ c.run_test.ensures.keeps.setup)
    (c.go_on.ensures.stages seed first (c.args.progress.at + 1)
    (behind_least (sink_means g.O.Sink) tested.sim.time c.args.cases.now c.args.progress (view_case c.get.result.now) (reason_of setup.flat (view_case c.get.result.now) c.in-Over.outcome)
    c.end_case-ended.result c.run_test.new.out c.end_case-ended.new.out judges))
    (case_over (sink_means g.O.Sink) setup seed c.args.cases.now c.args.budget c.args.progress c.args.fuel.now before first c.args.out.now pend c.get.result.now c.get.ensures c.run_test.new.fuel tested c.run_test.new.out c.in-Over.outcome (tests_as (sink_means g.O.Sink) setup (view_case c.get.result.now) c.args.fuel.now before c.args.out.now c.in_ok-outcome.field-0 (turn.Over c.in-Over.outcome) c.run_test.new.fuel tested c.run_test.new.out c.in-Over.is c.in_ok-outcome.ensures.tests)
    ended tested.sim.time c.end_case-ended.result c.end_case-ended.new.out c.end_case-ended.ensures.ended refl judges)

pub returns-in-Over-clause-leaves : goal.returns-in-Over-clause-leaves
returns-in-Over-clause-leaves g c =
    let m = means g.M.FlowMaker g.M.Flow.Flow g.W.Awaits in
    leaves_on m g.K.Gpi _ c.args.engine.now c.end_case-ended.new.engine c.go_on.new.engine c.go_on.new.kernel
    (c.end_case-ended.ensures.keeps.setup ∙ c.run_test.ensures.keeps.setup) c.go_on.ensures.leaves

pub returns-in-Spent-clause-stages : goal.returns-in-Spent-clause-stages
returns-in-Spent-clause-stages g c = λ seed first pend.
    let m = means g.M.FlowMaker g.M.Flow.Flow g.W.Awaits in
    let setup : Setup = setup_of m c.args.engine.now in
    let before : Rig = rig_of m c.args.engine.now (g.K.Gpi.content c.args.kernel.now) in
    let tested : Rig = rig_of m c.run_test.new.engine (g.K.Gpi.content c.run_test.new.kernel) in
    case_short (sink_means g.O.Sink) setup seed c.args.cases.now c.args.budget c.args.progress c.args.fuel.now before first c.args.out.now pend c.get.result.now c.get.ensures c.run_test.new.fuel tested c.run_test.new.out (tests_as (sink_means g.O.Sink) setup (view_case c.get.result.now) c.args.fuel.now before c.args.out.now c.in_ok-outcome.field-0 turn.Spent c.run_test.new.fuel tested c.run_test.new.out c.in-Spent.is c.in_ok-outcome.ensures.tests)
    (g.K.Gpi.content c.run_test.new.kernel) c.end_short.result c.end_short.new.out
    (stands_as (setup_of m c.run_test.new.engine) setup (g.K.Gpi.content c.run_test.new.kernel) tested c.run_test.ensures.keeps.setup
    (fits_stands m c.run_test.new.engine (g.K.Gpi.content c.run_test.new.kernel) (c.in_ok-outcome.ensures.fits (ap (λ (t : Turn). turn_fault (Ok t)) c.in-Spent.is)))) c.end_short.ensures

pub returns-in-Spent-clause-leaves : goal.returns-in-Spent-clause-leaves
returns-in-Spent-clause-leaves g c =
    let m = means g.M.FlowMaker g.M.Flow.Flow g.W.Awaits in
    leaves_amid m g.K.Gpi c.end_short.result c.args.engine.now c.run_test.new.engine c.run_test.new.kernel (short_verdict c.end_short.result c.end_short.ensures.fault c.end_short.ensures.status_is)
    c.run_test.ensures.keeps c.run_test.ensures.idle (c.in_ok-outcome.ensures.fits (ap (λ (t : Turn). turn_fault (Ok t)) c.in-Spent.is))

pub returns-in-WriteFault-clause-stages : goal.returns-in-WriteFault-clause-stages
returns-in-WriteFault-clause-stages g c = λ seed first pend.
    let m = means g.M.FlowMaker g.M.Flow.Flow g.W.Awaits in
    let setup : Setup = setup_of m c.args.engine.now in
    let before : Rig = rig_of m c.args.engine.now (g.K.Gpi.content c.args.kernel.now) in
    let tested : Rig = rig_of m c.run_test.new.engine (g.K.Gpi.content c.run_test.new.kernel) in
    case_broken (sink_means g.O.Sink) setup seed c.args.cases.now c.args.budget c.args.progress c.args.fuel.now before first c.args.out.now pend c.get.result.now c.get.ensures c.run_test.new.fuel tested c.run_test.new.out (tests_as (sink_means g.O.Sink) setup (view_case c.get.result.now) c.args.fuel.now before c.args.out.now c.in_ok-outcome.field-0 turn.WriteFault c.run_test.new.fuel tested c.run_test.new.out c.in-WriteFault.is c.in_ok-outcome.ensures.tests)

pub returns-in-WriteFault-clause-leaves : goal.returns-in-WriteFault-clause-leaves
returns-in-WriteFault-clause-leaves g c =
    let m = means g.M.FlowMaker g.M.Flow.Flow g.W.Awaits in
    leaves_broken m g.K.Gpi c.args.engine.now c.run_test.new.engine c.run_test.new.kernel c.run_test.ensures.keeps c.run_test.ensures.idle
