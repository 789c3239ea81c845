use Rattle.std.proofs.Common.{◌≡◌, Ok, true, arith, ap}
use Rattle.port_io.specs.Means.{sink_means}
use Rattle.rig_model.specs.Run.Rig.{Rig, Setup}
use Rattle.scheduler.specs.Turns.{turn_fault}
use Rattle.scheduler.specs.declared.turned.Turn.{Turn}
use Rattle.scheduler.specs.declared.turned.Turn.TheVariants as turn
use Rattle.scheduler.specs.Parts.{means}
use Rattle.scheduler.specs.Engine.{rig_of, setup_of}
use Rattle.rig_model.specs.Parts.Runs.{is_planned}
use Rattle.command.proofs.RegressionLemmas.StageLaws.{stages_err, waits_as}
use Rattle.command.proofs.RegressionLemmas.Stands.{fits_stands, stands_as}
use Rattle.command.proofs.RegressionLemmas.WaitRuns.{wait_broken, wait_cut, wait_due, wait_spent}
use Rattle.command.proofs.RegressionLemmas.Waiting.{between_planned}
use Rattle.command.proofs.regression.run.wait_start.Goals as goal

pub returns-in_err-take_turns-clause-stages : goal.returns-in_err-take_turns-clause-stages
returns-in_err-take_turns-clause-stages g c = λ seed first waits.
    let m = means g.M.FlowMaker g.M.Flow.Flow g.W.Awaits in
    let setup : Setup = setup_of m c.args.engine.now in
    let before : Rig = rig_of m c.args.engine.now (g.K.Gpi.content c.args.kernel.now) in
    let after : Rig = rig_of m c.take_turns.new.engine (g.K.Gpi.content c.take_turns.new.kernel) in
    let starts : is_planned before ≡ true = between_planned before c.requires.between in
    stages_err (sink_means g.O.Sink) setup seed c.args.cases.now c.args.budget c.args.progress.at c.from_residual.result c.take_turns.new.fuel after (g.K.Gpi.content c.take_turns.new.kernel) first c.take_turns.new.out c.from_residual.ensures.0
    (wait_cut (sink_means g.O.Sink) setup seed c.args.cases.now c.args.budget c.args.progress c.args.fuel.now before first c.args.out.now waits starts c.in_err-take_turns.field-0.0 c.take_turns.new.fuel after c.take_turns.new.out (c.in_err-take_turns.ensures.waits c.requires.between))

pub returns-in-Due-clause-stages : goal.returns-in-Due-clause-stages
returns-in-Due-clause-stages g c = λ seed first waits.
    let m = means g.M.FlowMaker g.M.Flow.Flow g.W.Awaits in
    let setup : Setup = setup_of m c.args.engine.now in
    let before : Rig = rig_of m c.args.engine.now (g.K.Gpi.content c.args.kernel.now) in
    let after : Rig = rig_of m c.take_turns.new.engine (g.K.Gpi.content c.take_turns.new.kernel) in
    let starts : is_planned before ≡ true = between_planned before c.requires.between in (
      omega arith,
      wait_due (sink_means g.O.Sink) setup seed c.args.cases.now c.args.budget c.args.progress c.args.fuel.now before first c.args.out.now waits starts c.take_turns.new.fuel after c.take_turns.new.out (waits_as (sink_means g.O.Sink) setup c.args.fuel.now before c.args.out.now c.in_ok-take_turns.field-0 turn.Due c.take_turns.new.fuel after c.take_turns.new.out c.in-Due.is
          (c.in_ok-take_turns.ensures.waits c.requires.between)) c.requires.within,
    )

pub returns-in-Spent-clause-stages : goal.returns-in-Spent-clause-stages
returns-in-Spent-clause-stages g c = λ seed first waits.
    let m = means g.M.FlowMaker g.M.Flow.Flow g.W.Awaits in
    let setup : Setup = setup_of m c.args.engine.now in
    let before : Rig = rig_of m c.args.engine.now (g.K.Gpi.content c.args.kernel.now) in
    let after : Rig = rig_of m c.take_turns.new.engine (g.K.Gpi.content c.take_turns.new.kernel) in
    let starts : is_planned before ≡ true = between_planned before c.requires.between in
    wait_spent (sink_means g.O.Sink) setup seed c.args.cases.now c.args.budget c.args.progress c.args.fuel.now before first c.args.out.now waits starts c.take_turns.new.fuel after c.take_turns.new.out (waits_as (sink_means g.O.Sink) setup c.args.fuel.now before c.args.out.now c.in_ok-take_turns.field-0 turn.Spent c.take_turns.new.fuel after c.take_turns.new.out c.in-Spent.is
    (c.in_ok-take_turns.ensures.waits c.requires.between))
    (g.K.Gpi.content c.take_turns.new.kernel) c.end_short.result c.end_short.new.out
    (stands_as (setup_of m c.take_turns.new.engine) setup (g.K.Gpi.content c.take_turns.new.kernel) after c.take_turns.ensures.turns.keeps.setup
    (fits_stands m c.take_turns.new.engine (g.K.Gpi.content c.take_turns.new.kernel) (c.in_ok-take_turns.ensures.turns.fits (ap (λ (t : Turn). turn_fault (Ok t)) c.in-Spent.is)))) c.end_short.ensures

pub returns-in-WriteFault-clause-stages : goal.returns-in-WriteFault-clause-stages
returns-in-WriteFault-clause-stages g c = λ seed first waits.
    let m = means g.M.FlowMaker g.M.Flow.Flow g.W.Awaits in
    let setup : Setup = setup_of m c.args.engine.now in
    let before : Rig = rig_of m c.args.engine.now (g.K.Gpi.content c.args.kernel.now) in
    let after : Rig = rig_of m c.take_turns.new.engine (g.K.Gpi.content c.take_turns.new.kernel) in
    let starts : is_planned before ≡ true = between_planned before c.requires.between in
    wait_broken (sink_means g.O.Sink) setup seed c.args.cases.now c.args.budget c.args.progress c.args.fuel.now before first c.args.out.now waits starts c.take_turns.new.fuel after c.take_turns.new.out (waits_as (sink_means g.O.Sink) setup c.args.fuel.now before c.args.out.now c.in_ok-take_turns.field-0 turn.WriteFault c.take_turns.new.fuel after c.take_turns.new.out c.in-WriteFault.is
    (c.in_ok-take_turns.ensures.waits c.requires.between))
