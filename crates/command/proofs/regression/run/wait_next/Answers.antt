use Rattle.std.proofs.Common.{◌≤◌, ◌<◌, length, rules, arith, subst}
use Rattle.port_io.specs.Means.{sink_means}
use Rattle.rig_model.specs.Run.Rig.{Rig, Setup}
use Rattle.scheduler.specs.Parts.{means}
use Rattle.scheduler.specs.Engine.{rig_of, setup_of}
use Rattle.command.specs.Regression.Stages.{IsWaiting, StagesTo}
use Rattle.command.proofs.RegressionLemmas.StageLaws.{stages_err}
use Rattle.command.proofs.RegressionLemmas.WaitRuns.{ended_cut, ended_last, ended_waits}
use Rattle.command.proofs.regression.run.wait_next.Goals as goal

pub returns-then-progress-len-clause-stages : goal.returns-then-progress-len-clause-stages
returns-then-progress-len-clause-stages g c = λ seed first ended.
    let m = means g.M.FlowMaker g.M.Flow.Flow g.W.Awaits in
    let setup : Setup = setup_of m c.args.engine.now in
    let before : Rig = rig_of m c.args.engine.now (g.K.Gpi.content c.args.kernel.now) in
    let behind : length c.args.cases.now ≤ c.args.progress.at = search rules in
    (omega arith, ended_last (sink_means g.O.Sink) setup seed c.args.cases.now c.args.budget c.args.progress c.args.fuel.now before first c.args.out.now behind ended)

pub returns-in_err-plan_start-clause-stages : goal.returns-in_err-plan_start-clause-stages
returns-in_err-plan_start-clause-stages g c = λ seed first ended.
    let m = means g.M.FlowMaker g.M.Flow.Flow g.W.Awaits in
    let setup : Setup = setup_of m c.args.engine.now in
    let before : Rig = rig_of m c.args.engine.now (g.K.Gpi.content c.args.kernel.now) in
    let within : c.args.progress.at < length c.args.cases.now = search rules in
    stages_err (sink_means g.O.Sink) setup seed c.args.cases.now c.args.budget c.args.progress.at c.from_residual.result c.args.fuel.now (rig_of m c.plan_start.new.self (g.K.Gpi.content c.plan_start.new.kernel)) (g.K.Gpi.content c.plan_start.new.kernel) first c.args.out.now
    c.from_residual.ensures.0 (ended_cut (sink_means g.O.Sink) setup seed c.args.cases.now c.args.budget c.args.progress c.args.fuel.now before first c.args.out.now within ended)

pub returns-clause-stages : goal.returns-clause-stages
returns-clause-stages g c = λ seed first ended.
    let m = means g.M.FlowMaker g.M.Flow.Flow g.W.Awaits in
    let setup : Setup = setup_of m c.args.engine.now in
    let before : Rig = rig_of m c.args.engine.now (g.K.Gpi.content c.args.kernel.now) in
    let within : c.args.progress.at < length c.args.cases.now = search rules in
    let planned : Rig = rig_of m c.plan_start.new.self (g.K.Gpi.content c.plan_start.new.kernel) in
    let after : Rig = rig_of m c.wait_start.new.engine (g.K.Gpi.content c.wait_start.new.kernel) in
    subst (λ (x : Setup). IsWaiting (sink_means g.O.Sink) x seed c.args.cases.now c.args.budget c.args.progress c.args.fuel.now planned first c.args.out.now
    → StagesTo (sink_means g.O.Sink) x seed c.args.cases.now c.args.budget c.args.progress.at c.wait_start.result c.wait_start.new.fuel after (g.K.Gpi.content c.wait_start.new.kernel) first c.wait_start.new.out)
    c.plan_start.ensures.keeps.setup (c.wait_start.ensures.stages seed first)
    (ended_waits (sink_means g.O.Sink) setup seed c.args.cases.now c.args.budget c.args.progress c.args.fuel.now before planned first c.args.out.now within c.in_ok-plan_start.ensures.planned ended)
