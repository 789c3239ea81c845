use Rattle.std.proofs.Common.{Result, subst, ◌≤◌}
use Rattle.port_io.specs.Means.{sink_means}
use Rattle.rig_model.specs.Run.Rig.{Rig, Setup}
use Rattle.scheduler.specs.Parts.{means}
use Rattle.scheduler.specs.Engine.{rig_of, setup_of}
use Rattle.std.specs.Prelude.{IfOk}
use Rattle.port_io.specs.declared.ports.SinkFault.{SinkFault}
use Rattle.command.specs.Regression.Stages.{AfterEnd}
use Rattle.command.specs.declared.regression.progress.Progress.{Progress}
use Rattle.command.proofs.RegressionLemmas.StageLaws.{stages_from}
use Rattle.command.proofs.regression.run.go_on.Goals as goal

pub returns-in-Ok-clause-stages : goal.returns-in-Ok-clause-stages
returns-in-Ok-clause-stages g c = λ seed first least h ended.
    let m = means g.M.FlowMaker g.M.Flow.Flow g.W.Awaits in
    let setup : Setup = setup_of m c.args.engine.now in
    let before : Rig = rig_of m c.args.engine.now (g.K.Gpi.content c.args.kernel.now) in
    stages_from (sink_means g.O.Sink) setup seed c.args.cases.now c.args.budget least c.in-Ok.progress.at c.wait_next.result c.wait_next.new.fuel (rig_of m c.wait_next.new.engine (g.K.Gpi.content c.wait_next.new.kernel)) (g.K.Gpi.content c.wait_next.new.kernel) first c.wait_next.new.out
    (subst (λ (r : Result Progress SinkFault). IfOk r (λ (p : Progress). least ≤ p.at)) c.in-Ok.is h)
    (c.wait_next.ensures.stages seed first
    (subst (λ (r : Result Progress SinkFault). AfterEnd (sink_means g.O.Sink) setup seed c.args.cases.now c.args.budget r c.args.fuel.now before first c.args.out.now) c.in-Ok.is ended))
