use Rattle.std.proofs.Common.{Err, refl, subst}
use Rattle.port_io.specs.Means.{sink_means}
use Rattle.rig_model.specs.Run.Rig.{Rig, Setup}
use Rattle.scheduler.specs.Parts.{means}
use Rattle.scheduler.specs.Engine.{rig_of, setup_of}
use Rattle.port_io.specs.declared.ports.SinkFault.{SinkFault}
use Rattle.port_io.specs.declared.ports.SinkFault.TheVariants.{Failed, OutOfMemory}
use Rattle.command.specs.Regression.Stages.{Skips}
use Rattle.command.proofs.RegressionLemmas.LeaveLaws.{keeps_fits, leaves_broken, leaves_none}
use Rattle.command.proofs.RegressionLemmas.WaitRuns.{opens_broken, opens_pending}
use Rattle.command.proofs.regression.run.run_tests.Goals as goal

pub run_from-requires-clause-come : goal.run_from-requires-clause-come
run_from-requires-clause-come g c =
    let m = means g.M.FlowMaker g.M.Flow.Flow g.W.Awaits in
    let setup : Setup = setup_of m c.args.engine.now in
    let before : Rig = rig_of m c.args.engine.now (g.K.Gpi.content c.args.kernel.now) in
    record {
      seed = c.requires.opening.0;
      first = c.args.out.now;
      pending = opens_pending (sink_means g.O.Sink) setup c.requires.opening.0 c.args.cases.now c.args.budget c.new.result c.new.ensures.at c.new.ensures.tally before c.requires.opening.1 c.args.out.now c.now.result c.in-Ok.progress c.skip_tests.new.out c.now.ensures c.in-Ok.ensures;
    }

pub returns-in-Ok-clause-runs : goal.returns-in-Ok-clause-runs
returns-in-Ok-clause-runs g c = λ seed opens.
    let m = means g.M.FlowMaker g.M.Flow.Flow g.W.Awaits in
    let setup : Setup = setup_of m c.args.engine.now in
    let before : Rig = rig_of m c.args.engine.now (g.K.Gpi.content c.args.kernel.now) in
    c.run_from.ensures.runs seed c.args.out.now (opens_pending (sink_means g.O.Sink) setup seed c.args.cases.now c.args.budget c.new.result c.new.ensures.at c.new.ensures.tally before opens c.args.out.now c.now.result c.in-Ok.progress c.skip_tests.new.out c.now.ensures c.in-Ok.ensures)

pub returns-in-Err-Failed-clause-runs : goal.returns-in-Err-Failed-clause-runs
returns-in-Err-Failed-clause-runs g c = λ seed opens.
    let m = means g.M.FlowMaker g.M.Flow.Flow g.W.Awaits in
    let setup : Setup = setup_of m c.args.engine.now in
    let before : Rig = rig_of m c.args.engine.now (g.K.Gpi.content c.args.kernel.now) in
    opens_broken (sink_means g.O.Sink) setup seed c.args.cases.now c.args.budget c.new.result c.new.ensures.at c.new.ensures.tally before opens c.args.out.now c.now.result Failed c.skip_tests.new.out c.now.ensures
    (subst (λ (fault : SinkFault). Skips (sink_means g.O.Sink) c.now.result c.args.cases.now c.new.result (Err fault) c.args.out.now c.skip_tests.new.out) c.in-Err-Failed.field-0-is c.in-Err-Failed.ensures)

pub returns-in-Err-Failed-clause-leaves : goal.returns-in-Err-Failed-clause-leaves
returns-in-Err-Failed-clause-leaves g c =
    let m = means g.M.FlowMaker g.M.Flow.Flow g.W.Awaits in
    leaves_broken m g.K.Gpi c.args.engine.now c.args.engine.now c.args.kernel.now (keeps_fits m g.K.Gpi c.args.engine.now c.args.engine.now c.args.kernel.now refl c.requires.loaded c.requires.fits) c.requires.idle

pub returns-in-Err-OutOfMemory-clause-runs : goal.returns-in-Err-OutOfMemory-clause-runs
returns-in-Err-OutOfMemory-clause-runs g c = λ seed opens.
    let m = means g.M.FlowMaker g.M.Flow.Flow g.W.Awaits in
    let setup : Setup = setup_of m c.args.engine.now in
    let before : Rig = rig_of m c.args.engine.now (g.K.Gpi.content c.args.kernel.now) in
    opens_broken (sink_means g.O.Sink) setup seed c.args.cases.now c.args.budget c.new.result c.new.ensures.at c.new.ensures.tally before opens c.args.out.now c.now.result OutOfMemory c.skip_tests.new.out c.now.ensures
    (subst (λ (fault : SinkFault). Skips (sink_means g.O.Sink) c.now.result c.args.cases.now c.new.result (Err fault) c.args.out.now c.skip_tests.new.out) c.in-Err-OutOfMemory.field-0-is c.in-Err-OutOfMemory.ensures)

pub returns-in-Err-OutOfMemory-clause-leaves : goal.returns-in-Err-OutOfMemory-clause-leaves
returns-in-Err-OutOfMemory-clause-leaves g c =
    let m = means g.M.FlowMaker g.M.Flow.Flow g.W.Awaits in
    leaves_none m g.K.Gpi c.args.engine.now c.args.engine.now c.args.kernel.now (keeps_fits m g.K.Gpi c.args.engine.now c.args.engine.now c.args.kernel.now refl c.requires.loaded c.requires.fits) c.requires.idle
