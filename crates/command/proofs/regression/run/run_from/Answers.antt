use Rattle.std.proofs.Common.{◌+◌, ◌≤◌, ◌∙◌, length, rules, arith, refl}
use Rattle.port_io.specs.Means.{sink_means}
use Rattle.rig_model.specs.Run.Rig.{Rig, Setup}
use Rattle.scheduler.specs.Parts.{means}
use Rattle.scheduler.specs.Engine.{rig_of, setup_of}
use Rattle.command.specs.declared.regression.progress.Stage.TheVariants.{Goes, Stops}
use Rattle.command.specs.declared.regression.status.Status.TheVariants.{NoMemory, Passed}
use Rattle.command.specs.Regression.Leaves.{Leaves}
use Rattle.command.proofs.RegressionLemmas.LeaveLaws.{leaves_cleared, leaves_on, passed_fits, run_none, stage_leaves}
use Rattle.command.proofs.RegressionLemmas.StageLaws.{runs_err, stage_cut, stage_goes, stage_stops}
use Rattle.command.proofs.RegressionLemmas.Stands.{fits_stands, stands_as}
use Rattle.command.proofs.RegressionLemmas.WaitRuns.{run_closes}
use Rattle.command.proofs.regression.run.run_from.Goals as goal

pub returns-in_err-next-clause-runs : goal.returns-in_err-next-clause-runs
returns-in_err-next-clause-runs g c = λ seed first pend.
    let m = means g.M.FlowMaker g.M.Flow.Flow g.W.Awaits in
    let setup : Setup = setup_of m c.args.engine.now in
    let now : Rig = rig_of m c.tests.engine (g.K.Gpi.content c.tests.kernel) in
    let after : Rig = rig_of m c.run_case.new.engine (g.K.Gpi.content c.run_case.new.kernel) in
    runs_err (sink_means g.O.Sink) setup seed c.args.cases.now c.args.budget c.from_residual.result after (g.K.Gpi.content c.run_case.new.kernel) first c.run_case.new.out c.from_residual.ensures.0
    (stage_cut (sink_means g.O.Sink) setup (setup_of m c.tests.engine) c.tests.invariant.setup seed c.args.cases.now c.args.budget c.tests.so_far c.tests.fuel now first c.tests.out (c.tests.so_far.at + 1) c.run_case.new.fuel after (g.K.Gpi.content c.run_case.new.kernel) c.run_case.new.out c.in_err-next.field-0.0 (c.in_err-next.ensures.stages seed first) (c.tests.invariant.pending seed first pend))

pub returns-in_err-next-clause-leaves : goal.returns-in_err-next-clause-leaves
returns-in_err-next-clause-leaves g c =
    let m = means g.M.FlowMaker g.M.Flow.Flow g.W.Awaits in
    run_none m g.K.Gpi c.from_residual.result c.args.engine.now c.run_case.new.engine c.run_case.new.kernel c.from_residual.ensures.0
    (leaves_on m g.K.Gpi NoMemory c.args.engine.now c.tests.engine c.run_case.new.engine c.run_case.new.kernel c.tests.invariant.setup c.in_err-next.ensures.leaves)

pub tests-smaller : goal.tests-smaller
tests-smaller g c =
    let m = means g.M.FlowMaker g.M.Flow.Flow g.W.Awaits in
    let setup : Setup = setup_of m c.args.engine.now in
    let now : Rig = rig_of m c.tests.engine (g.K.Gpi.content c.tests.kernel) in
    let after : Rig = rig_of m c.run_case.new.engine (g.K.Gpi.content c.run_case.new.kernel) in
    let goes = (stage_goes (sink_means g.O.Sink) setup (setup_of m c.tests.engine) c.tests.invariant.setup c.tests.invariant.come.seed c.args.cases.now c.args.budget c.tests.so_far c.tests.fuel now c.tests.invariant.come.first c.tests.out (c.tests.so_far.at + 1) c.run_case.new.fuel after (g.K.Gpi.content c.run_case.new.kernel) c.run_case.new.out c.in_ok-next.field-0 c.in-Goes.next c.in-Goes.is
    (c.in_ok-next.ensures.stages c.tests.invariant.come.seed c.tests.invariant.come.first) c.tests.invariant.come.pending) in
    let least : c.tests.so_far.at + 1 ≤ c.in-Goes.next.at = goes.0 in
    let within : c.in-Goes.next.at ≤ length c.args.cases.now = goes.1.stands.within in
    omega (arith, least, within)

pub tests-preserved : goal.tests-preserved
tests-preserved g c =
    let m = means g.M.FlowMaker g.M.Flow.Flow g.W.Awaits in
    let setup : Setup = setup_of m c.args.engine.now in
    let now : Rig = rig_of m c.tests.engine (g.K.Gpi.content c.tests.kernel) in
    let after : Rig = rig_of m c.run_case.new.engine (g.K.Gpi.content c.run_case.new.kernel) in
    let goes = (stage_goes (sink_means g.O.Sink) setup (setup_of m c.tests.engine) c.tests.invariant.setup c.tests.invariant.come.seed c.args.cases.now c.args.budget c.tests.so_far c.tests.fuel now c.tests.invariant.come.first c.tests.out (c.tests.so_far.at + 1) c.run_case.new.fuel after (g.K.Gpi.content c.run_case.new.kernel) c.run_case.new.out c.in_ok-next.field-0 c.in-Goes.next c.in-Goes.is
    (c.in_ok-next.ensures.stages c.tests.invariant.come.seed c.tests.invariant.come.first) c.tests.invariant.come.pending) in
    let leaves : Leaves m g.K.Gpi Passed c.tests.engine c.run_case.new.engine c.run_case.new.kernel
    = stage_leaves m g.K.Gpi c.in_ok-next.field-0 (Goes c.in-Goes.next) c.tests.engine c.run_case.new.engine c.run_case.new.kernel c.in-Goes.is c.in_ok-next.ensures.leaves in
    record {
      pending = λ seed first pend. (stage_goes (sink_means g.O.Sink) setup (setup_of m c.tests.engine) c.tests.invariant.setup seed c.args.cases.now c.args.budget c.tests.so_far c.tests.fuel now first c.tests.out (c.tests.so_far.at + 1) c.run_case.new.fuel after (g.K.Gpi.content c.run_case.new.kernel) c.run_case.new.out c.in_ok-next.field-0 c.in-Goes.next c.in-Goes.is
          (c.in_ok-next.ensures.stages seed first) (c.tests.invariant.pending seed first pend)).1;
      come = record { seed = c.tests.invariant.come.seed; first = c.tests.invariant.come.first; pending = goes.1 };
      setup = leaves.keeps.setup ∙ c.tests.invariant.setup;
      loaded = leaves.keeps.loaded;
      fits = passed_fits m g.K.Gpi c.tests.engine c.run_case.new.engine c.run_case.new.kernel leaves;
      empty = (leaves.cleared refl).empty;
      idle = leaves.idle;
    }

pub returns-in-Stops-clause-runs : goal.returns-in-Stops-clause-runs
returns-in-Stops-clause-runs g c = λ seed first pend.
    let m = means g.M.FlowMaker g.M.Flow.Flow g.W.Awaits in
    let setup : Setup = setup_of m c.args.engine.now in
    let now : Rig = rig_of m c.tests.engine (g.K.Gpi.content c.tests.kernel) in
    let after : Rig = rig_of m c.run_case.new.engine (g.K.Gpi.content c.run_case.new.kernel) in
    stage_stops (sink_means g.O.Sink) setup (setup_of m c.tests.engine) c.tests.invariant.setup seed c.args.cases.now c.args.budget c.tests.so_far c.tests.fuel now first c.tests.out (c.tests.so_far.at + 1) c.run_case.new.fuel after (g.K.Gpi.content c.run_case.new.kernel) c.run_case.new.out c.in_ok-next.field-0 c.in-Stops.status c.in-Stops.is
    (c.in_ok-next.ensures.stages seed first) (c.tests.invariant.pending seed first pend)

pub returns-in-Stops-clause-leaves : goal.returns-in-Stops-clause-leaves
returns-in-Stops-clause-leaves g c =
    let m = means g.M.FlowMaker g.M.Flow.Flow g.W.Awaits in
    leaves_on m g.K.Gpi c.in-Stops.status c.args.engine.now c.tests.engine c.run_case.new.engine c.run_case.new.kernel c.tests.invariant.setup
    (stage_leaves m g.K.Gpi c.in_ok-next.field-0 (Stops c.in-Stops.status) c.tests.engine c.run_case.new.engine c.run_case.new.kernel c.in-Stops.is c.in_ok-next.ensures.leaves)

pub returns-clause-runs : goal.returns-clause-runs
returns-clause-runs g c = λ seed first pend.
    let m = means g.M.FlowMaker g.M.Flow.Flow g.W.Awaits in
    let setup : Setup = setup_of m c.args.engine.now in
    let now : Rig = rig_of m c.tests.engine (g.K.Gpi.content c.tests.kernel) in
    let behind : length c.args.cases.now ≤ c.tests.so_far.at = search rules in
    run_closes (sink_means g.O.Sink) setup seed c.args.cases.now c.args.budget c.tests.so_far c.tests.fuel now first c.tests.out (g.K.Gpi.content c.tests.kernel) c.now.result c.close.result c.close.new.out
    (c.tests.invariant.pending seed first pend) behind c.tests.invariant.empty
    (stands_as (setup_of m c.tests.engine) setup (g.K.Gpi.content c.tests.kernel) now c.tests.invariant.setup (fits_stands m c.tests.engine (g.K.Gpi.content c.tests.kernel) c.tests.invariant.fits))
    c.now.ensures c.close.ensures

pub returns-clause-leaves : goal.returns-clause-leaves
returns-clause-leaves g c =
    let m = means g.M.FlowMaker g.M.Flow.Flow g.W.Awaits in
    leaves_cleared m g.K.Gpi c.close.result c.args.engine.now c.tests.engine c.tests.kernel c.tests.invariant.setup c.tests.invariant.loaded c.tests.invariant.idle c.tests.invariant.fits c.tests.invariant.empty
