use Rattle.std.proofs.Common.{◌≡◌, ◌-◌, ℕ, false, length}
use Rattle.port_io.specs.Means.{sink_means}
use Rattle.scheduler.specs.Parts.{means}
use Rattle.scheduler.specs.Engine.{rig_of, runs_test, setup_of}
use Rattle.scheduler.specs.Fits.{FitsKernel}
use Rattle.command.specs.Regression.Stages.{HasCome, IsEmpty, IsPending}
use Rattle.command.proofs.regression.run.run_from.Given as goal

-- where the run has come from the start
abbrev pub invariant-tests : goal.invariant-tests
invariant-tests g l =
    let m = means g.M.FlowMaker g.M.Flow.Flow g.W.Awaits in
    let setup = setup_of m l.fn.engine in
    let start = rig_of m l.fn.engine (g.K.Gpi.content l.fn.kernel) in
    let now = rig_of m l.engine (g.K.Gpi.content l.kernel) in
    record {
      pending : (seed : ℕ) (first : _) → IsPending (sink_means g.O.Sink) setup seed l.cases l.budget l.fn.progress l.budget start first l.fn.out
          → IsPending (sink_means g.O.Sink) setup seed l.cases l.budget l.so_far l.fuel now first l.out;
      come : HasCome (sink_means g.O.Sink) setup l.cases l.budget l.so_far l.fuel now l.out;
      setup : setup_of m l.engine ≡ setup;
      loaded : g.K.Gpi.is_loaded l.kernel;
      fits : FitsKernel m l.engine (g.K.Gpi.content l.kernel);
      empty : IsEmpty now;
      idle : runs_test l.engine ≡ false;
    }

abbrev pub decreases-tests : goal.decreases-tests
decreases-tests g l = length l.cases - l.so_far.at
