use Rattle.std.proofs.Common.{◌≡◌, ℕ, None, Some, Result}
use Rattle.port_io.specs.Means.{sink_means}
use Rattle.port_io.specs.declared.ports.NoMemory.{NoMemory}
use Rattle.rig_model.specs.Task.Known.{KnowsGiven}
use Rattle.rig_model.specs.Run.Effect.{goes_on}
use Rattle.rig_model.specs.Run.Rig.{Rig, view_of}
use Rattle.rig_model.specs.Parts.Steps.{FitSteps, in_turn}
use Rattle.scheduler.specs.Turns.{Turning}
use Rattle.scheduler.specs.declared.turned.Turn.{Turn}
use Rattle.scheduler.specs.Parts.{means}
use Rattle.scheduler.specs.Engine.{rig_of, setup_of}
use Rattle.scheduler.specs.Fits.{FitsAt}
use Rattle.scheduler.proofs.StepsLeft.{steps_left}
use Rattle.scheduler.proofs.engine.Engine.run_task.Given as goal

-- what the turn comes to from here is what it comes to from its start
abbrev pub invariant-effects : goal.invariant-effects
invariant-effects g l =
    let m = means g.M.FlowMaker g.M.Flow.Flow g.W.Awaits in
    record {
      turning : (r : Result Turn NoMemory) (fuel : ℕ) (e : Rig) (out : _)
          → Turning (sink_means g.O.Sink) (FitSteps in_turn (setup_of m l.fn.self)) (setup_of m l.fn.self) l.fuel (goes_on l.task (Some l.given) (rig_of m l.self (g.K.Gpi.content l.kernel))) l.out r fuel e out
          → Turning (sink_means g.O.Sink) (FitSteps in_turn (setup_of m l.fn.self)) (setup_of m l.fn.self) l.fn.fuel (goes_on l.fn.task (Some l.fn.given) (rig_of m l.fn.self (g.K.Gpi.content l.fn.kernel))) l.fn.out r fuel e out;
      setup : setup_of m l.self ≡ setup_of m l.fn.self;
      fits : FitsAt (Some l.task) m l.self (g.K.Gpi.content l.kernel);
      none : l.self.test.queue.planned ≡ None;
      known : KnowsGiven (view_of (setup_of m l.self) (rig_of m l.self (g.K.Gpi.content l.kernel))) l.given;
      runs : l.self.runs_test ≡ l.fn.self.runs_test;
      loaded : g.K.Gpi.is_loaded l.kernel;
    }

abbrev pub decreases-effects : goal.decreases-effects
decreases-effects g l =
    let m = means g.M.FlowMaker g.M.Flow.Flow g.W.Awaits in
    steps_left in_turn (setup_of m l.fn.self) l.fuel (goes_on l.task (Some l.given) (rig_of m l.self (g.K.Gpi.content l.kernel)))
