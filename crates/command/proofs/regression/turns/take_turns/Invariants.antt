use Rattle.std.proofs.Common.{◌≡◌, ◌⊎◌, ℕ, None, Result}
use Rattle.port_io.specs.Means.{sink_means}
use Rattle.port_io.specs.declared.ports.NoMemory.{NoMemory}
use Rattle.rig_model.specs.Run.Rig.{Rig}
use Rattle.rig_model.specs.Parts.Steps.{FitSteps, anywhere}
use Rattle.scheduler.specs.Turns.{Turning}
use Rattle.scheduler.specs.declared.turned.Turn.{Turn}
use Rattle.scheduler.specs.BetweenTests.{IsBetween}
use Rattle.scheduler.specs.Parts.{means}
use Rattle.scheduler.specs.Engine.{rig_of, setup_of}
use Rattle.scheduler.specs.Fits.{FitsKernel}
use Rattle.scheduler.proofs.StepsLeft.{steps_left}
use Rattle.command.specs.Regression.Stages.{WaitTurns}
use Rattle.command.proofs.regression.turns.take_turns.Given as goal

-- what the turns come to from here is what they come to from the start
abbrev pub invariant-turns : goal.invariant-turns
invariant-turns g l =
    let m = means g.M.FlowMaker g.M.Flow.Flow g.W.Awaits in
    let start = rig_of m l.fn.engine (g.K.Gpi.content l.fn.kernel) in
    let now = rig_of m l.engine (g.K.Gpi.content l.kernel) in
    record {
      turning : (r : Result Turn NoMemory) (fuel : ℕ) (e : Rig) (out : _)
          → Turning (sink_means g.O.Sink) (FitSteps anywhere (setup_of m l.fn.engine)) (setup_of m l.fn.engine) l.fuel now l.out r fuel e out
          → Turning (sink_means g.O.Sink) (FitSteps anywhere (setup_of m l.fn.engine)) (setup_of m l.fn.engine) l.fn.fuel start l.fn.out r fuel e out;
      waits : IsBetween start → (r : Result Turn NoMemory) (fuel : ℕ) (e : Rig) (out : _)
          → WaitTurns (sink_means g.O.Sink) (setup_of m l.fn.engine) l.fuel now l.out r fuel e out
          → WaitTurns (sink_means g.O.Sink) (setup_of m l.fn.engine) l.fn.fuel start l.fn.out r fuel e out;
      between : IsBetween start → IsBetween now;
      place : (now.planned ≡ None) ⊎ IsBetween now;
      setup : setup_of m l.engine ≡ setup_of m l.fn.engine;
      loaded : g.K.Gpi.is_loaded l.kernel;
      fits : FitsKernel m l.engine (g.K.Gpi.content l.kernel);
    }

-- how many steps are left
abbrev pub decreases-turns : goal.decreases-turns
decreases-turns g l =
    let m = means g.M.FlowMaker g.M.Flow.Flow g.W.Awaits in
    steps_left anywhere (setup_of m l.fn.engine) l.fuel (rig_of m l.engine (g.K.Gpi.content l.kernel))
