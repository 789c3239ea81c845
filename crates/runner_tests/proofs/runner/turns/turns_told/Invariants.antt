use Rattle.std.proofs.Common.{◌≡◌, ◌⊎◌, ◌++◌, ℕ, List, None}
use Rattle.std.specs.Prelude.{string_bytes}
use Rattle.port_io.specs.Means.{sink_means}
use Rattle.rig_model.specs.Parts.Steps.{anywhere}
use Rattle.scheduler.specs.Parts.{means}
use Rattle.scheduler.specs.Engine.{rig_of, setup_of}
use Rattle.scheduler.specs.Fits.{FitsKernel}
use Rattle.scheduler.proofs.StepsLeft.{steps_left}
use Rattle.scheduler.specs.BetweenTests.{IsBetween}
use Rattle.runner_tests.specs.Runner.Turns.{TellsTurns, turns_budget}
use Rattle.runner_tests.proofs.runner.turns.turns_told.Given as goal

-- what is told from here on stands behind what was told
abbrev pub invariant-turns : goal.invariant-turns
invariant-turns g l =
    let m = means g.M.FlowMaker g.M.Flow.Flow g.W.Awaits in
    let setup = setup_of m l.fn.engine in
    let start = rig_of m l.fn.engine (g.K.Gpi.content l.fn.kernel) in
    let now = rig_of m l.engine (g.K.Gpi.content l.kernel) in
    record {
      tells : (count : ℕ) (more : List ℕ) → TellsTurns (sink_means g.O.Sink) setup count l.fuel now l.out more
          → (whole : ℕ) × TellsTurns (sink_means g.O.Sink) setup whole turns_budget start l.fn.out (string_bytes l.text ++ more);
      place : (now.planned ≡ None) ⊎ IsBetween now;
      setup : setup_of m l.engine ≡ setup;
      loaded : g.K.Gpi.is_loaded l.kernel;
      fits : FitsKernel m l.engine (g.K.Gpi.content l.kernel);
    }

-- how many steps are left
abbrev pub decreases-turns : goal.decreases-turns
decreases-turns g l =
    let m = means g.M.FlowMaker g.M.Flow.Flow g.W.Awaits in
    steps_left anywhere (setup_of m l.fn.engine) l.fuel (rig_of m l.engine (g.K.Gpi.content l.kernel))
