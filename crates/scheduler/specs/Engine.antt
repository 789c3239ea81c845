-- A means of proof: the configuration that an engine stands for, together with a simulator, for the proofs of the runner's turns.
use Rattle.std.specs.Prelude.{Bool}
use Rattle.gpi.specs.Content.{Content}
use Rattle.gpi.specs.declared.interface.Gpi.{Ghosts as GpiGhosts}
use Rattle.gpi.specs.declared.types.Counts.{Counts}
use Rattle.scheduler.specs.Setups as events
use Rattle.rig_model.specs.Run.Rig.{Rig, Setup}
use Rattle.scheduler.specs.Parts as parts
use Rattle.scheduler.specs.Parts.{Means}
use Rattle.scheduler.specs.declared.engine.Engine.{Engine}

-- what all its tests share
abbrev pub setup_of : {M W F : Type 0} → Means M W F → Engine M W F → Setup
setup_of m e = events.setup_of (m.functions e.test.tasks.maker) e.teller

-- The configuration between two turns, in all but what has been written and what it has cost: the engine's parts, and the state and the counts that the
-- simulator holds. The answers of the calls tell the outcome.
abbrev pub rig_of : {M W F : Type 0} → Means M W F → Engine M W F → Content → Rig
rig_of m e content = parts.rig_of m e.test content

-- with these counts
abbrev pub counting : Counts → Rig → Rig
counting counts c = record c { counts = counts }

-- a test was begun, and has no outcome yet: a turn may follow
abbrev pub runs_test : {M W F : Type 0} → Engine M W F → Bool
runs_test e = e.runs_test

-- P holds of what all tests share and of the configuration: those of the engine and the simulator.
abbrev pub Holds : {M W F K : Type 0} → Means M W F → GpiGhosts K → (Setup → Rig → Type 0) → Engine M W F → K → Type 0
Holds m gpi P e kernel = P (setup_of m e) (rig_of m e (gpi.content kernel))

-- R relates what all tests share and the configuration before with the one after: those of the engine and the simulator before, and of the two after.
abbrev pub Relates : {M W F K : Type 0} → Means M W F → GpiGhosts K → (Setup → Rig → Rig → Type 0) → Engine M W F → K → Engine M W F → K → Type 0
Relates m gpi R before kernel after kernel' = R (setup_of m before) (rig_of m before (gpi.content kernel)) (rig_of m after (gpi.content kernel'))
