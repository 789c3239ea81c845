-- A means of proof: where the tasks of a configuration stand, for the laws that each effect of a test keeps it.
use Rattle.std.specs.Prelude.{◌≤◌, length, Option, None, Some}
use Rattle.py_value.specs.declared.trigger.TaskNo.{TaskNo}
use Rattle.rig_model.specs.Run.Limits.{live_limit}
use Rattle.rig_model.specs.Run.Rig.{Rig, Running}
use Rattle.rig_model.specs.Parts.Placed.{ArePlaced, placed}

-- the task that has its turn, if one has
abbrev pub turn_of : Option Running → Option TaskNo
turn_of None = None
turn_of (Some r) = Some r.task

-- Where this task has its turn, it, those that are ready and those that wait are live, none stands in two places, of the tasks that were started each one
-- lives or has ended, and no more live than may.
pub record StandsIn (turn : Option TaskNo) (c : Rig) : Type 0 where
  pub placed_are : ArePlaced c.tasks c.endings (placed turn c.ready c.waiting)
  pub live : length c.tasks ≤ live_limit

-- the same with the turn that the configuration says
abbrev pub StandsOwn : Rig → Type 0
StandsOwn c = StandsIn (turn_of c.running) c
