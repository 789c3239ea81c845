-- A means of proof: which triggers a task may wait for, for the proofs of the runner's turns.
use Rattle.std.specs.Prelude.{◌≡◌, ◌≤◌, length}
use Rattle.py_value.specs.Trigger.{Trig}
use Rattle.py_evaluate.specs.Attribute.Look.{View}
use Rattle.rig_model.specs.Run.Known.{KnowsTrigger}
use Rattle.rig_model.specs.Run.Rig.{Rig}

-- A view knows the trigger in which no more was made than in the configuration, and which is of as many signals.
pub record KnowsWait (c : Rig) (trig : Trig) : Type 0 where
  pub view : View
  pub signals : length c.sim.signals ≡ length view.signals
  pub events : length view.events ≤ length c.objects.events
  pub locks : length view.locks ≤ length c.objects.locks
  pub ended : length view.ended ≤ length c.endings
  pub known : KnowsTrigger view trig
