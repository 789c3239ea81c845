-- A means of proof: what a call does with what it is given.
use Rattle.std.specs.Prelude.{Bool, true, false}
use Rattle.py_value.specs.declared.value.Value.{Value}
use Rattle.rig_model.specs.Task.Blocks.{do_first}
use Rattle.rig_model.specs.Task.Frame.{Todo, Uses, Course, Leaves}
use Rattle.rig_model.specs.Task.Moves.{At, Move}
use Rattle.rig_model.specs.Task.Values.{use_value}

-- whether it leaves blocks
abbrev pub is_leaving : Course → Bool
is_leaving (Leaves jump) = true
is_leaving _ = false

-- the first thing to do, which is taken off, uses a value, or lets it go
abbrev pub use_first : Value → Todo → At → Move
use_first v (Uses u) a = use_value u v a
use_first v todo a = do_first todo a
