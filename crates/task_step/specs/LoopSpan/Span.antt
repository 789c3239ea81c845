-- A means of proof: what the code keeps of what a `for` has still to go over, for the proofs of a task's loops.
use Rattle.std.specs.Prelude.{ℤ, ◌+ℤ◌}
use Rattle.py_value.specs.Integer.Integer.{number}
use Rattle.rig_model.specs.Task.Frame as frame
use Rattle.task_step.specs.declared.loop_span.left.Left.{Left}
use Rattle.task_step.specs.declared.loop_span.left.Left.TheVariants.{Numbers, Listed}
use Rattle.task_step.specs.declared.loop_span.left.Upcoming.{Upcoming}
use Rattle.task_step.specs.declared.loop_span.left.Upcoming.TheVariants.{First, Behind}

-- the next number of a range with this step
abbrev pub upcoming : Upcoming → ℤ → ℤ
upcoming (First z) step = number z
upcoming (Behind z) step = z +ℤ step

abbrev pub left_in : Left → frame.Left
left_in (Numbers next stop step) = frame.Numbers (upcoming next (number step)) (number stop) (number step)
left_in (Listed cs) = frame.Listed cs.now
