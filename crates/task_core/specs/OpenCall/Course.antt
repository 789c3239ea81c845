-- A means of proof: the jumps, courses and wishes that the code's types stand for, for the proofs of a task's open calls.
use Rattle.rig_model.specs.Task.Frame as frame
use Rattle.rig_model.specs.Task.Moves as move
use Rattle.task_core.specs.declared.open_call.course.Jump.{Jump}
use Rattle.task_core.specs.declared.open_call.course.Jump.TheVariants as jump
use Rattle.task_core.specs.declared.open_call.course.Course.{Course}
use Rattle.task_core.specs.declared.open_call.course.Course.TheVariants as course
use Rattle.task_core.specs.declared.open_call.course.Wish.{Wish}
use Rattle.task_core.specs.declared.open_call.course.Wish.TheVariants as wish

abbrev pub jump_in : Jump → frame.Jump
jump_in (jump.Throw fault) = frame.Throw fault
jump_in (jump.Return v) = frame.Return v
jump_in jump.Break = frame.Break
jump_in jump.Continue = frame.Continue

abbrev pub course_in : Course → frame.Course
course_in course.On = frame.On
course_in (course.Has v) = frame.Has v
course_in (course.Leaves j) = frame.Leaves (jump_in j)

abbrev pub wish_in : Wish → move.Wish
wish_in wish.Nothing = move.Nothing
wish_in (wish.Asks t) = move.Asks t
wish_in (wish.Calls n vs) = move.Calls n vs
wish_in (wish.Ends j) = move.Ends (jump_in j)
