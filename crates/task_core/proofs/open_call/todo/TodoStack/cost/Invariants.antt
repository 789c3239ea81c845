use Rattle.std.proofs.Common.{◌≡◌, take}
use Rattle.rig_model.specs.Task.Cost.{first_cost}
use Rattle.task_core.specs.OpenCall.Parts.{unwound}
use Rattle.task_core.proofs.open_call.todo.TodoStack.cost.Given as goal

abbrev pub invariant-loop-at : goal.invariant-loop-at
invariant-loop-at g l = first_cost (unwound g.C.Code.reads l.self.parts.items) ≡ first_cost (unwound g.C.Code.reads (take l.at l.self.parts.items))
