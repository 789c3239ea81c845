use Rattle.std.proofs.Common.{◌≡◌, vec_len}
use Rattle.task_core.specs.OpenCall.Parts.{from_mark, unwound}
use Rattle.task_core.proofs.open_call.todo.TodoStack.take_mark.Given as goal

abbrev pub invariant-loop-part : goal.invariant-loop-part
invariant-loop-part g l = from_mark (unwound g.C.Code.reads l.self.parts.items) ≡ from_mark (unwound g.C.Code.reads l.fn.self.parts.items)

abbrev pub decreases-loop-part : goal.decreases-loop-part
decreases-loop-part g l = vec_len l.self.parts
