use Rattle.std.proofs.Common.{List, sym, ap, ◌∙◌}
use Rattle.task_core.proofs.OpenCallLemmas.Unwound.{taken_nothing}
use Rattle.task_core.specs.OpenCall.Parts.{unwound}
use Rattle.task_core.specs.declared.open_call.todo.Part.{Part}
use Rattle.task_core.proofs.open_call.todo.TodoStack.take.Goals as goal

pub loop-part-preserved : goal.loop-part-preserved
loop-part-preserved g c =
    sym (taken_nothing g.C.Code.reads c.pop.new.self.items c.in-Block.block c.in_default-first.ensures)
    ∙ ap (λ ps. unwound g.C.Code.reads ps) (sym (rw c.in-Block.is at c.in-Some.ensures.items))
    ∙ c.loop-part.invariant
