-- A means of proof: what a stack of parts holds, for the proofs of a task's open calls.
use Rattle.std.specs.Prelude.{List, [], ◌∷◌, ◌++◌}
use Rattle.py_syntax.specs.ExpressionTrees.{view}
use Rattle.task_step.specs.LoopSpan.Span.{left_in}
use Rattle.rig_model.specs.Task.Frame as frame
use Rattle.rig_model.specs.Task.Frame.{items}
use Rattle.task_core.specs.Code.Reading.{Reading}
use Rattle.task_core.specs.Code.Head.{head_in}
use Rattle.task_core.specs.declared.open_call.todo.Use.{Use}
use Rattle.task_core.specs.declared.open_call.todo.Use.TheVariants as uses
use Rattle.task_core.specs.declared.open_call.todo.Mark.{Mark}
use Rattle.task_core.specs.declared.open_call.todo.Mark.TheVariants as mark
use Rattle.task_core.specs.declared.open_call.todo.Todo.{Todo}
use Rattle.task_core.specs.declared.open_call.todo.Todo.TheVariants as todo
use Rattle.task_core.specs.declared.open_call.todo.Stop.{Stop}
use Rattle.task_core.specs.declared.open_call.todo.Stop.TheVariants as stop
use Rattle.task_core.specs.declared.open_call.todo.Part.{Part}
use Rattle.task_core.specs.declared.open_call.todo.Part.TheVariants as part
use Rattle.task_core.specs.declared.open_call.todo.TodoStack.{TodoStack}

abbrev pub use_in : Use → frame.Use
use_in (uses.Assigns n) = frame.Assigns n.now
use_in (uses.Writes e) = frame.Writes (view e.now)
use_in uses.Returns = frame.Returns
use_in (uses.Times steps) = frame.Times steps
use_in (uses.Limited t) = frame.Limited t

abbrev pub mark_in : {C : Type 0} → (C → Reading) → Mark C → frame.Todo
mark_in r (mark.Again e block) = frame.Again (view e.now) (r block).block
mark_in r (mark.Each n left block) = frame.Each n.now (left_in left) (r block).block
mark_in r (mark.Uses u) = frame.Uses (use_in u)
mark_in r (mark.Enters l block) = frame.Uses (frame.Enters l (r block).block)
mark_in r (mark.Handles hs) = frame.Handles (r hs).handlers
mark_in r (mark.Bound n) = frame.Bound n.now
mark_in r (mark.Holds l) = frame.Holds l

abbrev pub todo_of : {C : Type 0} → (C → Reading) → Todo C → frame.Todo
todo_of r (todo.Do head) = frame.Do (head_in r head)
todo_of r (todo.Mark m) = mark_in r m

abbrev pub part_todo : {C : Type 0} → (C → Reading) → Part C → List frame.Todo
part_todo r (part.Block block) = items (r block).block
part_todo r (part.Mark m) = mark_in r m ∷ []

-- the last part is the first to do
abbrev pub unwound : {C : Type 0} → (C → Reading) → List (Part C) → List frame.Todo
unwound r [] = []
unwound r (p ∷ ps) = unwound r ps ++ part_todo r p

abbrev pub todos_in : {C : Type 0} → (C → Reading) → TodoStack C → List frame.Todo
todos_in r s = unwound r s.parts.items

-- What is to do from the first mark on that counts where blocks are left: statements are passed, and uses of values but that of a limit.
abbrev pub from_mark : List frame.Todo → List frame.Todo
from_mark [] = []
from_mark (frame.Do i ∷ rest) = from_mark rest
from_mark (frame.Uses (frame.Limited t) ∷ rest) = frame.Uses (frame.Limited t) ∷ rest
from_mark (frame.Uses u ∷ rest) = from_mark rest
from_mark (t ∷ rest) = t ∷ rest

abbrev pub stop_in : {C : Type 0} → (C → Reading) → Stop C → frame.Todo
stop_in r (stop.Again e block) = frame.Again (view e.now) (r block).block
stop_in r (stop.Each n left block) = frame.Each n.now (left_in left) (r block).block
stop_in r (stop.Limit t) = frame.Uses (frame.Limited t)
stop_in r (stop.Handles hs) = frame.Handles (r hs).handlers
stop_in r (stop.Bound n) = frame.Bound n.now
stop_in r (stop.Holds l) = frame.Holds l
