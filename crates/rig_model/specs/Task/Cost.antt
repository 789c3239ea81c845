-- What a step costs: one for each statement of one line, each condition of an `if` and a `while`, each question of a `for`, the last one too, and each
-- `async with`. A `try`, the end of a block, and all that is done while blocks are left cost nothing.
use Rattle.std.specs.Prelude.{ℕ, List, [], ◌∷◌, Option}
use Rattle.test_meaning.specs.Body.BodyTrees.{Item, Try}
use Rattle.rig_model.specs.Task.Frame.{Todo, Do, Again, Each, Course, Leaves, Frame, Task}
use Rattle.rig_model.specs.Task.Step.{given_to}
use Rattle.await_tree.specs.declared.cause.Given.{Given}

abbrev pub item_cost : Item → ℕ
item_cost (Try block handlers) = 0
item_cost _ = 1

abbrev pub todo_cost : Todo → ℕ
todo_cost (Do item) = item_cost item
todo_cost (Again e block) = 1
todo_cost (Each n left block) = 1
todo_cost _ = 0

abbrev pub first_cost : List Todo → ℕ
first_cost [] = 0
first_cost (todo ∷ rest) = todo_cost todo

abbrev pub course_cost : Course → List Todo → ℕ
course_cost (Leaves jump) todo = 0
course_cost _ todo = first_cost todo

abbrev pub frames_cost : List Frame → Option Given → ℕ
frames_cost [] g = 0
frames_cost (f ∷ fs) g = course_cost (given_to g f.course) f.todo

-- the cost of the next step
abbrev pub next_cost : Task → Option Given → ℕ
next_cost task g = frames_cost task.frames g
