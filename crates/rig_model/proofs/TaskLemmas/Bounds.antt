-- A task keeps its number, has at most so many frames, and a step costs at most one.
use Rattle.std.proofs.Common.{◌≡◌, suc, ◌≤◌, Bool, true, false, List, [], ◌∷◌, length, refl, arith, Option}
use Rattle.std.specs.Prelude.{nat_lt}
use Rattle.std.proofs.lemmas.Bool.Decides.{nat_tests}
use Rattle.py_value.specs.declared.value.Value.{Value}
use Rattle.py_evaluate.specs.Attribute.Look.{View}
use Rattle.test_meaning.specs.Body.BodyTrees.{Item, Try, Function}
use Rattle.rig_model.specs.Task.Frame.{Todo, Do, Course, On, Has, Leaves, Frame, Task, function_at}
use Rattle.rig_model.specs.Task.Moves.{Wish, Nothing, Asks, Calls, Ends, Move}
use Rattle.rig_model.specs.Task.Step.{call, settled, frame_move, next_of, next, given_to}
use Rattle.rig_model.specs.Task.Cost.{item_cost, todo_cost, first_cost, course_cost, frames_cost, next_cost}
use Rattle.await_tree.specs.declared.cause.Given.{Given}

settled_number : (functions : List Function) (w : Wish) (f : Frame) (fs : List Frame) (task : Task) → (settled functions w f fs task).task.number ≡ task.number
settled_number functions Nothing f fs task = refl
settled_number functions (Asks t) f fs task = refl
settled_number functions (Calls k vs) f fs task = refl
settled_number functions (Ends jump) f [] task = refl
settled_number functions (Ends jump) f (g ∷ fs) task = refl

frames_number : (functions : List Function) (frames : List Frame) (task : Task) (g : Option Given) (view : View) → (next_of functions frames task g view).task.number ≡ task.number
frames_number functions [] task g view = refl
frames_number functions (f ∷ fs) task g view =
    let m : Move = frame_move f g task view in settled_number functions m.wish m.frame fs (record task { triggers = m.next })

pub number_stays : (functions : List Function) (task : Task) (g : Option Given) (view : View) → (next functions task g view).task.number ≡ task.number
number_stays functions task g view = frames_number functions task.frames task g view

call_bound : (b : Bool) (f : Function) (vs : List Value) (frame : Frame) (fs : List Frame) → nat_lt (suc (length fs)) 1000 ≡ b → suc (length fs) ≤ 1000 → length (call b f vs frame fs) ≤ 1000
call_bound true f vs frame fs h l = grind (arith, nat_tests)
call_bound false f vs frame fs h l = l

settled_bound : (functions : List Function) (w : Wish) (f : Frame) (fs : List Frame) (task : Task) → suc (length fs) ≤ 1000 → length (settled functions w f fs task).task.frames ≤ 1000
settled_bound functions Nothing f fs task h = h
settled_bound functions (Asks t) f fs task h = h
settled_bound functions (Calls k vs) f fs task h = call_bound _ (function_at functions k) vs f fs refl h
settled_bound functions (Ends jump) f [] task h = omega arith
settled_bound functions (Ends jump) f (g ∷ fs) task h = omega (arith, h)

frames_bound : (functions : List Function) (frames : List Frame) (task : Task) (g : Option Given) (view : View) → task.frames ≡ frames → length frames ≤ 1000 → length (next_of functions frames task g view).task.frames ≤ 1000
frames_bound functions [] task g view e h = rw e (omega arith)
frames_bound functions (f ∷ fs) task g view e h =
    let m : Move = frame_move f g task view in settled_bound functions m.wish m.frame fs (record task { triggers = m.next }) h

pub few_frames : (functions : List Function) (task : Task) (g : Option Given) (view : View) → length task.frames ≤ 1000 → length (next functions task g view).task.frames ≤ 1000
few_frames functions task g view h = frames_bound functions task.frames task g view refl h

item_costs : (i : Item) → item_cost i ≤ 1
item_costs (Try b hs) = omega arith
item_costs _ = omega arith

todo_costs : (t : Todo) → todo_cost t ≤ 1
todo_costs (Do i) = item_costs i
todo_costs _ = omega arith

first_costs : (ts : List Todo) → first_cost ts ≤ 1
first_costs [] = omega arith
first_costs (t ∷ ts) = todo_costs t

course_costs : (f : Course) (ts : List Todo) → course_cost f ts ≤ 1
course_costs (Leaves jump) ts = omega arith
course_costs On ts = first_costs ts
course_costs (Has v) ts = first_costs ts

frames_costs : (fs : List Frame) (g : Option Given) → frames_cost fs g ≤ 1
frames_costs [] g = omega arith
frames_costs (f ∷ fs) g = course_costs (given_to g f.course) f.todo

pub cost_at_most_one : (task : Task) (g : Option Given) → next_cost task g ≤ 1
cost_at_most_one task g = frames_costs task.frames g
