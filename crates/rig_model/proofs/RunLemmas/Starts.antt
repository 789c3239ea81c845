-- A step that costs nothing starts no task.
use Rattle.std.proofs.Common.{◌≡◌, ℕ, Bool, true, false, List, [], ◌∷◌, refl, subst, arith, if◌then◌else◌, Option, None, Some, Ok, Err}
use Rattle.py_syntax.specs.StatementTrees.{Caught, All, Kind, Kinds, KindAs}
use Rattle.py_syntax.specs.declared.fault_kind.FaultKind.TheVariants.{SimTimeoutError}
use Rattle.py_value.specs.Answer.{Answer}
use Rattle.py_value.specs.declared.trigger.TaskNo.{TaskNo}
use Rattle.py_value.specs.declared.value.Fault.{Fault}
use Rattle.py_value.specs.declared.value.Value.{Value}
use Rattle.py_value.specs.declared.value.Value.TheVariants as value
use Rattle.py_value.specs.Operator.Identity.{same_kind}
use Rattle.py_evaluate.specs.Attribute.Look.{View}
use Rattle.py_evaluate.specs.Attribute.Outcome.{Outcome, lift}
use Rattle.py_evaluate.specs.Eval.{eval}
use Rattle.test_meaning.specs.Body.BodyTrees.{Simple, If, While, For, Try, With, Block, Handlers, NoHandler, Catch, Function}
use Rattle.await_tree.specs.declared.cause.Given.{Given}
use Rattle.rig_model.specs.Task.Frame.{Todo, Do, Again, Each, Uses, Handles, Bound, Holds, Use, Assigns, Writes, Returns, Times, Limited, Enters, Course, On, Has, Leaves, Frame, Task, Jump, Throw, Return, Break, Continue}
use Rattle.rig_model.specs.Task.Moves.{Wish, Nothing, Asks, Calls, Ends, Move, At, want, first_do, answered, outcome}
use Rattle.rig_model.specs.Task.Awaits.{limited, waits}
use Rattle.rig_model.specs.Task.Values.{Value', write_of, stage, use_value}
use Rattle.rig_model.specs.Task.Blocks.{do_first}
use Rattle.rig_model.specs.Task.Leaving.{find_handler, handle, catches, at_handlers, at_limit, at_loop, drop_mark}
use Rattle.rig_model.specs.Task.Step.{next_of, step_on, step_with, step, given_to, next, settled, frame_move, at}
use Rattle.rig_model.specs.Task.Cost.{frames_cost, course_cost, first_cost, todo_cost, next_cost}
use Rattle.rig_model.specs.declared.task.task.Turned.{Turned}
use Rattle.rig_model.specs.declared.task.task.Turned.TheVariants as turned

abbrev pub is_start : Turned → Bool
is_start (turned.Start func args give_way) = true
is_start _ = false

-- a move that starts no task
abbrev Starts_none : Wish → Type 0
Starts_none Nothing = Unit {0}
Starts_none (Asks t) = is_start t ≡ false
Starts_none (Calls k vs) = Unit {0}
Starts_none (Ends jump) = Unit {0}

abbrev Quiet : Move → Type 0
Quiet m = Starts_none m.wish

result_quiet : {A : Type 0} (r : Answer A) (a : At) (f : A → At → Move) → ((v : A) → Quiet (f v a)) → Quiet (answered r a f)
result_quiet (Ok v) a f g = g v
result_quiet (Err kind) a f g = tt

-- an evaluation, and what follows it
value_quiet : {A : Type 0} (o : Outcome A) (a : At) (f : A → At → Move) → ((v : A) (k : ℕ) → Quiet (f v (record a { next = k }))) → Quiet (outcome o a f)
value_quiet o a f g = result_quiet o.answer (record a { next = o.next }) f (λ v. g v o.next)

use_quiet : (u : Use) (v : Value) (a : At) → Quiet (use_value u v a)
use_quiet (Assigns n) v a = tt
use_quiet (Writes e) v a =
    value_quiet (eval a.scope e a.next) a (λ target b. stage target (Value' v) b) (λ target k.
    value_quiet (lift (write_of a.scope.view target (Value' v)) k) (record a { next = k }) (λ w b. want (turned.Stage w.sig w.act) b) (λ w i. refl))
use_quiet Returns v a = tt
use_quiet (Times steps) (value.Task t) a =
    value_quiet (limited a.scope.task (value.Task t) steps a.next) (first_do (Uses (Limited t) ∷ []) a) waits (λ w i. refl)
use_quiet (Times steps) _ a = tt
use_quiet (Limited t) v a = tt
use_quiet (Enters l b) v a = tt

handle_quiet : (c : Caught) (fault : Fault) (b : Block) (a : At) → Quiet (handle c fault b a)
handle_quiet (KindAs k n) fault b a = tt
handle_quiet All fault b a = tt
handle_quiet (Kind k) fault b a = tt
handle_quiet (Kinds ks) fault b a = tt

if_quiet : (c : Bool) (x y : Move) → Quiet x → Quiet y → Quiet (if c then x else y)
if_quiet true x y h g = h
if_quiet false x y h g = g

find_quiet : (hs : Handlers) (fault : Fault) (a : At) → Quiet (find_handler hs fault a)
find_quiet NoHandler fault a = tt
find_quiet (Catch c b hs) fault a =
    if_quiet (catches c fault.kind) (handle c fault b a) (find_handler hs fault a) (handle_quiet c fault b a) (find_quiet hs fault a)

handlers_quiet : (jump : Jump) (hs : Handlers) (a : At) → Quiet (at_handlers jump hs a)
handlers_quiet (Throw fault) hs a = find_quiet hs fault a
handlers_quiet (Return v) hs a = tt
handlers_quiet Break hs a = tt
handlers_quiet Continue hs a = tt

loop_quiet : (jump : Jump) (t : Todo) (a : At) → Quiet (at_loop jump t a)
loop_quiet (Throw fault) t a = tt
loop_quiet (Return v) t a = tt
loop_quiet Break t a = tt
loop_quiet Continue t a = tt

kill_quiet : (c : Bool) (t : TaskNo) → Starts_none (if c then Asks (turned.Kill t) else Nothing)
kill_quiet true t = refl
kill_quiet false t = tt

limit_quiet : (jump : Jump) (t : TaskNo) (a : At) → Quiet (at_limit jump t a)
limit_quiet (Throw fault) t a = kill_quiet (same_kind fault.kind SimTimeoutError) t
limit_quiet (Return v) t a = tt
limit_quiet Break t a = tt
limit_quiet Continue t a = tt

drop_quiet : (jump : Jump) (todo : List Todo) (a : At) → Quiet (drop_mark jump todo a)
drop_quiet jump [] a = tt
drop_quiet jump (Do i ∷ rest) a = drop_quiet jump rest a
drop_quiet jump (Again e b ∷ rest) a = loop_quiet jump (Again e b) (record a { rest = rest })
drop_quiet jump (Each n left b ∷ rest) a = loop_quiet jump (Each n left b) (record a { rest = rest })
drop_quiet jump (Uses (Limited t) ∷ rest) a = limit_quiet jump t (record a { rest = rest })
drop_quiet jump (Uses (Assigns n) ∷ rest) a = drop_quiet jump rest a
drop_quiet jump (Uses (Writes e) ∷ rest) a = drop_quiet jump rest a
drop_quiet jump (Uses Returns ∷ rest) a = drop_quiet jump rest a
drop_quiet jump (Uses (Times n) ∷ rest) a = drop_quiet jump rest a
drop_quiet jump (Uses (Enters l b) ∷ rest) a = drop_quiet jump rest a
drop_quiet jump (Handles hs ∷ rest) a = handlers_quiet jump hs (record a { rest = rest })
drop_quiet jump (Bound n ∷ rest) a = tt
drop_quiet jump (Holds l ∷ rest) a = refl

-- ---- a step

no_cost : {A : Type 0} → ◌≡◌ {A = ℕ} 1 0 → A
no_cost h = absurd (omega (arith, h))

first_quiet : (t : Todo) (a : At) → todo_cost t ≡ 0 → Quiet (do_first t a)
first_quiet (Do (Try b hs)) a h = tt
first_quiet (Do (Simple s)) a h = no_cost h
first_quiet (Do (If e b c)) a h = no_cost h
first_quiet (Do (While e b)) a h = no_cost h
first_quiet (Do (For n s b)) a h = no_cost h
first_quiet (Do (With e b)) a h = no_cost h
first_quiet (Again e b) a h = no_cost h
first_quiet (Each n left b) a h = no_cost h
first_quiet (Uses u) a h = tt
first_quiet (Handles hs) a h = tt
first_quiet (Bound n) a h = tt
first_quiet (Holds l) a h = refl

on_quiet : (todo : List Todo) (a : At) → first_cost todo ≡ 0 → Quiet (step_on todo a)
on_quiet [] a h = tt
on_quiet (t ∷ rest) a h = first_quiet t (record a { rest = rest }) h

has_quiet : (v : Value) (todo : List Todo) (a : At) → first_cost todo ≡ 0 → Quiet (step_with v todo a)
has_quiet v [] a h = tt
has_quiet v (Uses u ∷ rest) a h = use_quiet u v (record a { rest = rest })
has_quiet v (Do i ∷ rest) a h = on_quiet (Do i ∷ rest) a h
has_quiet v (Again e b ∷ rest) a h = on_quiet (Again e b ∷ rest) a h
has_quiet v (Each n left b ∷ rest) a h = on_quiet (Each n left b ∷ rest) a h
has_quiet v (Handles hs ∷ rest) a h = on_quiet (Handles hs ∷ rest) a h
has_quiet v (Bound n ∷ rest) a h = on_quiet (Bound n ∷ rest) a h
has_quiet v (Holds l ∷ rest) a h = on_quiet (Holds l ∷ rest) a h

step_quiet : (course : Course) (todo : List Todo) (a : At) → course_cost course todo ≡ 0 → Quiet (step course todo a)
step_quiet On todo a h = on_quiet todo a h
step_quiet (Has v) todo a h = has_quiet v todo a h
step_quiet (Leaves jump) todo a h = drop_quiet jump todo a

-- ---- calls

-- what is wanted starts no task
abbrev Wants_none : Option Turned → Type 0
Wants_none None = Unit {0}
Wants_none (Some t) = is_start t ≡ false

ends_none : (jump : Jump) (frames : List Frame) (f : Frame) (task : Task) (functions : List Function) → Wants_none (settled functions (Ends jump) f frames task).turned
ends_none (Throw fault) [] f task functions = refl
ends_none (Return v) [] f task functions = refl
ends_none Break [] f task functions = refl
ends_none Continue [] f task functions = refl
ends_none jump (g ∷ fs) f task functions = tt

settled_none : (functions : List Function) (w : Wish) (f : Frame) (fs : List Frame) (task : Task) → Starts_none w → Wants_none (settled functions w f fs task).turned
settled_none functions Nothing f fs task h = tt
settled_none functions (Asks t) f fs task h = h
settled_none functions (Calls k vs) f fs task h = tt
settled_none functions (Ends jump) f fs task h = ends_none jump fs f task functions

frames_none : (functions : List Function) (frames : List Frame) (task : Task) (g : Option Given) (view : View)
    → frames_cost frames g ≡ 0 → Wants_none (next_of functions frames task g view).turned
frames_none functions [] task g view c = refl
frames_none functions (f ∷ fs) task g view c =
    let m : Move = frame_move f g task view in
    settled_none functions m.wish m.frame fs (record task { triggers = m.next }) (step_quiet (given_to g f.course) f.todo (at task.number task.triggers f.names view) c)

pub free_starts_none : (functions : List Function) (task : Task) (g : Option Given) (view : View) (t : Turned)
    → next_cost task g ≡ 0 → (next functions task g view).turned ≡ Some t → is_start t ≡ false
free_starts_none functions task g view t c e = subst Wants_none e (frames_none functions task.frames task g view c)
