-- A step that costs nothing and wants nothing leaves a lower weight.
use Rattle.std.proofs.Common.{◌≡◌, ℕ, ◌+◌, ◌<◌, ◌≤◌, Bool, true, false, List, [], ◌∷◌, ◌++◌, refl, subst, sym, arith, if◌then◌else◌, Option, None, Some, Ok, Err}
use Rattle.py_syntax.specs.StatementTrees.{Caught, All, Kind, Kinds, KindAs}
use Rattle.py_value.specs.Answer.{Answer}
use Rattle.py_value.specs.declared.value.Fault.{Fault}
use Rattle.py_value.specs.declared.value.Value.{Value}
use Rattle.py_value.specs.Operator.Identity.{same_kind}
use Rattle.py_syntax.specs.declared.fault_kind.FaultKind.TheVariants.{SimTimeoutError}
use Rattle.py_value.specs.declared.trigger.TaskNo.{TaskNo}
use Rattle.py_value.specs.declared.value.Value.TheVariants as value
use Rattle.py_evaluate.specs.Attribute.Look.{View}
use Rattle.py_evaluate.specs.Attribute.Outcome.{Outcome, lift}
use Rattle.py_evaluate.specs.Eval.{eval}
use Rattle.test_meaning.specs.Body.BodyTrees.{Item, Simple, If, While, For, Try, With, Block, NoItem, Handlers, NoHandler, Catch, Function}
use Rattle.test_meaning.specs.Body.BodyTrees as body
use Rattle.rig_model.specs.Task.Frame.{Todo, Do, Again, Each, Uses, Handles, Bound, Holds, Use, Assigns, Writes, Returns, Times, Limited, Enters, Course, On, Has, Leaves, Frame, Task, Jump, Throw, Return, Break, Continue, items}
use Rattle.rig_model.specs.Task.Moves.{Wish, Nothing, Asks, Calls, Ends, Move, At, want, first_do, answered, outcome}
use Rattle.rig_model.specs.Task.Awaits.{limited, waits}
use Rattle.rig_model.specs.Task.Values.{Value', write_of, stage, use_value}
use Rattle.rig_model.specs.Task.Blocks.{do_first}
use Rattle.rig_model.specs.Task.Leaving.{find_handler, handle, catches, at_handlers, at_limit, at_loop, drop_mark}
use Rattle.rig_model.specs.Task.Step.{next_of, step_on, step_with, step, result_course, given_to, next, settled, frame_move, at}
use Rattle.rig_model.specs.Task.Cost.{frames_cost, course_cost, first_cost, todo_cost, next_cost}
use Rattle.rig_model.specs.Task.Weight.{block_weight, handlers_weight, use_weight, todo_weight, todos_weight, course_weight, frame_weight, frames_weight, frames_given}
use Rattle.await_tree.specs.declared.cause.Given.{Given}
use Rattle.await_tree.specs.declared.cause.Given.TheVariants as given
use Rattle.rig_model.specs.declared.task.task.Turned.{Turned}
use Rattle.rig_model.specs.declared.task.task.Turned.TheVariants as turned

todos_append : (ts us : List Todo) → todos_weight (ts ++ us) ≡ todos_weight ts + todos_weight us
todos_append [] us = omega arith
todos_append (t ∷ ts) us = omega (arith, todos_append ts us)

items_weight : (b : Block) → todos_weight (items b) ≡ block_weight b
items_weight NoItem = refl
items_weight (body.Then i b) = omega (arith, items_weight b)

-- a block and a mark, before the rest
block_then : (b : Block) (t : Todo) (rest : List Todo) → todos_weight ((items b ++ t ∷ []) ++ rest) ≡ block_weight b + (todo_weight t + todos_weight rest)
block_then b t rest = omega (arith, todos_append (items b ++ t ∷ []) rest, todos_append (items b) (t ∷ []), items_weight b)

-- what a move leaves is below n; where it wants something of the runner, whatever it is given next
abbrev below : ℕ → Wish → Frame → Type 0
below n Nothing f = frame_weight f < n
below n (Asks t) f = 2 + todos_weight f.todo < n
below n (Calls k vs) f = ⊥
below n (Ends jump) f = course_weight (result_course jump) < n

abbrev Falls : ℕ → Move → Type 0
Falls n m = below n m.wish m.frame

result_falls : {A : Type 0} (n : ℕ) (r : Answer A) (a : At) (f : A → At → Move)
    → todos_weight a.rest + 2 < n → ((v : A) → Falls n (f v a)) → Falls n (answered r a f)
result_falls n (Ok v) a f h g = g v
result_falls n (Err kind) a f h g = omega (arith, h)

-- an evaluation, and what follows it
value_falls : {A : Type 0} (n : ℕ) (o : Outcome A) (a : At) (f : A → At → Move)
    → todos_weight a.rest + 2 < n → ((v : A) (k : ℕ) → Falls n (f v (record a { next = k }))) → Falls n (outcome o a f)
value_falls n o a f h g = result_falls n o.answer (record a { next = o.next }) f h (λ v. g v o.next)

use_falls : (u : Use) (v : Value) (a : At) → Falls (1 + (use_weight u + todos_weight a.rest)) (use_value u v a)
use_falls (Assigns n) v a = omega arith
use_falls (Writes e) v a =
    value_falls _ (eval a.scope e a.next) a (λ target b. stage target (Value' v) b) (omega arith) (λ target k.
    value_falls _ (lift (write_of a.scope.view target (Value' v)) k) (record a { next = k }) (λ w b. want (turned.Stage w.sig w.act) b) (omega arith) (λ w i. omega arith))
use_falls Returns v a = omega arith
use_falls (Times steps) (value.Task t) a =
    value_falls _ (limited a.scope.task (value.Task t) steps a.next) (first_do (Uses (Limited t) ∷ []) a) waits (omega arith) (λ w i. omega arith)
use_falls (Times steps) _ a = omega arith
use_falls (Limited t) v a = omega arith
use_falls (Enters l b) v a = omega (arith, block_then b (Holds l) a.rest)

handle_falls : (c : Caught) (fault : Fault) (b : Block) (a : At) → Falls (3 + (block_weight b + todos_weight a.rest)) (handle c fault b a)
handle_falls (KindAs k n) fault b a = omega (arith, block_then b (Bound n) a.rest)
handle_falls All fault b a = omega (arith, todos_append (items b) a.rest, items_weight b)
handle_falls (Kind k) fault b a = omega (arith, todos_append (items b) a.rest, items_weight b)
handle_falls (Kinds ks) fault b a = omega (arith, todos_append (items b) a.rest, items_weight b)

-- ---- marks that are dropped

weaker : (m n : ℕ) (w : Wish) (f : Frame) → m ≤ n → below m w f → below n w f
weaker m n Nothing f h b = omega (arith, h, b)
weaker m n (Asks t) f h b = omega (arith, h, b)
weaker m n (Calls k vs) f h b = b
weaker m n (Ends jump) f h b = omega (arith, h, b)

weaker_falls : (m n : ℕ) (x : Move) → m ≤ n → Falls m x → Falls n x
weaker_falls m n x h b = weaker m n x.wish x.frame h b

if_falls : (n : ℕ) (c : Bool) (x y : Move) → Falls n x → Falls n y → Falls n (if c then x else y)
if_falls n true x y h g = h
if_falls n false x y h g = g

find_falls : (hs : Handlers) (fault : Fault) (a : At) → Falls (3 + (handlers_weight hs + todos_weight a.rest)) (find_handler hs fault a)
find_falls NoHandler fault a = omega arith
find_falls (Catch c b hs) fault a =
    if_falls _ (catches c fault.kind) (handle c fault b a) (find_handler hs fault a)
    (weaker_falls _ _ (handle c fault b a) (omega arith) (handle_falls c fault b a))
    (weaker_falls _ _ (find_handler hs fault a) (omega arith) (find_falls hs fault a))

handlers_fall : (jump : Jump) (hs : Handlers) (a : At) → Falls (3 + (handlers_weight hs + todos_weight a.rest)) (at_handlers jump hs a)
handlers_fall (Throw fault) hs a = find_falls hs fault a
handlers_fall (Return v) hs a = omega arith
handlers_fall Break hs a = omega arith
handlers_fall Continue hs a = omega arith

loop_falls : (jump : Jump) (t : Todo) (a : At) → 1 ≤ todo_weight t → Falls (2 + (todo_weight t + todos_weight a.rest)) (at_loop jump t a)
loop_falls (Throw fault) t a h = omega (arith, h)
loop_falls (Return v) t a h = omega (arith, h)
loop_falls Break t a h = omega arith
loop_falls Continue t a h = omega arith

given_small : (jump : Jump) → course_weight (result_course jump) ≤ 1
given_small (Throw fault) = omega arith
given_small (Return v) = omega arith
given_small Break = omega arith
given_small Continue = omega arith

kill_falls : (n : ℕ) (c : Bool) (t : Turned) (f : Frame) → 2 + todos_weight f.todo < n → frame_weight f < n → below n (if c then Asks t else Nothing) f
kill_falls n true t f k h = k
kill_falls n false t f k h = h

limit_falls : (jump : Jump) (n : TaskNo) (a : At) → Falls (3 + todos_weight a.rest) (at_limit jump n a)
limit_falls (Throw fault) n a = kill_falls _ (same_kind fault.kind SimTimeoutError) (turned.Kill n) _ (omega arith) (omega arith)
limit_falls (Return v) n a = omega arith
limit_falls Break n a = omega arith
limit_falls Continue n a = omega arith

drop_falls : (jump : Jump) (todo : List Todo) (a : At) → Falls (2 + todos_weight todo) (drop_mark jump todo a)
drop_falls jump [] a = omega (arith, given_small jump)
drop_falls jump (Do i ∷ rest) a = weaker_falls (2 + todos_weight rest) _ (drop_mark jump rest a) (omega arith) (drop_falls jump rest a)
drop_falls jump (Again e b ∷ rest) a = loop_falls jump (Again e b) (record a { rest = rest }) (omega arith)
drop_falls jump (Each n left b ∷ rest) a = loop_falls jump (Each n left b) (record a { rest = rest }) (omega arith)
drop_falls jump (Uses (Limited t) ∷ rest) a = weaker_falls _ _ (at_limit jump t (record a { rest = rest })) (omega arith) (limit_falls jump t (record a { rest = rest }))
drop_falls jump (Uses (Assigns n) ∷ rest) a = weaker_falls (2 + todos_weight rest) _ (drop_mark jump rest a) (omega arith) (drop_falls jump rest a)
drop_falls jump (Uses (Writes e) ∷ rest) a = weaker_falls (2 + todos_weight rest) _ (drop_mark jump rest a) (omega arith) (drop_falls jump rest a)
drop_falls jump (Uses Returns ∷ rest) a = weaker_falls (2 + todos_weight rest) _ (drop_mark jump rest a) (omega arith) (drop_falls jump rest a)
drop_falls jump (Uses (Times n) ∷ rest) a = weaker_falls (2 + todos_weight rest) _ (drop_mark jump rest a) (omega arith) (drop_falls jump rest a)
drop_falls jump (Uses (Enters l b) ∷ rest) a = weaker_falls (2 + todos_weight rest) _ (drop_mark jump rest a) (omega arith) (drop_falls jump rest a)
drop_falls jump (Handles hs ∷ rest) a = weaker_falls _ _ (at_handlers jump hs (record a { rest = rest })) (omega arith) (handlers_fall jump hs (record a { rest = rest }))
drop_falls jump (Bound n ∷ rest) a = omega arith
drop_falls jump (Holds l ∷ rest) a = omega arith

-- ---- a step

no_cost : {A : Type 0} → ◌≡◌ {A = ℕ} 1 0 → A
no_cost h = absurd (omega (arith, h))

first_falls : (t : Todo) (a : At) → todo_cost t ≡ 0 → Falls (1 + (todo_weight t + todos_weight a.rest)) (do_first t a)
first_falls (Do (Try b hs)) a h = omega (arith, block_then b (Handles hs) a.rest)
first_falls (Do (Simple s)) a h = no_cost h
first_falls (Do (If e b c)) a h = no_cost h
first_falls (Do (While e b)) a h = no_cost h
first_falls (Do (For n s b)) a h = no_cost h
first_falls (Do (With e b)) a h = no_cost h
first_falls (Again e b) a h = no_cost h
first_falls (Each n left b) a h = no_cost h
first_falls (Uses (Assigns n)) a h = omega arith
first_falls (Uses (Writes e)) a h = omega arith
first_falls (Uses Returns) a h = omega arith
first_falls (Uses (Times n)) a h = omega arith
first_falls (Uses (Limited t)) a h = omega arith
first_falls (Uses (Enters l b)) a h = omega arith
first_falls (Handles hs) a h = omega arith
first_falls (Bound n) a h = omega arith
first_falls (Holds l) a h = omega arith

on_falls : (todo : List Todo) (a : At) → first_cost todo ≡ 0 → Falls (1 + todos_weight todo) (step_on todo a)
on_falls [] a h = omega arith
on_falls (t ∷ rest) a h = first_falls t (record a { rest = rest }) h

has_falls : (v : Value) (todo : List Todo) (a : At) → first_cost todo ≡ 0 → Falls (1 + todos_weight todo) (step_with v todo a)
has_falls v [] a h = on_falls [] a h
has_falls v (Uses u ∷ rest) a h = use_falls u v (record a { rest = rest })
has_falls v (Do i ∷ rest) a h = on_falls (Do i ∷ rest) a h
has_falls v (Again e b ∷ rest) a h = on_falls (Again e b ∷ rest) a h
has_falls v (Each n left b ∷ rest) a h = on_falls (Each n left b ∷ rest) a h
has_falls v (Handles hs ∷ rest) a h = on_falls (Handles hs ∷ rest) a h
has_falls v (Bound n ∷ rest) a h = on_falls (Bound n ∷ rest) a h
has_falls v (Holds l ∷ rest) a h = on_falls (Holds l ∷ rest) a h

step_falls : (course : Course) (todo : List Todo) (a : At) → course_cost course todo ≡ 0 → Falls (1 + (course_weight course + todos_weight todo)) (step course todo a)
step_falls On todo a h = weaker_falls (1 + todos_weight todo) _ (step_on todo a) (omega arith) (on_falls todo a h)
step_falls (Has v) todo a h = weaker_falls (1 + todos_weight todo) _ (step_with v todo a) (omega arith) (has_falls v todo a h)
step_falls (Leaves jump) todo a h = weaker_falls (2 + todos_weight todo) _ (drop_mark jump todo a) (omega arith) (drop_falls jump todo a)

-- ---- frames

abbrev wanted : Option Turned → Type 0
wanted None = ⊥
wanted (Some t) = Unit {0}

no_wish : {A : Type 0} {t : Turned} → Some t ≡ None → A
no_wish {A} {t} h = absurd (subst wanted h tt)

settled_falls : (functions : List Function) (w : Wish) (f : Frame) (fs : List Frame) (task : Task) (n : ℕ)
    → below n w f → (settled functions w f fs task).turned ≡ None → frames_weight (settled functions w f fs task).task.frames < n + frames_weight fs
settled_falls functions Nothing f fs task n b h = omega (arith, b)
settled_falls functions (Asks t) f fs task n b h = no_wish h
settled_falls functions (Calls k vs) f fs task n b h = absurd b
settled_falls functions (Ends jump) f [] task n b h = no_wish h
settled_falls functions (Ends jump) f (g ∷ fs) task n b h = omega (arith, b)

frames_fall : (functions : List Function) (frames : List Frame) (task : Task) (g : Option Given) (view : View)
    → frames_cost frames g ≡ 0 → (next_of functions frames task g view).turned ≡ None
    → frames_weight (next_of functions frames task g view).task.frames < frames_weight (frames_given g frames)
frames_fall functions [] task g view c h = no_wish h
frames_fall functions (f ∷ fs) task g view c h =
    let m : Move = frame_move f g task view in
    settled_falls functions m.wish m.frame fs (record task { triggers = m.next }) _ (step_falls (given_to g f.course) f.todo (at task.number task.triggers f.names view) c) h

pub free_step_falls : (functions : List Function) (task : Task) (g : Option Given) (view : View)
    → next_cost task g ≡ 0 → (next functions task g view).turned ≡ None
    → frames_weight (next functions task g view).task.frames < frames_weight (frames_given g task.frames)
free_step_falls functions task g view c h = frames_fall functions task.frames task g view c h

-- ---- whatever is given next

given_weight : (g : Option Given) (course : Course) → course_weight (given_to g course) ≤ 1
given_weight None On = omega arith
given_weight None (Has v) = omega arith
given_weight None (Leaves jump) = omega arith
given_weight (Some given.Begin) On = omega arith
given_weight (Some given.Begin) (Has v) = omega arith
given_weight (Some given.Begin) (Leaves jump) = omega arith
given_weight (Some (given.Joined t)) On = omega arith
given_weight (Some (given.Joined t)) (Has v) = omega arith
given_weight (Some (given.Joined t)) (Leaves jump) = omega arith
given_weight (Some (given.Fault fault)) course = omega arith
given_weight (Some (given.Value v)) On = omega arith
given_weight (Some (given.Value v)) (Has w) = omega arith
given_weight (Some (given.Value v)) (Leaves jump) = omega arith

abbrev asked : Option Turned → Type 0
asked None = ⊥
asked (Some t) = Unit {0}

settled_wish : (functions : List Function) (w : Wish) (f : Frame) (fs : List Frame) (task : Task) (n : ℕ) (h : Option Given)
    → 0 < n → below n w f → asked (settled functions w f fs task).turned
    → frames_weight (frames_given h (settled functions w f fs task).task.frames) < n + frames_weight fs
settled_wish functions Nothing f fs task n h p b e = absurd e
settled_wish functions (Asks t) f fs task n h p b e = omega (arith, b, given_weight h f.course)
settled_wish functions (Calls k vs) f fs task n h p b e = absurd b
settled_wish functions (Ends jump) f [] task n h p b e = omega (arith, p)
settled_wish functions (Ends jump) f (g ∷ fs) task n h p b e = absurd e

frames_wish : (functions : List Function) (frames : List Frame) (task : Task) (g : Option Given) (view : View) (h : Option Given)
    → frames_cost frames g ≡ 0 → (frames ≡ [] → ⊥) → asked (next_of functions frames task g view).turned
    → frames_weight (frames_given h (next_of functions frames task g view).task.frames) < frames_weight (frames_given g frames)
frames_wish functions [] task g view h c some e = absurd (some refl)
frames_wish functions (f ∷ fs) task g view h c some e =
    let m : Move = frame_move f g task view in
    settled_wish functions m.wish m.frame fs (record task { triggers = m.next }) _ h (omega arith)
    (step_falls (given_to g f.course) f.todo (at task.number task.triggers f.names view) c) e

pub free_wish_falls : (functions : List Function) (task : Task) (g : Option Given) (view : View) (t : Turned) (h : Option Given)
    → next_cost task g ≡ 0 → (task.frames ≡ [] → ⊥) → (next functions task g view).turned ≡ Some t
    → frames_weight (frames_given h (next functions task g view).task.frames) < frames_weight (frames_given g task.frames)
free_wish_falls functions task g view t h c some e = frames_wish functions task.frames task g view h c some (subst asked (sym e) tt)
