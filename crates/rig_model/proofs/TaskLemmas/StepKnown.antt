-- A view that knows what a task holds and is given knows what its step leaves and wants.
use Rattle.std.proofs.Common.{ℕ, zero, suc, ◌≤◌, Bool, true, false, List, [], ◌∷◌, ◌++◌, length, refl, arith, if◌then◌else◌, Option, None, Some, Ok, Err}
use Rattle.std.specs.Prelude.{ℤ, ◌+ℤ◌, ◌+◌, ◌<◌, ◌==◌, nat_lt, IfOk, IfSome, IsTrue}
use Rattle.task_queue.specs.Queues.{item_limit}
use Rattle.std.specs.List.{list_all}
use Rattle.py_value.specs.Integer.Integer.{held}
use Rattle.py_syntax.specs.ExpressionTrees.{Tree, Name, Infix}
use Rattle.py_syntax.specs.StatementTrees.{Caught, All, Kind, Kinds, KindAs}
use Rattle.py_syntax.specs.declared.expression.Operation.TheVariants.{Binary}
use Rattle.py_syntax.specs.declared.fault_kind.FaultKind.{FaultKind}
use Rattle.py_syntax.specs.declared.fault_kind.FaultKind.TheVariants.{AssertionError, SimTimeoutError}
use Rattle.py_syntax.specs.declared.statement.Action.{Action}
use Rattle.py_syntax.specs.declared.statement.Action.TheVariants as action
use Rattle.py_syntax.specs.declared.statement.LogLevel.{LogLevel}
use Rattle.py_value.specs.Answer.{Answer, plain_fault}
use Rattle.py_value.specs.Limits.{text_limit}
use Rattle.py_value.specs.Trigger as trigger
use Rattle.py_value.specs.Trigger.{Trig, Form, AreSteps, IsSound, IsSoundForm, is_small}
use Rattle.py_value.specs.Truth.{truth}
use Rattle.py_value.specs.declared.trigger.EventNo.{EventNo}
use Rattle.py_value.specs.declared.trigger.QueueNo.{QueueNo}
use Rattle.py_value.specs.declared.trigger.TaskNo.{TaskNo}
use Rattle.py_value.specs.declared.value.Fault.{Fault}
use Rattle.py_value.specs.declared.value.Value.{Value}
use Rattle.py_value.specs.declared.value.Value.TheVariants as value
use Rattle.py_value.specs.Operator.Identity.{same_kind}
use Rattle.py_value.specs.Operator.Number.{whole}
use Rattle.py_evaluate.specs.Attribute.Knows.{Knows, KnowsAll, KnowsDesign, KnowsEvents, KnowsNames}
use Rattle.py_evaluate.specs.Attribute.Look.{View, SeenQueue, queue}
use Rattle.py_evaluate.specs.Attribute.Outcome.{Outcome, Scope, gives, lift, bind}
use Rattle.py_evaluate.proofs.AttributeLemmas.Plain.{whole_plain}
use Rattle.py_evaluate.specs.Function.Making.{as_trigger, new_trigger}
use Rattle.py_evaluate.specs.Eval.{constant_value, eval}
use Rattle.test_meaning.specs.Body.BodyTrees as body
use Rattle.test_meaning.specs.Body.BodyTrees.{Operand, Call, FunctionCall, ClockStart, QueuePut, QueueGet, Function, Timed, TimedValue, TimedCall, Awaited, AwaitedValue, AwaitedCall, AwaitedStart, AwaitedRoom, AwaitedItem, WithTimeout, RightSide, RightValue, RightAwait, RightStart, RandomInt, NewQueue, GetNow, WriteAction, Logger, Statement, Item, Simple, If, While, For, Try, With, Block, NoItem, Handlers, NoHandler, Catch}
use Rattle.test_meaning.specs.Body.Sound.{item_calls, block_calls, handler_calls, statement_calls, right_calls, awaited_calls, is_sound_call, is_sound_function, fill, fill_some}
use Rattle.rig_model.specs.Task.Frame.{Left, Numbers, Listed, Use, Assigns, Writes, Returns, Times, Limited, Enters, Todo, Do, Again, Each, Uses, Handles, Bound, Holds, Jump, Throw, Return, Break, Continue, Course, On, Has, Leaves, Frame, Task, items, entered, function_at}
use Rattle.rig_model.specs.Task.Moves.{Wish, Nothing, Asks, Calls, Ends, Move, At, moved, go_on, leave, want, first_do, named, answered, outcome, eval_all, eval_some, eval_text, short_text}
use Rattle.rig_model.specs.Task.Calls.{Called, calls, arguments, eval_operands, clock_arguments, queue_arguments, eval_call, starts}
use Rattle.rig_model.specs.Task.Awaits.{Time, waits, waitable, wait_for, limited, wait_limited, with_time, time_steps, with_steps, queue_of, wait_for_queue, await}
use Rattle.rig_model.specs.Task.Values.{Source, Value', write_of, stage, put_now, eval_action, use_value, drawn, queue_bound, right_side}
use Rattle.rig_model.specs.Task.Statements.{act_of, throw_text, asserted, eval_logger, log_text, log, do_statement}
use Rattle.rig_model.specs.Task.Blocks.{choose, ask, eval_span, is_before, each, ask_number, ask_next, lock_of, enter, do_item, do_first}
use Rattle.rig_model.specs.Task.Leaving.{catches, handle, find_handler, at_handlers, at_limit, at_loop, drop_mark}
use Rattle.rig_model.specs.Task.Known.{KnowsTask, KnowsLock, AreSoundCalls, KnowsUse, KnowsTodo, KnowsTodos, KnowsJump, KnowsCourse, KnowsFrame, KnowsFrames, AreSoundFunctions, KnowsWhole, KnowsGiven, KnowsTurned}
use Rattle.rig_model.specs.Task.Step.{Next, frame_limit, settled, next_of, next, frame_move, given_to, result_course, ending, returned, call, at, step_on, step_with, step}
use Rattle.await_tree.specs.declared.cause.Given.{Given}
use Rattle.await_tree.specs.declared.cause.Given.TheVariants as given
use Rattle.rig_model.specs.declared.task.task.Turned.{Turned}
use Rattle.rig_model.specs.declared.task.task.Turned.TheVariants as turned
use Rattle.rig_model.proofs.TaskLemmas.EvalKnown.{bind_known, anything, constant_known, eval_known}
use Rattle.rig_model.proofs.TaskLemmas.PartsKnown.{both, calls_part, one_call, todos_append, items_known, block_known, names_known, entered_known, short_known, KnownTrig, new_known, trigger_known, limited_known, waitable_known, steps_known, KnownWrite, write_known, KnownDraw, drawn_known, KnowsArguments, arguments_known, clock_known, queue_known, queue_arguments_known, bound_known, KnowsCall, found_below, last_below}

-- ---- moves

abbrev KnowsWish : List Function → View → Wish → Type 0
KnowsWish functions view Nothing = Unit {0}
KnowsWish functions view (Asks t) = KnowsTurned functions view t
KnowsWish functions view (Calls n vs) = KnowsAll view vs
KnowsWish functions view (Ends jump) = KnowsJump view jump

abbrev KnowsMove : List Function → View → Move → Type 0
KnowsMove functions view m = KnowsFrame functions view m.frame × KnowsWish functions view m.wish

-- where a step stands
record Stands (functions : List Function) (a : At) : Type 0 where
  design : KnowsDesign a.scope.view
  events : KnowsEvents a.scope.view
  names : KnowsNames a.scope.view a.scope.names
  rest : KnowsTodos functions a.scope.view a.rest

module _ (functions : List Function) where
  moved_known : (a : At) (course : Course) (w : Wish) → Stands functions a → KnowsCourse a.scope.view course → KnowsWish functions a.scope.view w
      → KnowsMove functions a.scope.view (moved a course w)
  moved_known a course w h c k = (record { names = h.names; course = c; todo = h.rest }, k)

  go_known : (a : At) → Stands functions a → KnowsMove functions a.scope.view (go_on a)
  go_known a h = moved_known a On Nothing h tt tt

  leave_known : (jump : Jump) (a : At) → Stands functions a → KnowsJump a.scope.view jump → KnowsMove functions a.scope.view (leave jump a)
  leave_known jump a h k = moved_known a (Leaves jump) Nothing h k tt

  want_known : (t : Turned) (a : At) → Stands functions a → KnowsTurned functions a.scope.view t → KnowsMove functions a.scope.view (want t a)
  want_known t a h k = moved_known a On (Asks t) h tt k

  -- these are to be done first
  with_first : (ts : List Todo) (a : At) → Stands functions a → KnowsTodos functions a.scope.view ts → Stands functions (first_do ts a)
  with_first ts a h k = record { design = h.design; events = h.events; names = h.names; rest = todos_append functions a.scope.view ts a.rest k h.rest }

  with_name : (n : List ℕ) (v : Option Value) (a : At) → Stands functions a → IfSome v (Knows a.scope.view) → Stands functions (named n v a)
  with_name n v a h k = record { design = h.design; events = h.events; names = names_known a.scope.view a.scope.names n v k h.names; rest = h.rest }

  with_next : (a : At) (k : ℕ) → Stands functions a → Stands functions (record a { next = k })
  with_next a k h = record { design = h.design; events = h.events; names = h.names; rest = h.rest }

  with_rest : (a : At) (rest : List Todo) → Stands functions a → KnowsTodos functions a.scope.view rest → Stands functions (record a { rest = rest })
  with_rest a rest h k = record { design = h.design; events = h.events; names = h.names; rest = k }

  answer_known : {A : Type 0} (Q : A → Type 0) (r : Answer A) (a : At) (f : A → At → Move)
      → Stands functions a → IfOk r Q → ((v : A) → Q v → KnowsMove functions a.scope.view (f v a)) → KnowsMove functions a.scope.view (answered r a f)
  answer_known Q (Ok v) a f h k g = g v k
  answer_known Q (Err kind) a f h k g = leave_known (Throw (plain_fault kind)) a h tt

  value_known : {A : Type 0} (Q : A → Type 0) (o : Outcome A) (a : At) (f : A → At → Move)
      → Stands functions a → IfOk o.answer Q → ((v : A) → Q v → (k : ℕ) → Stands functions (record a { next = k }) → KnowsMove functions a.scope.view (f v (record a { next = k })))
      → KnowsMove functions a.scope.view (outcome o a f)
  value_known Q o a f h k g =
      answer_known Q o.answer (record a { next = o.next }) f (with_next a o.next h) k (λ v p. g v p o.next (with_next a o.next h))

  -- an expression
  eval_then : (e : Tree) (a : At) (f : Value → At → Move) → Stands functions a
      → ((v : Value) → Knows a.scope.view v → (k : ℕ) → Stands functions (record a { next = k }) → KnowsMove functions a.scope.view (f v (record a { next = k })))
      → KnowsMove functions a.scope.view (outcome (eval a.scope e a.next) a f)
  eval_then e a f h g = value_known (Knows a.scope.view) (eval a.scope e a.next) a f h (eval_known a.scope e a.next h.design h.names) g

  some_known : (a : At) (e : Option Tree) → Stands functions a → IfOk (eval_some a.scope e a.next).answer (λ o. IfSome o (Knows a.scope.view))
  some_known a None h = tt
  some_known a (Some e) h =
      bind_known (Knows a.scope.view) (λ o. IfSome o (Knows a.scope.view)) (eval a.scope e a.next) (λ v j. gives (Some v) j)
      (eval_known a.scope e a.next h.design h.names) (λ v j p. p)

  all_known : (s : Scope) (es : List Tree) (k : ℕ) → KnowsDesign s.view → KnowsNames s.view s.names → IfOk (eval_all s es k).answer (KnowsAll s.view)
  all_known s [] k d n = tt
  all_known s (e ∷ es) k d n =
      bind_known (Knows s.view) (KnowsAll s.view) (eval s e k) (λ v j. bind (eval_all s es j) (λ vs i. gives (v ∷ vs) i)) (eval_known s e k d n) (λ v j p.
      bind_known (KnowsAll s.view) (KnowsAll s.view) (eval_all s es j) (λ vs i. gives (v ∷ vs) i) (all_known s es j d n) (λ vs i q. (p, q)))

  operands_known : (s : Scope) (os : List Operand) (k : ℕ) → KnowsDesign s.view → KnowsNames s.view s.names → IfOk (eval_operands s os k).answer (KnowsArguments s.view)
  operands_known s [] k d n = tt
  operands_known s (o ∷ os) k d n =
      bind_known (Knows s.view) (KnowsArguments s.view) (eval s o.value k)
      (λ v j. bind (eval_operands s os j) (λ xs i. gives (record { parameter = o.parameter; value = v } ∷ xs) i)) (eval_known s o.value k d n) (λ v j p.
      bind_known (KnowsArguments s.view) (KnowsArguments s.view) (eval_operands s os j) (λ xs i. gives (record { parameter = o.parameter; value = v } ∷ xs) i)
      (operands_known s os j d n) (λ xs i q. (p, q)))

  call_known : (s : Scope) (c : Call) (k : ℕ) → KnowsDesign s.view → KnowsNames s.view s.names → IsTrue (is_sound_call functions c)
      → IfOk (eval_call s c k).answer (KnowsCall functions s.view)
  call_known s (FunctionCall n os) k d names h =
      bind_known (KnowsArguments s.view) (KnowsCall functions s.view) (eval_operands s os k) (λ xs j. gives (calls n (arguments 0 os xs)) j) (operands_known s os k d names) (λ xs j p.
      (found_below functions n (λ (f : Function). fill (length f.parameters) os) h, arguments_known s.view 0 os xs p))
  call_known s (ClockStart n e os) k d names h =
      bind_known (Knows s.view) (KnowsCall functions s.view) (eval s e k)
      (λ c j. bind (eval_operands s os j) (λ xs i. bind (lift (clock_arguments c xs) i) (λ vs l. gives (calls n vs) l))) (eval_known s e k d names) (λ c j p.
      bind_known (KnowsArguments s.view) (KnowsCall functions s.view) (eval_operands s os j) (λ xs i. bind (lift (clock_arguments c xs) i) (λ vs l. gives (calls n vs) l))
      (operands_known s os j d names) (λ xs i q.
      bind_known (KnowsAll s.view) (KnowsCall functions s.view) (lift (clock_arguments c xs) i) (λ vs l. gives (calls n vs) l) (clock_known s.view c xs p q) (λ vs l r.
      (last_below functions n 2 (both (n + 3 == length functions) (fill_some 2 os) h).0, r))))
  call_known s (QueuePut n e x) k d names h =
      bind_known (Knows s.view) (KnowsCall functions s.view) (eval s e k)
      (λ q j. bind (eval s x j) (λ v i. bind (lift (queue_arguments q (v ∷ [])) i) (λ vs l. gives (calls n vs) l))) (eval_known s e k d names) (λ q j p.
      bind_known (Knows s.view) (KnowsCall functions s.view) (eval s x j) (λ v i. bind (lift (queue_arguments q (v ∷ [])) i) (λ vs l. gives (calls n vs) l))
      (eval_known s x j d names) (λ v i o.
      bind_known (KnowsAll s.view) (KnowsCall functions s.view) (lift (queue_arguments q (v ∷ [])) i) (λ vs l. gives (calls n vs) l)
      (queue_arguments_known s.view q (v ∷ []) p (o, tt)) (λ vs l r. (last_below functions n 1 h, r))))
  call_known s (QueueGet n e) k d names h =
      bind_known (Knows s.view) (KnowsCall functions s.view) (eval s e k)
      (λ q j. bind (lift (queue_arguments q []) j) (λ vs i. gives (calls n vs) i)) (eval_known s e k d names) (λ q j p.
      bind_known (KnowsAll s.view) (KnowsCall functions s.view) (lift (queue_arguments q []) j) (λ vs i. gives (calls n vs) i)
      (queue_arguments_known s.view q [] p tt) (λ vs i r. (last_below functions n 0 h, r)))

  call_then : (c : Call) (a : At) (f : Called → At → Move) → Stands functions a → IsTrue (is_sound_call functions c)
      → ((x : Called) → KnowsCall functions a.scope.view x → (k : ℕ) → Stands functions (record a { next = k }) → KnowsMove functions a.scope.view (f x (record a { next = k })))
      → KnowsMove functions a.scope.view (outcome (eval_call a.scope c a.next) a f)
  call_then c a f h s g = value_known (KnowsCall functions a.scope.view) (eval_call a.scope c a.next) a f h (call_known a.scope c a.next h.design h.names s) g

  -- ---- awaits

  waits_known : (t : Trig) (a : At) → Stands functions a → KnownTrig a.scope.view t → KnowsMove functions a.scope.view (waits t a)
  waits_known t a h k = want_known (turned.Await t) a h k

  wait_for_known : (v : Value) (a : At) → Stands functions a → Knows a.scope.view v → KnowsMove functions a.scope.view (wait_for v a)
  wait_for_known v a h k =
      value_known (KnownTrig a.scope.view) (as_trigger a.scope.task v a.next) a waits h (trigger_known a.scope.view a.scope.task v a.next k)
      (λ t p j s. waits_known t (record a { next = j }) s p)

  wait_limited_known : (steps : ℕ) (v : Value) (a : At) → Stands functions a → Knows a.scope.view v → AreSteps steps → KnowsMove functions a.scope.view (wait_limited steps v a)
  wait_limited_known steps v a h k l =
      value_known (KnownTrig a.scope.view) (limited a.scope.task v steps a.next) a waits h (limited_known a.scope.view a.scope.task v steps a.next k l)
      (λ t p j s. waits_known t (record a { next = j }) s p)

  time_then : (a : At) (time : Tree) (unit : Option Tree) (f : Time → At → Move) → Stands functions a
      → ((t : Time) (k : ℕ) → Stands functions (record a { next = k }) → KnowsMove functions a.scope.view (f t (record a { next = k })))
      → KnowsMove functions a.scope.view (with_time a time unit f)
  time_then a time unit f h g =
      eval_then time a (λ t b. outcome (eval_some b.scope unit b.next) b (λ u c. f (record { number = t; unit = u }) c)) h (λ t p j s.
      value_known (λ o. IfSome o (Knows a.scope.view)) (eval_some a.scope unit j) (record a { next = j }) (λ u c. f (record { number = t; unit = u }) c) s
      (some_known (record a { next = j }) unit s) (λ u q i r. g (record { number = t; unit = u }) i r))

  steps_then : (a : At) (t : Time) (f : ℕ → At → Move) → Stands functions a
      → ((n : ℕ) → AreSteps n → (k : ℕ) → Stands functions (record a { next = k }) → KnowsMove functions a.scope.view (f n (record a { next = k })))
      → KnowsMove functions a.scope.view (with_steps a t f)
  steps_then a t f h g = value_known AreSteps (lift (time_steps a.scope.view t) a.next) a f h (steps_known a.scope.view t) g

  starts_known : (b : Bool) (x : Called) (a : At) → Stands functions a → KnowsCall functions a.scope.view x → KnowsMove functions a.scope.view (starts b x a)
  starts_known b x a h k = want_known (turned.Start x.function x.arguments b) a h k

  -- one of the events of a queue
  queue_wait_known : (event_of : SeenQueue → EventNo) (v : Value) (a : At) → Stands functions a → Knows a.scope.view v
      → ((q : QueueNo) → q.0 < length a.scope.view.queues → (event_of (queue a.scope.view q)).0 < length a.scope.view.events)
      → KnowsMove functions a.scope.view (wait_for_queue event_of v a)
  queue_wait_known event_of v a h k made =
      value_known (λ q. q.0 < length a.scope.view.queues) (lift (queue_of v) a.next) a
      (λ q b. outcome (new_trigger b.scope.task (trigger.Event (event_of (queue b.scope.view q))) b.next) b waits) h (queue_known a.scope.view v k) (λ q p j s.
      value_known (KnownTrig a.scope.view) (new_trigger a.scope.task (trigger.Event (event_of (queue a.scope.view q))) j) (record a { next = j }) waits s
      (new_known a.scope.view a.scope.task (trigger.Event (event_of (queue a.scope.view q))) j (made q p) tt)
      (λ t o i u. waits_known t (record a { next = i }) u o))

  await_known : (w : Awaited) (a : At) → Stands functions a → AreSoundCalls functions (awaited_calls w) → KnowsMove functions a.scope.view (await w a)
  await_known (AwaitedValue e) a h s = eval_then e a wait_for h (λ v p k q. wait_for_known v (record a { next = k }) q p)
  await_known (AwaitedCall c) a h s =
      call_then c a (λ x b. moved b On (Calls x.function x.arguments)) h (one_call functions c s) (λ x p k q. moved_known (record a { next = k }) On (Calls x.function x.arguments) q tt p.1)
  await_known (AwaitedStart c) a h s = call_then c a (starts true) h (one_call functions c s) (λ x p k q. starts_known true x (record a { next = k }) q p)
  await_known (AwaitedRoom e) a h s =
      eval_then e a (wait_for_queue (λ q. q.space_event)) h (λ v p k o. queue_wait_known (λ q. q.space_event) v (record a { next = k }) o p (λ q l. (h.events q l).1))
  await_known (AwaitedItem e) a h s =
      eval_then e a (wait_for_queue (λ q. q.items_event)) h (λ v p k o. queue_wait_known (λ q. q.items_event) v (record a { next = k }) o p (λ q l. (h.events q l).0))
  await_known (WithTimeout (TimedValue e) time unit) a h s =
      eval_then e a (λ v b. with_time b time unit (λ t c. outcome (lift (waitable v) c.next) c (λ w d. with_steps d t (λ steps f. wait_limited steps w f)))) h (λ v p j q.
      time_then (record a { next = j }) time unit (λ t c. outcome (lift (waitable v) c.next) c (λ w d. with_steps d t (λ steps f. wait_limited steps w f))) q (λ t i r.
      value_known (Knows a.scope.view) (lift (waitable v) i) (record a { next = i }) (λ w d. with_steps d t (λ steps f. wait_limited steps w f)) r (waitable_known a.scope.view v p) (λ w o l u.
      steps_then (record a { next = l }) t (λ steps f. wait_limited steps w f) u (λ n z m x. wait_limited_known n w (record a { next = m }) x o z))))
  await_known (WithTimeout (TimedCall call) time unit) a h s =
      call_then call a (λ x b. with_time b time unit (λ t c. with_steps c t (λ steps d. starts false x (first_do (Uses (Times steps) ∷ []) d)))) h (one_call functions call s) (λ x p j q.
      time_then (record a { next = j }) time unit (λ t c. with_steps c t (λ steps d. starts false x (first_do (Uses (Times steps) ∷ []) d))) q (λ t i r.
      steps_then (record a { next = i }) t (λ steps d. starts false x (first_do (Uses (Times steps) ∷ []) d)) r (λ n z m u.
      starts_known false x (first_do (Uses (Times n) ∷ []) (record a { next = m })) (with_first (Uses (Times n) ∷ []) (record a { next = m }) u (z, tt)) p)))

  -- ---- values

  stage_known : (t : Value) (x : Source) (a : At) → Stands functions a → Knows a.scope.view t → KnowsMove functions a.scope.view (stage t x a)
  stage_known t x a h k =
      value_known (KnownWrite a.scope.view) (lift (write_of a.scope.view t x) a.next) a (λ w b. want (turned.Stage w.sig w.act) b) h (write_known a.scope.view t x k)
      (λ w p j q. want_known (turned.Stage w.sig w.act) (record a { next = j }) q p)

  put_known : (t : Value) (x : Source) (a : At) → Stands functions a → Knows a.scope.view t → KnowsMove functions a.scope.view (put_now t x a)
  put_known t x a h k =
      value_known (KnownWrite a.scope.view) (lift (write_of a.scope.view t x) a.next) a (λ w b. want (turned.Put w.sig w.act) b) h (write_known a.scope.view t x k)
      (λ w p j q. want_known (turned.Put w.sig w.act) (record a { next = j }) q p)

  use_known : (u : Use) (v : Value) (a : At) → Stands functions a → KnowsUse functions a.scope.view u → Knows a.scope.view v → KnowsMove functions a.scope.view (use_value u v a)
  use_known (Assigns n) v a h u k = go_known (named n (Some v) a) (with_name n (Some v) a h k)
  use_known (Writes e) v a h u k = eval_then e a (λ t b. stage t (Value' v) b) h (λ t p j q. stage_known t (Value' v) (record a { next = j }) q p)
  use_known Returns v a h u k = leave_known (Return v) a h k
  use_known (Times steps) (value.Task t) a h u k =
      wait_limited_known steps (value.Task t) (first_do (Uses (Limited t) ∷ []) a) (with_first (Uses (Limited t) ∷ []) a h (k, tt)) k u
  use_known (Times steps) _ a h u k = go_known a h
  use_known (Limited t) v a h u k = moved_known a (Has v) Nothing h k tt
  use_known (Enters l b) v a h u k =
      go_known (first_do (items b ++ Holds l ∷ []) a) (with_rest a ((items b ++ Holds l ∷ []) ++ a.rest) h (block_known functions a.scope.view b (Holds l) a.rest u.1 u.0 h.rest))

  right_known : (s : RightSide) (u : Use) (a : At) → Stands functions a → KnowsUse functions a.scope.view u → AreSoundCalls functions (right_calls s)
      → KnowsMove functions a.scope.view (right_side s u a)
  right_known (RightValue e) u a h k s = eval_then e a (use_value u) h (λ v p j q. use_known u v (record a { next = j }) q k p)
  right_known (RightAwait w) u a h k s = await_known w (first_do (Uses u ∷ []) a) (with_first (Uses u ∷ []) a h (k, tt)) s
  right_known (RightStart c) u a h k s =
      call_then c (first_do (Uses u ∷ []) a) (starts false) (with_first (Uses u ∷ []) a h (k, tt)) (one_call functions c s)
      (λ x p j q. starts_known false x (record (first_do (Uses u ∷ []) a) { next = j }) q p)
  right_known body.NewEvent u a h k s = want_known turned.NewEvent (first_do (Uses u ∷ []) a) (with_first (Uses u ∷ []) a h (k, tt)) tt
  right_known body.NewLock u a h k s = want_known turned.NewLock (first_do (Uses u ∷ []) a) (with_first (Uses u ∷ []) a h (k, tt)) tt
  right_known (NewQueue None) u a h k s = want_known (turned.NewQueue 0) (first_do (Uses u ∷ []) a) (with_first (Uses u ∷ []) a h (k, tt)) (omega arith)
  right_known (NewQueue (Some e)) u a h k s =
      eval_then e a (λ v b. outcome (lift (queue_bound v) b.next) b (λ n c. want (turned.NewQueue n) (first_do (Uses u ∷ []) c))) h (λ v p j q.
      value_known (λ n. n ≤ item_limit) (lift (queue_bound v) j) (record a { next = j }) (λ n c. want (turned.NewQueue n) (first_do (Uses u ∷ []) c)) q (bound_known v) (λ n o i r.
      want_known (turned.NewQueue n) (first_do (Uses u ∷ []) (record a { next = i })) (with_first (Uses u ∷ []) (record a { next = i }) r (k, tt)) o))
  right_known (GetNow e) u a h k s =
      eval_then e a (λ v b. outcome (lift (queue_of v) b.next) b (λ q c. want (turned.GetNow q) (first_do (Uses u ∷ []) c))) h (λ v p j q.
      value_known (λ n. n.0 < length a.scope.view.queues) (lift (queue_of v) j) (record a { next = j }) (λ q c. want (turned.GetNow q) (first_do (Uses u ∷ []) c)) q
      (queue_known a.scope.view v p) (λ n o i r.
      want_known (turned.GetNow n) (first_do (Uses u ∷ []) (record a { next = i })) (with_first (Uses u ∷ []) (record a { next = i }) r (k, tt)) o))
  right_known (RandomInt low high) u a h k s =
      eval_then low a (λ x b. outcome (eval b.scope high b.next) b (λ y c. outcome (lift (drawn x y) c.next) c (λ d f. want (turned.Draw d.low d.span) (first_do (Uses u ∷ []) f)))) h (λ x p j q.
      eval_then high (record a { next = j }) (λ y c. outcome (lift (drawn x y) c.next) c (λ d f. want (turned.Draw d.low d.span) (first_do (Uses u ∷ []) f))) q (λ y o i r.
      value_known KnownDraw (lift (drawn x y) i) (record a { next = i }) (λ d f. want (turned.Draw d.low d.span) (first_do (Uses u ∷ []) f)) r (drawn_known x y) (λ d l m z.
      want_known (turned.Draw d.low d.span) (first_do (Uses u ∷ []) (record a { next = m })) (with_first (Uses u ∷ []) (record a { next = m }) z (k, tt)) l)))

  -- ---- statements

  pub act_known : (view : View) (act : Action) (v : Value) → Knows view v → IfOk (act_of act v) (KnowsTurned functions view)
  act_known view action.Set (value.Event e) h = h
  act_known view action.Clear (value.Event e) h = h
  act_known view action.Release (value.Lock l) h = h
  act_known view action.Kill (value.Task t) h = h
  act_known view _ _ h = tt

  throw_known : (kind : FaultKind) (e : Option Tree) (a : At) → Stands functions a → KnowsMove functions a.scope.view (throw_text kind e a)
  throw_known kind e a h =
      value_known (λ text. Unit {0}) (eval_text a.scope e a.next) a (λ text b. leave (Throw (record { kind = kind; text = text })) b) h (anything (eval_text a.scope e a.next).answer)
      (λ text p j q. leave_known (Throw (record { kind = kind; text = text })) (record a { next = j }) q tt)

  asserted_known : (b : Bool) (e : Option Tree) (a : At) → Stands functions a → KnowsMove functions a.scope.view (asserted b e a)
  asserted_known true e a h = go_known a h
  asserted_known false e a h = throw_known AssertionError e a h

  log_known : (logger : Logger) (level : LogLevel) (e : Tree) (es : List Tree) (a : At) → Stands functions a → KnowsMove functions a.scope.view (log logger level e es a)
  log_known logger level e es a h =
      value_known (λ v. Unit {0}) (eval_logger a.scope logger a.next) a
      (λ _ b. outcome (eval b.scope e b.next) b (λ v c. outcome (eval_all c.scope es c.next) c (λ vs d. outcome (lift (short_text (log_text d.scope.view.places v vs)) d.next) d (λ text f. want (turned.Log level text) f)))) h
      (anything (eval_logger a.scope logger a.next).answer) (λ _ p j q.
      eval_then e (record a { next = j }) (λ v c. outcome (eval_all c.scope es c.next) c (λ vs d. outcome (lift (short_text (log_text d.scope.view.places v vs)) d.next) d (λ text f. want (turned.Log level text) f))) q (λ v o i r.
      value_known (KnowsAll a.scope.view) (eval_all a.scope es i) (record a { next = i }) (λ vs d. outcome (lift (short_text (log_text d.scope.view.places v vs)) d.next) d (λ text f. want (turned.Log level text) f)) r
      (all_known a.scope es i h.design h.names) (λ vs s l u.
      value_known (λ text. length text ≤ text_limit) (lift (short_text (log_text a.scope.view.places v vs)) l) (record a { next = l }) (λ text f. want (turned.Log level text) f) u
      (short_known (log_text a.scope.view.places v vs)) (λ text z m w. want_known (turned.Log level text) (record a { next = m }) w z))))

  statement_known : (s : Statement) (a : At) → Stands functions a → AreSoundCalls functions (statement_calls s) → KnowsMove functions a.scope.view (do_statement s a)
  statement_known body.Pass a h s = go_known a h
  statement_known body.Break a h s = leave_known Break a h tt
  statement_known body.Continue a h s = leave_known Continue a h tt
  statement_known (body.Return None) a h s = leave_known (Return value.Absent) a h tt
  statement_known (body.Return (Some r)) a h s = right_known r Returns a h tt s
  statement_known (body.Raise kind e) a h s = throw_known kind e a h
  statement_known (body.Assert c e) a h s = eval_then c a (λ v b. asserted (truth v) e b) h (λ v p j q. asserted_known (truth v) e (record a { next = j }) q)
  statement_known (body.Assign n r) a h s = right_known r (Assigns n) a h tt s
  statement_known (body.AugmentedAssign n o e) a h s = right_known (RightValue (Infix (Binary o) (Name n) e)) (Assigns n) a h tt refl
  statement_known (body.AssignValue e r) a h s = right_known r (Writes e) a h tt s
  statement_known (body.SetImmediateValue e v) a h s =
      eval_then e a (λ t b. outcome (eval b.scope v b.next) b (λ w c. put_now t (Value' w) c)) h (λ t p j q.
      eval_then v (record a { next = j }) (λ w c. put_now t (Value' w) c) q (λ w o i r. put_known t (Value' w) (record a { next = i }) r p))
  statement_known (body.Await w) a h s = await_known w a h s
  statement_known (body.Act e act) a h s =
      eval_then e a (λ v b. outcome (lift (act_of act v) b.next) b want) h (λ v p j q.
      value_known (KnowsTurned functions a.scope.view) (lift (act_of act v) j) (record a { next = j }) want q (act_known a.scope.view act v p)
      (λ t o i r. want_known t (record a { next = i }) r o))
  statement_known (body.Log logger level e es) a h s = log_known logger level e es a h
  statement_known (body.StartSoon c) a h s = call_then c a (starts false) h (one_call functions c s) (λ x p j q. starts_known false x (record a { next = j }) q p)
  statement_known (body.PutNow e x) a h s =
      eval_then e a (λ v b. outcome (eval b.scope x b.next) b (λ item c. outcome (lift (queue_of v) c.next) c (λ q d. want (turned.PutNow q item) d))) h (λ v p j q.
      eval_then x (record a { next = j }) (λ item c. outcome (lift (queue_of v) c.next) c (λ q d. want (turned.PutNow q item) d)) q (λ item o i r.
      value_known (λ n. n.0 < length a.scope.view.queues) (lift (queue_of v) i) (record a { next = i }) (λ q d. want (turned.PutNow q item) d) r (queue_known a.scope.view v p)
      (λ n u l w. want_known (turned.PutNow n item) (record a { next = l }) w (u, o))))
  statement_known (body.AssignAction e w) a h s =
      value_known (λ x. Unit {0}) (eval_action a.scope w a.next) a (λ x b. outcome (eval b.scope e b.next) b (λ t c. stage t x c)) h
      (anything (eval_action a.scope w a.next).answer) (λ x p j q.
      eval_then e (record a { next = j }) (λ t c. stage t x c) q (λ t o i r. stage_known t x (record a { next = i }) r o))
  statement_known (body.SetImmediateAction e w) a h s =
      eval_then e a (λ t b. outcome (eval_action b.scope w b.next) b (λ x c. put_now t x c)) h (λ t p j q.
      value_known (λ x. Unit {0}) (eval_action a.scope w j) (record a { next = j }) (λ x c. put_now t x c) q
      (anything (eval_action a.scope w j).answer) (λ x o i r. put_known t x (record a { next = i }) r p))

  -- ---- blocks

  choose_known : (b : Bool) (ts us : List Todo) (a : At) → Stands functions a → KnowsTodos functions a.scope.view ts → KnowsTodos functions a.scope.view us
      → KnowsMove functions a.scope.view (choose b ts us a)
  choose_known true ts us a h k l = go_known (first_do ts a) (with_first ts a h k)
  choose_known false ts us a h k l = go_known (first_do us a) (with_first us a h l)

  ask_known : (e : Tree) (ts us : List Todo) (a : At) → Stands functions a → KnowsTodos functions a.scope.view ts → KnowsTodos functions a.scope.view us
      → KnowsMove functions a.scope.view (ask e ts us a)
  ask_known e ts us a h k l = eval_then e a (λ v b. choose (truth v) ts us b) h (λ v p j q. choose_known (truth v) ts us (record a { next = j }) q k l)

  -- a block, and a mark behind it
  pub marked : (view : View) (b : Block) (t : Todo) → AreSoundCalls functions (block_calls b) → KnowsTodo functions view t → KnowsTodos functions view (items b ++ t ∷ [])
  marked view b t h k = todos_append functions view (items b) (t ∷ []) (items_known functions view b h) (k, tt)

  each_known : (n : List ℕ) (element : Answer Value) (left : Left) (block : Block) (a : At) → Stands functions a → IfOk element (Knows a.scope.view)
      → AreSoundCalls functions (block_calls block) → KnowsMove functions a.scope.view (each n element left block a)
  each_known n element left block a h k s =
      value_known (Knows a.scope.view) (lift element a.next) a (λ v b. go_on (named n (Some v) (first_do (items block ++ Each n left block ∷ []) b))) h k (λ v p j q.
      go_known (named n (Some v) (first_do (items block ++ Each n left block ∷ []) (record a { next = j })))
      (with_name n (Some v) (first_do (items block ++ Each n left block ∷ []) (record a { next = j }))
      (with_first (items block ++ Each n left block ∷ []) (record a { next = j }) q (marked a.scope.view block (Each n left block) s s)) p))

  number_known : (b : Bool) (n : List ℕ) (z stop step : ℤ) (block : Block) (a : At) → Stands functions a → AreSoundCalls functions (block_calls block)
      → KnowsMove functions a.scope.view (ask_number b n z stop step block a)
  number_known true n z stop step block a h s =
      each_known n (whole (held z)) (Numbers (z +ℤ step) stop step) block a h (whole_plain a.scope.view (held z)) s
  number_known false n z stop step block a h s = go_known a h

  next_known : (n : List ℕ) (left : Left) (block : Block) (a : At) → Stands functions a → AreSoundCalls functions (block_calls block)
      → KnowsMove functions a.scope.view (ask_next n left block a)
  next_known n (Numbers z stop step) block a h s = number_known (is_before z stop step) n z stop step block a h s
  next_known n (Listed []) block a h s = go_known a h
  next_known n (Listed (c ∷ cs)) block a h s = each_known n (constant_value c) (Listed cs) block a h (constant_known a.scope.view c) s

  pub lock_known : (view : View) (v : Value) → Knows view v → IfOk (lock_of v) (KnowsLock view)
  lock_known view (value.Lock l) h = h
  lock_known view _ h = tt

  enter_known : (e : Tree) (block : Block) (a : At) → Stands functions a → AreSoundCalls functions (block_calls block) → KnowsMove functions a.scope.view (enter e block a)
  enter_known e b a h s =
      eval_then e a (λ v c. outcome (lift (lock_of v) c.next) c (λ l d. outcome (new_trigger d.scope.task (trigger.Lock l) d.next) d (λ t f. waits t (first_do (Uses (Enters l b) ∷ []) f)))) h (λ v p j q.
      value_known (KnowsLock a.scope.view) (lift (lock_of v) j) (record a { next = j }) (λ l d. outcome (new_trigger d.scope.task (trigger.Lock l) d.next) d (λ t f. waits t (first_do (Uses (Enters l b) ∷ []) f))) q
      (lock_known a.scope.view v p) (λ l o i r.
      value_known (KnownTrig a.scope.view) (new_trigger a.scope.task (trigger.Lock l) i) (record a { next = i }) (λ t f. waits t (first_do (Uses (Enters l b) ∷ []) f)) r
      (new_known a.scope.view a.scope.task (trigger.Lock l) i o tt) (λ t u m w.
      waits_known t (first_do (Uses (Enters l b) ∷ []) (record a { next = m })) (with_first (Uses (Enters l b) ∷ []) (record a { next = m }) w ((o, s), tt)) u)))

  item_known : (i : Item) (a : At) → Stands functions a → AreSoundCalls functions (item_calls i) → KnowsMove functions a.scope.view (do_item i a)
  item_known (Simple x) a h s = statement_known x a h s
  item_known (If e b c) a h s =
      let parts = calls_part functions (block_calls b) (block_calls c) s in
      ask_known e (items b) (items c) a h (items_known functions a.scope.view b parts.0) (items_known functions a.scope.view c parts.1)
  item_known (While e b) a h s = ask_known e (items b ++ Again e b ∷ []) [] a h (marked a.scope.view b (Again e b) s s) tt
  item_known (For n span b) a h s =
      value_known (λ left. Unit {0}) (eval_span a.scope span a.next) a (λ left c. ask_next n left b c) h (anything (eval_span a.scope span a.next).answer)
      (λ left p j q. next_known n left b (record a { next = j }) q s)
  item_known (Try b hs) a h s =
      let parts = calls_part functions (block_calls b) (handler_calls hs) s in
      go_known (first_do (items b ++ Handles hs ∷ []) a) (with_first (items b ++ Handles hs ∷ []) a h (marked a.scope.view b (Handles hs) parts.0 parts.1))
  item_known (With e b) a h s = enter_known e b a h s

  first_known : (t : Todo) (a : At) → Stands functions a → KnowsTodo functions a.scope.view t → KnowsMove functions a.scope.view (do_first t a)
  first_known (Do i) a h k = item_known i a h k
  first_known (Again e b) a h k = ask_known e (items b ++ Again e b ∷ []) [] a h (marked a.scope.view b (Again e b) k k) tt
  first_known (Each n left b) a h k = next_known n left b a h k
  first_known (Uses u) a h k = go_known a h
  first_known (Handles hs) a h k = go_known a h
  first_known (Bound n) a h k = go_known (named n None a) (with_name n None a h tt)
  first_known (Holds l) a h k = want_known (turned.Release l) a h k

  -- ---- leaving

  handle_known : (c : Caught) (fault : Fault) (b : Block) (a : At) → Stands functions a → AreSoundCalls functions (block_calls b) → KnowsMove functions a.scope.view (handle c fault b a)
  handle_known (KindAs k n) fault b a h s =
      go_known (named n (Some (value.Caught fault)) (first_do (items b ++ Bound n ∷ []) a))
      (with_name n (Some (value.Caught fault)) (first_do (items b ++ Bound n ∷ []) a) (with_first (items b ++ Bound n ∷ []) a h (marked a.scope.view b (Bound n) s tt)) tt)
  handle_known All fault b a h s = go_known (first_do (items b) a) (with_first (items b) a h (items_known functions a.scope.view b s))
  handle_known (Kind k) fault b a h s = go_known (first_do (items b) a) (with_first (items b) a h (items_known functions a.scope.view b s))
  handle_known (Kinds ks) fault b a h s = go_known (first_do (items b) a) (with_first (items b) a h (items_known functions a.scope.view b s))

  if_known : (view : View) (b : Bool) (x y : Move) → KnowsMove functions view x → KnowsMove functions view y → KnowsMove functions view (if b then x else y)
  if_known view true x y h g = h
  if_known view false x y h g = g

  find_known : (hs : Handlers) (fault : Fault) (a : At) → Stands functions a → AreSoundCalls functions (handler_calls hs) → KnowsMove functions a.scope.view (find_handler hs fault a)
  find_known NoHandler fault a h s = leave_known (Throw fault) a h tt
  find_known (Catch c b hs) fault a h s =
      let parts = calls_part functions (block_calls b) (handler_calls hs) s in
      if_known a.scope.view (catches c fault.kind) (handle c fault b a) (find_handler hs fault a) (handle_known c fault b a h parts.0) (find_known hs fault a h parts.1)

  handlers_known : (jump : Jump) (hs : Handlers) (a : At) → Stands functions a → KnowsJump a.scope.view jump → AreSoundCalls functions (handler_calls hs)
      → KnowsMove functions a.scope.view (at_handlers jump hs a)
  handlers_known (Throw fault) hs a h k s = find_known hs fault a h s
  handlers_known (Return v) hs a h k s = leave_known (Return v) a h k
  handlers_known Break hs a h k s = leave_known Break a h tt
  handlers_known Continue hs a h k s = leave_known Continue a h tt

  loop_known : (jump : Jump) (t : Todo) (a : At) → Stands functions a → KnowsJump a.scope.view jump → KnowsTodo functions a.scope.view t
      → KnowsMove functions a.scope.view (at_loop jump t a)
  loop_known (Throw fault) t a h k s = leave_known (Throw fault) a h tt
  loop_known (Return v) t a h k s = leave_known (Return v) a h k
  loop_known Break t a h k s = go_known a h
  loop_known Continue t a h k s = go_known (first_do (t ∷ []) a) (with_first (t ∷ []) a h (s, tt))

  kill_known : (view : View) (c : Bool) (n : TaskNo) → KnowsTask view n → KnowsWish functions view (if c then Asks (turned.Kill n) else Nothing)
  kill_known view true n h = h
  kill_known view false n h = tt

  limit_left : (jump : Jump) (n : TaskNo) (a : At) → Stands functions a → KnowsJump a.scope.view jump → KnowsTask a.scope.view n → KnowsMove functions a.scope.view (at_limit jump n a)
  limit_left (Throw fault) n a h k t =
      moved_known a (Leaves (Throw fault)) (if same_kind fault.kind SimTimeoutError then Asks (turned.Kill n) else Nothing) h tt
      (kill_known a.scope.view (same_kind fault.kind SimTimeoutError) n t)
  limit_left (Return v) n a h k t = leave_known (Return v) a h k
  limit_left Break n a h k t = leave_known Break a h tt
  limit_left Continue n a h k t = leave_known Continue a h tt

  drop_known : (jump : Jump) (todo : List Todo) (a : At) → Stands functions a → KnowsJump a.scope.view jump → KnowsTodos functions a.scope.view todo
      → KnowsMove functions a.scope.view (drop_mark jump todo a)
  drop_known jump [] a h k t = moved_known (record a { rest = [] }) On (Ends jump) (with_rest a [] h tt) tt k
  drop_known jump (Do i ∷ rest) a h k t = drop_known jump rest a h k t.1
  drop_known jump (Again e b ∷ rest) a h k t = loop_known jump (Again e b) (record a { rest = rest }) (with_rest a rest h t.1) k t.0
  drop_known jump (Each n left b ∷ rest) a h k t = loop_known jump (Each n left b) (record a { rest = rest }) (with_rest a rest h t.1) k t.0
  drop_known jump (Uses (Limited n) ∷ rest) a h k t = limit_left jump n (record a { rest = rest }) (with_rest a rest h t.1) k t.0
  drop_known jump (Uses (Assigns n) ∷ rest) a h k t = drop_known jump rest a h k t.1
  drop_known jump (Uses (Writes e) ∷ rest) a h k t = drop_known jump rest a h k t.1
  drop_known jump (Uses Returns ∷ rest) a h k t = drop_known jump rest a h k t.1
  drop_known jump (Uses (Times n) ∷ rest) a h k t = drop_known jump rest a h k t.1
  drop_known jump (Uses (Enters l b) ∷ rest) a h k t = drop_known jump rest a h k t.1
  drop_known jump (Handles hs ∷ rest) a h k t = handlers_known jump hs (record a { rest = rest }) (with_rest a rest h t.1) k t.0
  drop_known jump (Bound n ∷ rest) a h k t =
      leave_known jump (named n None (record a { rest = rest })) (with_name n None (record a { rest = rest }) (with_rest a rest h t.1) tt) k
  drop_known jump (Holds l ∷ rest) a h k t =
      moved_known (record a { rest = rest }) (Leaves jump) (Asks (turned.Release l)) (with_rest a rest h t.1) k t.0

  -- ---- a step of a call

  on_known : (todo : List Todo) (a : At) → Stands functions a → KnowsTodos functions a.scope.view todo → KnowsMove functions a.scope.view (step_on todo a)
  on_known [] a h t = moved_known (record a { rest = [] }) On (Ends (Return value.Absent)) (with_rest a [] h tt) tt tt
  on_known (t ∷ rest) a h k = first_known t (record a { rest = rest }) (with_rest a rest h k.1) k.0

  has_known : (v : Value) (todo : List Todo) (a : At) → Stands functions a → Knows a.scope.view v → KnowsTodos functions a.scope.view todo
      → KnowsMove functions a.scope.view (step_with v todo a)
  has_known v [] a h k t = on_known [] a h t
  has_known v (Uses u ∷ rest) a h k t = use_known u v (record a { rest = rest }) (with_rest a rest h t.1) t.0 k
  has_known v (Do i ∷ rest) a h k t = on_known (Do i ∷ rest) a h t
  has_known v (Again e b ∷ rest) a h k t = on_known (Again e b ∷ rest) a h t
  has_known v (Each n left b ∷ rest) a h k t = on_known (Each n left b ∷ rest) a h t
  has_known v (Handles hs ∷ rest) a h k t = on_known (Handles hs ∷ rest) a h t
  has_known v (Bound n ∷ rest) a h k t = on_known (Bound n ∷ rest) a h t
  has_known v (Holds l ∷ rest) a h k t = on_known (Holds l ∷ rest) a h t

  step_known : (course : Course) (todo : List Todo) (a : At) → Stands functions a → KnowsCourse a.scope.view course → KnowsTodos functions a.scope.view todo
      → KnowsMove functions a.scope.view (step course todo a)
  step_known On todo a h k t = on_known todo a h t
  step_known (Has v) todo a h k t = has_known v todo a h k t
  step_known (Leaves jump) todo a h k t = drop_known jump todo a h k t

  -- ---- a step of a task

  pub given_known : (view : View) (g : Option Given) (course : Course) → IfSome g (KnowsGiven view) → KnowsCourse view course → KnowsCourse view (given_to g course)
  given_known view None course h k = k
  given_known view (Some given.Begin) course h k = k
  given_known view (Some (given.Value v)) On h k = h
  given_known view (Some (given.Value v)) (Has w) h k = h
  given_known view (Some (given.Value v)) (Leaves jump) h k = k
  given_known view (Some (given.Fault fault)) course h k = tt
  given_known view (Some (given.Joined t)) course h k = k

  pub function_sound : (fs : List Function) (n : ℕ) → IsTrue (list_all (is_sound_function functions) fs)
      → AreSoundCalls functions (block_calls (function_at fs n).body)
  function_sound [] n h = refl
  function_sound (f ∷ fs) zero h = (both (is_sound_function functions f) (list_all (is_sound_function functions) fs) h).0
  function_sound (f ∷ fs) (suc n) h = function_sound fs n (both (is_sound_function functions f) (list_all (is_sound_function functions) fs) h).1

  pub entered_frame : (view : View) (n : ℕ) (vs : List Value) → AreSoundFunctions functions → KnowsAll view vs → KnowsFrame functions view (entered (function_at functions n) vs)
  entered_frame view n vs s h =
      let f : Function = function_at functions n in
      record {
        names = entered_known view (f.parameters ++ f.others) vs h;
        course = tt;
        todo = items_known functions view f.body (function_sound functions n s);
      }

  called_frames : (view : View) (b : Bool) (n : ℕ) (vs : List Value) (f : Frame) (fs : List Frame) → AreSoundFunctions functions → KnowsAll view vs
      → KnowsFrame functions view f → KnowsFrames functions view fs → KnowsFrames functions view (call b (function_at functions n) vs f fs)
  called_frames view true n vs f fs s h k l = (entered_frame view n vs s h, (k, l))
  called_frames view false n vs f fs s h k l = (record { names = k.names; course = tt; todo = k.todo }, l)

  result_known : (view : View) (jump : Jump) → KnowsJump view jump → KnowsCourse view (result_course jump)
  result_known view (Throw fault) h = tt
  result_known view (Return v) h = h
  result_known view Break h = tt
  result_known view Continue h = tt

  ending_known : (view : View) (jump : Jump) → KnowsJump view jump → KnowsTurned functions view (ending jump)
  ending_known view (Throw fault) h = tt
  ending_known view (Return v) h = h
  ending_known view Break h = tt
  ending_known view Continue h = tt

  abbrev KnowsNext : View → Next → Type 0
  KnowsNext view n = KnowsFrames functions view n.task.frames × IfSome n.turned (KnowsTurned functions view)

  pub returned_known : (view : View) (jump : Jump) (fs : List Frame) (task : Task) → KnowsJump view jump → KnowsFrames functions view fs → KnowsNext view (returned jump fs task)
  returned_known view jump [] task h k = (tt, ending_known view jump h)
  returned_known view jump (f ∷ fs) task h k = ((record { names = k.0.names; course = result_known view jump h; todo = k.0.todo }, k.1), tt)

  settled_known : (view : View) (w : Wish) (f : Frame) (fs : List Frame) (task : Task) → AreSoundFunctions functions → KnowsFrame functions view f → KnowsWish functions view w
      → KnowsFrames functions view fs → KnowsNext view (settled functions w f fs task)
  settled_known view Nothing f fs task s h k l = ((h, l), tt)
  settled_known view (Asks t) f fs task s h k l = ((h, l), k)
  settled_known view (Calls n vs) f fs task s h k l = (called_frames view (nat_lt (suc (length fs)) frame_limit) n vs f fs s k h l, tt)
  settled_known view (Ends jump) f fs task s h k l = returned_known view jump fs task k l

  frames_known : (view : View) (frames : List Frame) (task : Task) (g : Option Given) → KnowsDesign view → KnowsEvents view → AreSoundFunctions functions → KnowsFrames functions view task.frames
      → KnowsFrames functions view frames → IfSome g (KnowsGiven view) → KnowsNext view (next_of functions frames task g view)
  frames_known view [] task g d e s t h k = (t, tt)
  frames_known view (f ∷ fs) task g d e s t h k =
      let m : Move = frame_move f g task view in
      let a : At = at task.number task.triggers f.names view in
      let known : KnowsMove functions view m = step_known (given_to g f.course) f.todo a (record { design = d; events = e; names = h.0.names; rest = tt }) (given_known view g f.course k h.0.course) h.0.todo in
      settled_known view m.wish m.frame fs (record task { triggers = m.next }) s known.0 known.1 h.1

-- what a step leaves is known, and what it wants
pub next_is_known : (functions : List Function) (task : Task) (g : Option Given) (view : View) → KnowsDesign view → KnowsEvents view → KnowsWhole functions view task
    → IfSome g (KnowsGiven view)
    → KnowsWhole functions view (next functions task g view).task × IfSome (next functions task g view).turned (KnowsTurned functions view)
next_is_known functions task g view d e h k =
    let known = frames_known functions view task.frames task g d e h.sound h.frames h.frames k in
    (record { sound = h.sound; frames = known.0 }, known.1)
