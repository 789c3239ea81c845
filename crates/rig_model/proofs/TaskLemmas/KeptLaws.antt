-- A step of a call keeps its names, only their values change; and it never wants Spent.
use Rattle.std.proofs.Common.{◌≡◌, ℕ, Bool, true, false, List, [], ◌∷◌, ◌++◌, refl, ◌∙◌, ap, subst, if◌then◌else◌, Option, None, Some, Ok, Err}
use Rattle.std.specs.Prelude.{ℤ, ◌+ℤ◌}
use Rattle.std.specs.Str.{bytes_eq}
use Rattle.py_value.specs.Integer.Integer.{held}
use Rattle.py_syntax.specs.ExpressionTrees.{Tree, Name, Infix}
use Rattle.py_syntax.specs.StatementTrees.{Caught, All, Kind, Kinds, KindAs}
use Rattle.py_syntax.specs.declared.expression.Operation.TheVariants.{Binary}
use Rattle.py_syntax.specs.declared.fault_kind.FaultKind.{FaultKind}
use Rattle.py_syntax.specs.declared.statement.Action.{Action}
use Rattle.py_syntax.specs.declared.statement.Action.TheVariants as action
use Rattle.py_syntax.specs.declared.statement.LogLevel.{LogLevel}
use Rattle.py_value.specs.Answer.{Answer}
use Rattle.py_value.specs.Trigger as trigger
use Rattle.py_value.specs.Truth.{truth}
use Rattle.py_value.specs.declared.trigger.EventNo.{EventNo}
use Rattle.py_value.specs.declared.trigger.TaskNo.{TaskNo}
use Rattle.py_value.specs.declared.value.Fault.{Fault}
use Rattle.py_value.specs.declared.value.Value.{Value}
use Rattle.py_value.specs.declared.value.Value.TheVariants as value
use Rattle.py_value.specs.Operator.Identity.{same_kind}
use Rattle.py_value.specs.Operator.Number.{whole}
use Rattle.py_evaluate.specs.Attribute.Look.{View, Names, Local, SeenQueue, queue}
use Rattle.py_evaluate.specs.Attribute.Outcome.{Outcome, lift}
use Rattle.py_evaluate.specs.Function.Making.{as_trigger, new_trigger}
use Rattle.py_syntax.specs.declared.fault_kind.FaultKind.TheVariants.{AssertionError, SimTimeoutError}
use Rattle.py_evaluate.specs.Eval.{constant_value, eval}
use Rattle.test_meaning.specs.Body.BodyTrees as body
use Rattle.test_meaning.specs.Body.BodyTrees.{Function, Timed, TimedValue, TimedCall, Awaited, AwaitedValue, AwaitedCall, AwaitedStart, AwaitedRoom, AwaitedItem, WithTimeout, RightSide, RightValue, RightAwait, RightStart, RandomInt, NewQueue, GetNow, Logger, Statement, Item, Simple, If, While, For, Try, With, Block, NoItem, Handlers, NoHandler, Catch}
use Rattle.rig_model.specs.Task.Frame.{Left, Numbers, Listed, Use, Assigns, Writes, Returns, Times, Limited, Enters, Todo, Do, Again, Each, Uses, Handles, Bound, Holds, Jump, Throw, Return, Break, Continue, Course, On, Has, Leaves, Frame, Task, items, with_local}
use Rattle.rig_model.specs.Task.Moves.{Wish, Nothing, Asks, Calls, Ends, Move, At, moved, go_on, leave, want, first_do, named, answered, outcome, eval_all, eval_some, eval_text, short_text}
use Rattle.rig_model.specs.Task.Calls.{eval_call, starts}
use Rattle.rig_model.specs.Task.Awaits.{Time, waits, waitable, wait_for, limited, wait_limited, with_time, time_steps, with_steps, queue_of, wait_for_queue, await}
use Rattle.rig_model.specs.Task.Values.{Source, Value', write_of, stage, put_now, eval_action, use_value, drawn, queue_bound, right_side}
use Rattle.rig_model.specs.Task.Statements.{act_of, throw_text, asserted, eval_logger, log_text, log, do_statement}
use Rattle.rig_model.specs.Task.Blocks.{choose, ask, eval_span, is_before, each, ask_number, ask_next, lock_of, enter, do_item, do_first}
use Rattle.rig_model.specs.Task.Leaving.{catches, handle, find_handler, at_handlers, at_limit, at_loop, drop_mark}
use Rattle.rig_model.specs.Task.Step.{settled, next_of, next, frame_move, given_to, at, step_on, step_with, step}
use Rattle.rig_model.specs.Task.Kept.{name_of, names_of}
use Rattle.await_tree.specs.declared.cause.Given.{Given}
use Rattle.rig_model.specs.declared.task.task.Turned.{Turned}
use Rattle.rig_model.specs.declared.task.task.Turned.TheVariants as turned

-- it isn't Spent
abbrev IsAsked : Turned → Type 0
IsAsked turned.Spent = ⊥
IsAsked _ = Unit {0}

abbrev IsWished : Wish → Type 0
IsWished (Asks t) = IsAsked t
IsWished _ = Unit {0}

abbrev Kept : List (List ℕ) → Move → Type 0
Kept ns m = (names_of m.frame.names ≡ ns) × IsWished m.wish

abbrev HasNames : List (List ℕ) → At → Type 0
HasNames ns a = names_of a.scope.names ≡ ns

if_names : (b : Bool) (l : Local) (ls ms : Names) (v : Option Value) → names_of ms ≡ names_of ls
    → names_of (if b then record l { value = v } ∷ ls else l ∷ ms) ≡ name_of l ∷ names_of ls
if_names true l ls ms v h = refl
if_names false l ls ms v h = ap (λ ns. l.name ∷ ns) h

local_names : (ls : Names) (n : List ℕ) (v : Option Value) → names_of (with_local ls n v) ≡ names_of ls
local_names [] n v = refl
local_names (l ∷ ls) n v = if_names (bytes_eq l.name n) l ls (with_local ls n v) v (local_names ls n v)

result_kept : {A : Type 0} (ns : List (List ℕ)) (r : Answer A) (a : At) (f : A → At → Move)
    → HasNames ns a → ((v : A) → Kept ns (f v a)) → Kept ns (answered r a f)
result_kept ns (Ok v) a f h g = g v
result_kept ns (Err kind) a f h g = (h, tt)

value_kept : {A : Type 0} (ns : List (List ℕ)) (o : Outcome A) (a : At) (f : A → At → Move)
    → HasNames ns a → ((v : A) (k : ℕ) → Kept ns (f v (record a { next = k }))) → Kept ns (outcome o a f)
value_kept ns o a f h g = result_kept ns o.answer (record a { next = o.next }) f h (λ v. g v o.next)

if_kept : (ns : List (List ℕ)) (b : Bool) (x y : Move) → Kept ns x → Kept ns y → Kept ns (if b then x else y)
if_kept ns true x y h g = h
if_kept ns false x y h g = g

-- what a method wants isn't Spent
abbrev IsAct : Answer Turned → Type 0
IsAct (Ok t) = IsAsked t
IsAct (Err kind) = Unit {0}

act_asked : (act : Action) (v : Value) → IsAct (act_of act v)
act_asked action.Set (value.Event e) = tt
act_asked action.Clear (value.Event e) = tt
act_asked action.Release (value.Lock l) = tt
act_asked action.Kill (value.Task t) = tt
act_asked _ _ = tt

module _ (ns : List (List ℕ)) where
  named_kept : (n : List ℕ) (v : Option Value) (a : At) → HasNames ns a → names_of (with_local a.scope.names n v) ≡ ns
  named_kept n v a h = local_names a.scope.names n v ∙ h

  act_kept : (r : Answer Turned) (a : At) → HasNames ns a → IsAct r → Kept ns (answered r a want)
  act_kept (Ok t) a h w = (h, w)
  act_kept (Err kind) a h w = (h, tt)

  wait_for_kept : (v : Value) (a : At) → HasNames ns a → Kept ns (wait_for v a)
  wait_for_kept v a h = value_kept ns (as_trigger a.scope.task v a.next) a waits h (λ t k. (h, tt))

  wait_limited_kept : (steps : ℕ) (v : Value) (a : At) → HasNames ns a → Kept ns (wait_limited steps v a)
  wait_limited_kept steps v a h = value_kept ns (limited a.scope.task v steps a.next) a waits h (λ t k. (h, tt))

  time_kept : (a : At) (time : Tree) (unit : Option Tree) (f : Time → At → Move) → HasNames ns a
      → ((t : Time) (k : ℕ) → Kept ns (f t (record a { next = k }))) → Kept ns (with_time a time unit f)
  time_kept a time unit f h g =
      value_kept ns (eval a.scope time a.next) a (λ t b. outcome (eval_some b.scope unit b.next) b (λ u c. f (record { number = t; unit = u }) c)) h (λ t j.
      value_kept ns (eval_some a.scope unit j) (record a { next = j }) (λ u c. f (record { number = t; unit = u }) c) h (λ u i. g (record { number = t; unit = u }) i))

  steps_kept : (a : At) (t : Time) (f : ℕ → At → Move) → HasNames ns a
      → ((n : ℕ) (k : ℕ) → Kept ns (f n (record a { next = k }))) → Kept ns (with_steps a t f)
  steps_kept a t f h g = value_kept ns (lift (time_steps a.scope.view t) a.next) a f h g

  queue_kept : (event_of : SeenQueue → EventNo) (v : Value) (a : At) → HasNames ns a → Kept ns (wait_for_queue event_of v a)
  queue_kept event_of v a h =
      value_kept ns (lift (queue_of v) a.next) a (λ q b. outcome (new_trigger b.scope.task (trigger.Event (event_of (queue b.scope.view q))) b.next) b waits) h (λ q j.
      value_kept ns (new_trigger a.scope.task (trigger.Event (event_of (queue a.scope.view q))) j) (record a { next = j }) waits h (λ t i. (h, tt)))

  await_kept : (w : Awaited) (a : At) → HasNames ns a → Kept ns (await w a)
  await_kept (AwaitedValue e) a h = value_kept ns (eval a.scope e a.next) a wait_for h (λ v k. wait_for_kept v (record a { next = k }) h)
  await_kept (AwaitedCall c) a h = value_kept ns (eval_call a.scope c a.next) a (λ x b. moved b On (Calls x.function x.arguments)) h (λ p k. (h, tt))
  await_kept (AwaitedStart c) a h = value_kept ns (eval_call a.scope c a.next) a (starts true) h (λ p k. (h, tt))
  await_kept (AwaitedRoom e) a h =
      value_kept ns (eval a.scope e a.next) a (wait_for_queue (λ q. q.space_event)) h (λ v k. queue_kept (λ q. q.space_event) v (record a { next = k }) h)
  await_kept (AwaitedItem e) a h =
      value_kept ns (eval a.scope e a.next) a (wait_for_queue (λ q. q.items_event)) h (λ v k. queue_kept (λ q. q.items_event) v (record a { next = k }) h)
  await_kept (WithTimeout (TimedValue e) time unit) a h =
      value_kept ns (eval a.scope e a.next) a (λ v b. with_time b time unit (λ t c. outcome (lift (waitable v) c.next) c (λ w d. with_steps d t (λ steps f. wait_limited steps w f)))) h (λ v j.
      time_kept (record a { next = j }) time unit (λ t c. outcome (lift (waitable v) c.next) c (λ w d. with_steps d t (λ steps f. wait_limited steps w f))) h (λ t i.
      value_kept ns (lift (waitable v) i) (record a { next = i }) (λ w d. with_steps d t (λ steps f. wait_limited steps w f)) h (λ w l.
      steps_kept (record a { next = l }) t (λ steps f. wait_limited steps w f) h (λ n q. wait_limited_kept n w (record a { next = q }) h))))
  await_kept (WithTimeout (TimedCall call) time unit) a h =
      value_kept ns (eval_call a.scope call a.next) a (λ x b. with_time b time unit (λ t c. with_steps c t (λ steps d. starts false x (first_do (Uses (Times steps) ∷ []) d)))) h (λ x j.
      time_kept (record a { next = j }) time unit (λ t c. with_steps c t (λ steps d. starts false x (first_do (Uses (Times steps) ∷ []) d))) h (λ t i.
      steps_kept (record a { next = i }) t (λ steps d. starts false x (first_do (Uses (Times steps) ∷ []) d)) h (λ n l. (h, tt))))

  stage_kept : (t : Value) (x : Source) (a : At) → HasNames ns a → Kept ns (stage t x a)
  stage_kept t x a h = value_kept ns (lift (write_of a.scope.view t x) a.next) a (λ w b. want (turned.Stage w.sig w.act) b) h (λ w k. (h, tt))

  put_kept : (t : Value) (x : Source) (a : At) → HasNames ns a → Kept ns (put_now t x a)
  put_kept t x a h = value_kept ns (lift (write_of a.scope.view t x) a.next) a (λ w b. want (turned.Put w.sig w.act) b) h (λ w k. (h, tt))

  use_kept : (u : Use) (v : Value) (a : At) → HasNames ns a → Kept ns (use_value u v a)
  use_kept (Assigns n) v a h = (named_kept n (Some v) a h, tt)
  use_kept (Writes e) v a h = value_kept ns (eval a.scope e a.next) a (λ t b. stage t (Value' v) b) h (λ t k. stage_kept t (Value' v) (record a { next = k }) h)
  use_kept Returns v a h = (h, tt)
  use_kept (Times steps) (value.Task t) a h = wait_limited_kept steps (value.Task t) (first_do (Uses (Limited t) ∷ []) a) h
  use_kept (Times steps) _ a h = (h, tt)
  use_kept (Limited t) v a h = (h, tt)
  use_kept (Enters l b) v a h = (h, tt)

  right_kept : (s : RightSide) (u : Use) (a : At) → HasNames ns a → Kept ns (right_side s u a)
  right_kept (RightValue e) u a h = value_kept ns (eval a.scope e a.next) a (use_value u) h (λ v k. use_kept u v (record a { next = k }) h)
  right_kept (RightAwait w) u a h = await_kept w (first_do (Uses u ∷ []) a) h
  right_kept (RightStart c) u a h = value_kept ns (eval_call a.scope c a.next) (first_do (Uses u ∷ []) a) (starts false) h (λ p k. (h, tt))
  right_kept body.NewEvent u a h = (h, tt)
  right_kept body.NewLock u a h = (h, tt)
  right_kept (NewQueue None) u a h = (h, tt)
  right_kept (NewQueue (Some e)) u a h =
      value_kept ns (eval a.scope e a.next) a (λ v b. outcome (lift (queue_bound v) b.next) b (λ n c. want (turned.NewQueue n) (first_do (Uses u ∷ []) c))) h (λ v j.
      value_kept ns (lift (queue_bound v) j) (record a { next = j }) (λ n c. want (turned.NewQueue n) (first_do (Uses u ∷ []) c)) h (λ n i. (h, tt)))
  right_kept (GetNow e) u a h =
      value_kept ns (eval a.scope e a.next) a (λ v b. outcome (lift (queue_of v) b.next) b (λ q c. want (turned.GetNow q) (first_do (Uses u ∷ []) c))) h (λ v j.
      value_kept ns (lift (queue_of v) j) (record a { next = j }) (λ q c. want (turned.GetNow q) (first_do (Uses u ∷ []) c)) h (λ q i. (h, tt)))
  right_kept (RandomInt low high) u a h =
      value_kept ns (eval a.scope low a.next) a (λ x b. outcome (eval b.scope high b.next) b (λ y c. outcome (lift (drawn x y) c.next) c (λ d f. want (turned.Draw d.low d.span) (first_do (Uses u ∷ []) f)))) h (λ x j.
      value_kept ns (eval a.scope high j) (record a { next = j }) (λ y c. outcome (lift (drawn x y) c.next) c (λ d f. want (turned.Draw d.low d.span) (first_do (Uses u ∷ []) f))) h (λ y i.
      value_kept ns (lift (drawn x y) i) (record a { next = i }) (λ d f. want (turned.Draw d.low d.span) (first_do (Uses u ∷ []) f)) h (λ d l. (h, tt))))

  throw_kept : (kind : FaultKind) (e : Option Tree) (a : At) → HasNames ns a → Kept ns (throw_text kind e a)
  throw_kept kind e a h = value_kept ns (eval_text a.scope e a.next) a (λ text b. leave (Throw (record { kind = kind; text = text })) b) h (λ t k. (h, tt))

  asserted_kept : (b : Bool) (e : Option Tree) (a : At) → HasNames ns a → Kept ns (asserted b e a)
  asserted_kept true e a h = (h, tt)
  asserted_kept false e a h = throw_kept AssertionError e a h

  log_kept : (logger : Logger) (level : LogLevel) (e : Tree) (es : List Tree) (a : At) → HasNames ns a → Kept ns (log logger level e es a)
  log_kept logger level e es a h =
      value_kept ns (eval_logger a.scope logger a.next) a (λ _ b. outcome (eval b.scope e b.next) b (λ v c. outcome (eval_all c.scope es c.next) c (λ vs d. outcome (lift (short_text (log_text d.scope.view.places v vs)) d.next) d (λ text f. want (turned.Log level text) f)))) h (λ _ j.
      value_kept ns (eval a.scope e j) (record a { next = j }) (λ v c. outcome (eval_all c.scope es c.next) c (λ vs d. outcome (lift (short_text (log_text d.scope.view.places v vs)) d.next) d (λ text f. want (turned.Log level text) f))) h (λ v i.
      value_kept ns (eval_all a.scope es i) (record a { next = i }) (λ vs d. outcome (lift (short_text (log_text d.scope.view.places v vs)) d.next) d (λ text f. want (turned.Log level text) f)) h (λ vs l.
      value_kept ns (lift (short_text (log_text a.scope.view.places v vs)) l) (record a { next = l }) (λ text f. want (turned.Log level text) f) h (λ t q. (h, tt)))))

  statement_kept : (s : Statement) (a : At) → HasNames ns a → Kept ns (do_statement s a)
  statement_kept body.Pass a h = (h, tt)
  statement_kept body.Break a h = (h, tt)
  statement_kept body.Continue a h = (h, tt)
  statement_kept (body.Return None) a h = (h, tt)
  statement_kept (body.Return (Some s)) a h = right_kept s Returns a h
  statement_kept (body.Raise kind e) a h = throw_kept kind e a h
  statement_kept (body.Assert c e) a h = value_kept ns (eval a.scope c a.next) a (λ v b. asserted (truth v) e b) h (λ v k. asserted_kept (truth v) e (record a { next = k }) h)
  statement_kept (body.Assign n s) a h = right_kept s (Assigns n) a h
  statement_kept (body.AugmentedAssign n o e) a h = right_kept (RightValue (Infix (Binary o) (Name n) e)) (Assigns n) a h
  statement_kept (body.AssignValue e s) a h = right_kept s (Writes e) a h
  statement_kept (body.SetImmediateValue e v) a h =
      value_kept ns (eval a.scope e a.next) a (λ t b. outcome (eval b.scope v b.next) b (λ w c. put_now t (Value' w) c)) h (λ t j.
      value_kept ns (eval a.scope v j) (record a { next = j }) (λ w c. put_now t (Value' w) c) h (λ w i. put_kept t (Value' w) (record a { next = i }) h))
  statement_kept (body.Await w) a h = await_kept w a h
  statement_kept (body.Act e act) a h =
      value_kept ns (eval a.scope e a.next) a (λ v b. outcome (lift (act_of act v) b.next) b want) h (λ v j. act_kept (act_of act v) (record a { next = j }) h (act_asked act v))
  statement_kept (body.Log logger level e es) a h = log_kept logger level e es a h
  statement_kept (body.StartSoon c) a h = value_kept ns (eval_call a.scope c a.next) a (starts false) h (λ p k. (h, tt))
  statement_kept (body.PutNow e x) a h =
      value_kept ns (eval a.scope e a.next) a (λ v b. outcome (eval b.scope x b.next) b (λ item c. outcome (lift (queue_of v) c.next) c (λ q d. want (turned.PutNow q item) d))) h (λ v j.
      value_kept ns (eval a.scope x j) (record a { next = j }) (λ item c. outcome (lift (queue_of v) c.next) c (λ q d. want (turned.PutNow q item) d)) h (λ item i.
      value_kept ns (lift (queue_of v) i) (record a { next = i }) (λ q d. want (turned.PutNow q item) d) h (λ q l. (h, tt))))
  statement_kept (body.AssignAction e w) a h =
      value_kept ns (eval_action a.scope w a.next) a (λ x b. outcome (eval b.scope e b.next) b (λ t c. stage t x c)) h (λ x j.
      value_kept ns (eval a.scope e j) (record a { next = j }) (λ t c. stage t x c) h (λ t i. stage_kept t x (record a { next = i }) h))
  statement_kept (body.SetImmediateAction e w) a h =
      value_kept ns (eval a.scope e a.next) a (λ t b. outcome (eval_action b.scope w b.next) b (λ x c. put_now t x c)) h (λ t j.
      value_kept ns (eval_action a.scope w j) (record a { next = j }) (λ x c. put_now t x c) h (λ x i. put_kept t x (record a { next = i }) h))

  choose_kept : (b : Bool) (ts us : List Todo) (a : At) → HasNames ns a → Kept ns (choose b ts us a)
  choose_kept true ts us a h = (h, tt)
  choose_kept false ts us a h = (h, tt)

  ask_kept : (e : Tree) (ts us : List Todo) (a : At) → HasNames ns a → Kept ns (ask e ts us a)
  ask_kept e ts us a h = value_kept ns (eval a.scope e a.next) a (λ v b. choose (truth v) ts us b) h (λ v k. choose_kept (truth v) ts us (record a { next = k }) h)

  each_kept : (n : List ℕ) (element : Answer Value) (left : Left) (block : Block) (a : At) → HasNames ns a → Kept ns (each n element left block a)
  each_kept n element left block a h =
      value_kept ns (lift element a.next) a (λ v b. go_on (named n (Some v) (first_do (items block ++ Each n left block ∷ []) b))) h (λ v k. (named_kept n (Some v) a h, tt))

  number_kept : (b : Bool) (n : List ℕ) (z stop step : ℤ) (block : Block) (a : At) → HasNames ns a → Kept ns (ask_number b n z stop step block a)
  number_kept true n z stop step block a h = each_kept n (whole (held z)) (Numbers (z +ℤ step) stop step) block a h
  number_kept false n z stop step block a h = (h, tt)

  next_kept : (n : List ℕ) (left : Left) (block : Block) (a : At) → HasNames ns a → Kept ns (ask_next n left block a)
  next_kept n (Numbers z stop step) block a h = number_kept (is_before z stop step) n z stop step block a h
  next_kept n (Listed []) block a h = (h, tt)
  next_kept n (Listed (c ∷ cs)) block a h = each_kept n (constant_value c) (Listed cs) block a h

  enter_kept : (e : Tree) (block : Block) (a : At) → HasNames ns a → Kept ns (enter e block a)
  enter_kept e b a h =
      value_kept ns (eval a.scope e a.next) a (λ v c. outcome (lift (lock_of v) c.next) c (λ l d. outcome (new_trigger d.scope.task (trigger.Lock l) d.next) d (λ t f. waits t (first_do (Uses (Enters l b) ∷ []) f)))) h (λ v j.
      value_kept ns (lift (lock_of v) j) (record a { next = j }) (λ l d. outcome (new_trigger d.scope.task (trigger.Lock l) d.next) d (λ t f. waits t (first_do (Uses (Enters l b) ∷ []) f))) h (λ l i.
      value_kept ns (new_trigger a.scope.task (trigger.Lock l) i) (record a { next = i }) (λ t f. waits t (first_do (Uses (Enters l b) ∷ []) f)) h (λ t q. (h, tt))))

  item_kept : (i : Item) (a : At) → HasNames ns a → Kept ns (do_item i a)
  item_kept (Simple s) a h = statement_kept s a h
  item_kept (If e b c) a h = ask_kept e (items b) (items c) a h
  item_kept (While e b) a h = ask_kept e (items b ++ Again e b ∷ []) [] a h
  item_kept (For n span b) a h = value_kept ns (eval_span a.scope span a.next) a (λ left c. ask_next n left b c) h (λ left k. next_kept n left b (record a { next = k }) h)
  item_kept (Try b hs) a h = (h, tt)
  item_kept (With e b) a h = enter_kept e b a h

  first_kept : (t : Todo) (a : At) → HasNames ns a → Kept ns (do_first t a)
  first_kept (Do i) a h = item_kept i a h
  first_kept (Again e b) a h = ask_kept e (items b ++ Again e b ∷ []) [] a h
  first_kept (Each n left b) a h = next_kept n left b a h
  first_kept (Uses u) a h = (h, tt)
  first_kept (Handles hs) a h = (h, tt)
  first_kept (Bound n) a h = (named_kept n None a h, tt)
  first_kept (Holds l) a h = (h, tt)

  handle_kept : (c : Caught) (fault : Fault) (b : Block) (a : At) → HasNames ns a → Kept ns (handle c fault b a)
  handle_kept (KindAs k n) fault b a h = (named_kept n (Some (value.Caught fault)) a h, tt)
  handle_kept All fault b a h = (h, tt)
  handle_kept (Kind k) fault b a h = (h, tt)
  handle_kept (Kinds ks) fault b a h = (h, tt)

  find_kept : (hs : Handlers) (fault : Fault) (a : At) → HasNames ns a → Kept ns (find_handler hs fault a)
  find_kept NoHandler fault a h = (h, tt)
  find_kept (Catch c b hs) fault a h = if_kept ns (catches c fault.kind) (handle c fault b a) (find_handler hs fault a) (handle_kept c fault b a h) (find_kept hs fault a h)

  handlers_kept : (jump : Jump) (hs : Handlers) (a : At) → HasNames ns a → Kept ns (at_handlers jump hs a)
  handlers_kept (Throw fault) hs a h = find_kept hs fault a h
  handlers_kept (Return v) hs a h = (h, tt)
  handlers_kept Break hs a h = (h, tt)
  handlers_kept Continue hs a h = (h, tt)

  loop_kept : (jump : Jump) (t : Todo) (a : At) → HasNames ns a → Kept ns (at_loop jump t a)
  loop_kept (Throw fault) t a h = (h, tt)
  loop_kept (Return v) t a h = (h, tt)
  loop_kept Break t a h = (h, tt)
  loop_kept Continue t a h = (h, tt)

  kill_wished : (c : Bool) (n : TaskNo) → IsWished (if c then Asks (turned.Kill n) else Nothing)
  kill_wished true n = tt
  kill_wished false n = tt

  limit_kept : (jump : Jump) (n : TaskNo) (a : At) → HasNames ns a → Kept ns (at_limit jump n a)
  limit_kept (Throw fault) n a h = (h, kill_wished (same_kind fault.kind SimTimeoutError) n)
  limit_kept (Return v) n a h = (h, tt)
  limit_kept Break n a h = (h, tt)
  limit_kept Continue n a h = (h, tt)

  drop_kept : (jump : Jump) (todo : List Todo) (a : At) → HasNames ns a → Kept ns (drop_mark jump todo a)
  drop_kept jump [] a h = (h, tt)
  drop_kept jump (Do i ∷ rest) a h = drop_kept jump rest a h
  drop_kept jump (Again e b ∷ rest) a h = loop_kept jump (Again e b) (record a { rest = rest }) h
  drop_kept jump (Each n left b ∷ rest) a h = loop_kept jump (Each n left b) (record a { rest = rest }) h
  drop_kept jump (Uses (Limited t) ∷ rest) a h = limit_kept jump t (record a { rest = rest }) h
  drop_kept jump (Uses (Assigns n) ∷ rest) a h = drop_kept jump rest a h
  drop_kept jump (Uses (Writes e) ∷ rest) a h = drop_kept jump rest a h
  drop_kept jump (Uses Returns ∷ rest) a h = drop_kept jump rest a h
  drop_kept jump (Uses (Times n) ∷ rest) a h = drop_kept jump rest a h
  drop_kept jump (Uses (Enters l b) ∷ rest) a h = drop_kept jump rest a h
  drop_kept jump (Handles hs ∷ rest) a h = handlers_kept jump hs (record a { rest = rest }) h
  drop_kept jump (Bound n ∷ rest) a h = (named_kept n None a h, tt)
  drop_kept jump (Holds l ∷ rest) a h = (h, tt)

  on_kept : (todo : List Todo) (a : At) → HasNames ns a → Kept ns (step_on todo a)
  on_kept [] a h = (h, tt)
  on_kept (t ∷ rest) a h = first_kept t (record a { rest = rest }) h

  has_kept : (v : Value) (todo : List Todo) (a : At) → HasNames ns a → Kept ns (step_with v todo a)
  has_kept v [] a h = on_kept [] a h
  has_kept v (Uses u ∷ rest) a h = use_kept u v (record a { rest = rest }) h
  has_kept v (Do i ∷ rest) a h = on_kept (Do i ∷ rest) a h
  has_kept v (Again e b ∷ rest) a h = on_kept (Again e b ∷ rest) a h
  has_kept v (Each n left b ∷ rest) a h = on_kept (Each n left b ∷ rest) a h
  has_kept v (Handles hs ∷ rest) a h = on_kept (Handles hs ∷ rest) a h
  has_kept v (Bound n ∷ rest) a h = on_kept (Bound n ∷ rest) a h
  has_kept v (Holds l ∷ rest) a h = on_kept (Holds l ∷ rest) a h

  step_kept : (course : Course) (todo : List Todo) (a : At) → HasNames ns a → Kept ns (step course todo a)
  step_kept On todo a h = on_kept todo a h
  step_kept (Has v) todo a h = has_kept v todo a h
  step_kept (Leaves jump) todo a h = drop_kept jump todo a h

pub names_stay : (course : Course) (todo : List Todo) (a : At) → names_of (step course todo a).frame.names ≡ names_of a.scope.names
names_stay course todo a = (step_kept (names_of a.scope.names) course todo a refl).0

-- ---- of a task

abbrev IsAskedFor : Option Turned → Type 0
IsAskedFor None = Unit {0}
IsAskedFor (Some t) = IsAsked t

some_not : (t : Turned) → IsAsked t → Some t ≡ Some turned.Spent → ⊥
some_not t h e = subst IsAskedFor e h

settled_asked : (functions : List Function) (w : Wish) (f : Frame) (fs : List Frame) (task : Task) → IsWished w → (settled functions w f fs task).turned ≡ Some turned.Spent → ⊥
settled_asked functions Nothing f fs task h e = cc
settled_asked functions (Asks t) f fs task h e = some_not t h e
settled_asked functions (Calls k vs) f fs task h e = cc
settled_asked functions (Ends (Throw fault)) f [] task h e = cc
settled_asked functions (Ends (Return v)) f [] task h e = cc
settled_asked functions (Ends Break) f [] task h e = cc
settled_asked functions (Ends Continue) f [] task h e = cc
settled_asked functions (Ends jump) f (g ∷ fs) task h e = cc

frames_asked : (functions : List Function) (frames : List Frame) (task : Task) (g : Option Given) (view : View) → (next_of functions frames task g view).turned ≡ Some turned.Spent → ⊥
frames_asked functions [] task g view e = cc
frames_asked functions (f ∷ fs) task g view e =
    let m : Move = frame_move f g task view in
    settled_asked functions m.wish m.frame fs (record task { triggers = m.next })
    (step_kept (names_of f.names) (given_to g f.course) f.todo (at task.number task.triggers f.names view) refl).1 e

pub never_spent : (functions : List Function) (task : Task) (g : Option Given) (view : View) → (next functions task g view).turned ≡ Some turned.Spent → ⊥
never_spent functions task g view e = frames_asked functions task.frames task g view e
