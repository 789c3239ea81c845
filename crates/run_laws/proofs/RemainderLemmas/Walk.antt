-- What is to do behind the first thing has no part in its step: with more behind it the step is the same, with that much more behind.
use Rattle.std.proofs.Common.{◌≡◌, ℕ, Bool, true, false, List, [], ◌∷◌, ◌++◌, refl, ap, sym, append_assoc, if◌then◌else◌, Option, None, Some, Ok, Err}
use Rattle.std.specs.Prelude.{ℤ, ◌+ℤ◌}
use Rattle.py_value.specs.Integer.Integer.{held}
use Rattle.py_syntax.specs.ExpressionTrees.{Tree, Name, Infix}
use Rattle.py_syntax.specs.StatementTrees.{Caught, All, Kind, Kinds, KindAs}
use Rattle.py_syntax.specs.declared.expression.Operation.TheVariants.{Binary}
use Rattle.py_syntax.specs.declared.fault_kind.FaultKind.{FaultKind}
use Rattle.py_syntax.specs.declared.fault_kind.FaultKind.TheVariants.{AssertionError}
use Rattle.py_syntax.specs.declared.statement.LogLevel.{LogLevel}
use Rattle.py_value.specs.Answer.{Answer}
use Rattle.py_value.specs.Trigger as trigger
use Rattle.py_value.specs.Truth.{truth}
use Rattle.py_value.specs.declared.trigger.EventNo.{EventNo}
use Rattle.py_value.specs.declared.trigger.TaskNo.{TaskNo}
use Rattle.py_value.specs.declared.value.Fault.{Fault}
use Rattle.py_value.specs.declared.value.Value.{Value}
use Rattle.py_value.specs.declared.value.Value.TheVariants as value
use Rattle.py_value.specs.Operator.Number.{whole}
use Rattle.py_evaluate.specs.Attribute.Look.{SeenQueue, queue}
use Rattle.py_evaluate.specs.Attribute.Outcome.{Outcome, lift}
use Rattle.py_evaluate.specs.Function.Making.{as_trigger, new_trigger}
use Rattle.py_evaluate.specs.Eval.{constant_value, eval}
use Rattle.test_meaning.specs.Body.BodyTrees as body
use Rattle.test_meaning.specs.Body.BodyTrees.{TimedValue, TimedCall, Awaited, AwaitedValue, AwaitedCall, AwaitedStart, AwaitedRoom, AwaitedItem, WithTimeout, RightSide, RightValue, RightAwait, RightStart, RandomInt, NewQueue, GetNow, Logger, Statement, Item, Simple, If, While, For, Try, With, Block, Handlers, NoHandler, Catch}
use Rattle.rig_model.specs.Task.Frame.{Left, Numbers, Listed, Use, Assigns, Writes, Returns, Times, Limited, Enters, Todo, Do, Again, Each, Uses, Handles, Bound, Holds, Jump, Throw, Return, Break, Continue, On, items}
use Rattle.rig_model.specs.Task.Moves.{Calls, Move, At, moved, go_on, leave, want, first_do, named, answered, outcome, eval_all, eval_some, eval_text, short_text}
use Rattle.rig_model.specs.Task.Calls.{eval_call, starts}
use Rattle.rig_model.specs.Task.Awaits.{Time, waits, waitable, wait_for, limited, wait_limited, with_time, time_steps, with_steps, queue_of, wait_for_queue, await}
use Rattle.rig_model.specs.Task.Values.{Source, Value', write_of, stage, put_now, eval_action, use_value, drawn, queue_bound, right_side}
use Rattle.rig_model.specs.Task.Statements.{act_of, throw_text, asserted, eval_logger, log_text, log, do_statement}
use Rattle.rig_model.specs.Task.Blocks.{choose, ask, eval_span, is_before, each, ask_number, ask_next, lock_of, enter, do_item, do_first}
use Rattle.rig_model.specs.Task.Leaving.{catches, handle, find_handler, at_handlers, at_limit, at_loop}
use Rattle.rig_model.specs.declared.task.task.Turned.TheVariants as turned

-- with these behind what is to do
abbrev pub deeper : List Todo → At → At
deeper more a = record a { rest = a.rest ++ more }

-- a step with these behind what it leaves to do
abbrev pub deepened : List Todo → Move → Move
deepened more m = record m { frame = record m.frame { todo = m.frame.todo ++ more } }

module _ (more : List Todo) where
  -- with more behind, this does the same
  abbrev Deep : (At → Move) → Type 0
  Deep f = (a : At) → f (deeper more a) ≡ deepened more (f a)

  answered_deep : {A : Type 0} (r : Answer A) (a : At) (f : A → At → Move) → ((v : A) → Deep (f v)) → answered r (deeper more a) f ≡ deepened more (answered r a f)
  answered_deep (Ok v) a f g = g v a
  answered_deep (Err kind) a f g = refl

  value_deep : {A : Type 0} (o : Outcome A) (a : At) (f : A → At → Move) → ((v : A) → Deep (f v)) → outcome o (deeper more a) f ≡ deepened more (outcome o a f)
  value_deep o a f g = answered_deep o.answer (record a { next = o.next }) f g

  first_do_deep : (ts : List Todo) (a : At) → first_do ts (deeper more a) ≡ deeper more (first_do ts a)
  first_do_deep ts a = ap (λ (rest : List Todo). record a { rest = rest }) (sym (append_assoc ts a.rest more))

  go_deep : (ts : List Todo) (a : At) → go_on (first_do ts (deeper more a)) ≡ deepened more (go_on (first_do ts a))
  go_deep ts a = ap go_on (first_do_deep ts a)

  named_deep : (n : List ℕ) (v : Option Value) (ts : List Todo) (a : At) → go_on (named n v (first_do ts (deeper more a))) ≡ deepened more (go_on (named n v (first_do ts a)))
  named_deep n v ts a = ap (λ (b : At). go_on (named n v b)) (first_do_deep ts a)

  wait_for_deep : (v : Value) → Deep (wait_for v)
  wait_for_deep v a = value_deep (as_trigger a.scope.task v a.next) a waits (λ t b. refl)

  wait_limited_deep : (steps : ℕ) (v : Value) → Deep (wait_limited steps v)
  wait_limited_deep steps v a = value_deep (limited a.scope.task v steps a.next) a waits (λ t b. refl)

  time_deep : (time : Tree) (unit : Option Tree) (f : Time → At → Move) → ((t : Time) → Deep (f t)) → Deep (λ a. with_time a time unit f)
  time_deep time unit f g a =
      value_deep (eval a.scope time a.next) a (λ t b. outcome (eval_some b.scope unit b.next) b (λ u c. f (record { number = t; unit = u }) c)) (λ t b.
      value_deep (eval_some b.scope unit b.next) b (λ u c. f (record { number = t; unit = u }) c) (λ u c. g (record { number = t; unit = u }) c))

  steps_deep : (t : Time) (f : ℕ → At → Move) → ((n : ℕ) → Deep (f n)) → Deep (λ a. with_steps a t f)
  steps_deep t f g a = value_deep (lift (time_steps a.scope.view t) a.next) a f g

  queue_deep : (event_of : SeenQueue → EventNo) (v : Value) → Deep (wait_for_queue event_of v)
  queue_deep event_of v a =
      value_deep (lift (queue_of v) a.next) a (λ q b. outcome (new_trigger b.scope.task (trigger.Event (event_of (queue b.scope.view q))) b.next) b waits) (λ q b.
      value_deep (new_trigger b.scope.task (trigger.Event (event_of (queue b.scope.view q))) b.next) b waits (λ t c. refl))

  await_deep : (w : Awaited) → Deep (await w)
  await_deep (AwaitedValue e) a = value_deep (eval a.scope e a.next) a wait_for wait_for_deep
  await_deep (AwaitedCall c) a = value_deep (eval_call a.scope c a.next) a (λ x b. moved b On (Calls x.function x.arguments)) (λ x b. refl)
  await_deep (AwaitedStart c) a = value_deep (eval_call a.scope c a.next) a (starts true) (λ x b. refl)
  await_deep (AwaitedRoom e) a = value_deep (eval a.scope e a.next) a (wait_for_queue (λ q. q.space_event)) (queue_deep (λ q. q.space_event))
  await_deep (AwaitedItem e) a = value_deep (eval a.scope e a.next) a (wait_for_queue (λ q. q.items_event)) (queue_deep (λ q. q.items_event))
  await_deep (WithTimeout (TimedValue e) time unit) a =
      value_deep (eval a.scope e a.next) a (λ v b. with_time b time unit (λ t c. outcome (lift (waitable v) c.next) c (λ w d. with_steps d t (λ steps f. wait_limited steps w f)))) (λ v b.
      time_deep time unit (λ t c. outcome (lift (waitable v) c.next) c (λ w d. with_steps d t (λ steps f. wait_limited steps w f))) (λ t c.
      value_deep (lift (waitable v) c.next) c (λ w d. with_steps d t (λ steps f. wait_limited steps w f)) (λ w d.
      steps_deep t (λ steps f. wait_limited steps w f) (λ steps. wait_limited_deep steps w) d)) b)
  await_deep (WithTimeout (TimedCall call) time unit) a =
      value_deep (eval_call a.scope call a.next) a (λ x b. with_time b time unit (λ t c. with_steps c t (λ steps d. starts false x (first_do (Uses (Times steps) ∷ []) d)))) (λ x b.
      time_deep time unit (λ t c. with_steps c t (λ steps d. starts false x (first_do (Uses (Times steps) ∷ []) d))) (λ t c.
      steps_deep t (λ steps d. starts false x (first_do (Uses (Times steps) ∷ []) d)) (λ steps d. refl) c) b)

  stage_deep : (t : Value) (x : Source) → Deep (stage t x)
  stage_deep t x a = value_deep (lift (write_of a.scope.view t x) a.next) a (λ w b. want (turned.Stage w.sig w.act) b) (λ w b. refl)

  put_deep : (t : Value) (x : Source) → Deep (put_now t x)
  put_deep t x a = value_deep (lift (write_of a.scope.view t x) a.next) a (λ w b. want (turned.Put w.sig w.act) b) (λ w b. refl)

  pub use_deep : (u : Use) (v : Value) → Deep (use_value u v)
  use_deep (Assigns n) v a = refl
  use_deep (Writes e) v a = value_deep (eval a.scope e a.next) a (λ t b. stage t (Value' v) b) (λ t b. stage_deep t (Value' v) b)
  use_deep Returns v a = refl
  use_deep (Times steps) (value.Task t) a = wait_limited_deep steps (value.Task t) (first_do (Uses (Limited t) ∷ []) a)
  use_deep (Times steps) _ a = refl
  use_deep (Limited t) v a = refl
  use_deep (Enters l b) v a = go_deep (items b ++ Holds l ∷ []) a

  right_deep : (s : RightSide) (u : Use) → Deep (right_side s u)
  right_deep (RightValue e) u a = value_deep (eval a.scope e a.next) a (use_value u) (use_deep u)
  right_deep (RightAwait w) u a = await_deep w (first_do (Uses u ∷ []) a)
  right_deep (RightStart c) u a = value_deep (eval_call a.scope c a.next) (first_do (Uses u ∷ []) a) (starts false) (λ x b. refl)
  right_deep body.NewEvent u a = refl
  right_deep body.NewLock u a = refl
  right_deep (NewQueue None) u a = refl
  right_deep (NewQueue (Some e)) u a =
      value_deep (eval a.scope e a.next) a (λ v b. outcome (lift (queue_bound v) b.next) b (λ n c. want (turned.NewQueue n) (first_do (Uses u ∷ []) c))) (λ v b.
      value_deep (lift (queue_bound v) b.next) b (λ n c. want (turned.NewQueue n) (first_do (Uses u ∷ []) c)) (λ n c. refl))
  right_deep (GetNow e) u a =
      value_deep (eval a.scope e a.next) a (λ v b. outcome (lift (queue_of v) b.next) b (λ q c. want (turned.GetNow q) (first_do (Uses u ∷ []) c))) (λ v b.
      value_deep (lift (queue_of v) b.next) b (λ q c. want (turned.GetNow q) (first_do (Uses u ∷ []) c)) (λ q c. refl))
  right_deep (RandomInt low high) u a =
      value_deep (eval a.scope low a.next) a (λ x b. outcome (eval b.scope high b.next) b (λ y c. outcome (lift (drawn x y) c.next) c (λ d f. want (turned.Draw d.low d.span) (first_do (Uses u ∷ []) f)))) (λ x b.
      value_deep (eval b.scope high b.next) b (λ y c. outcome (lift (drawn x y) c.next) c (λ d f. want (turned.Draw d.low d.span) (first_do (Uses u ∷ []) f))) (λ y c.
      value_deep (lift (drawn x y) c.next) c (λ d f. want (turned.Draw d.low d.span) (first_do (Uses u ∷ []) f)) (λ d f. refl)))

  throw_deep : (kind : FaultKind) (e : Option Tree) → Deep (throw_text kind e)
  throw_deep kind e a = value_deep (eval_text a.scope e a.next) a (λ text b. leave (Throw (record { kind = kind; text = text })) b) (λ text b. refl)

  asserted_deep : (b : Bool) (e : Option Tree) → Deep (asserted b e)
  asserted_deep true e a = refl
  asserted_deep false e a = throw_deep AssertionError e a

  log_deep : (logger : Logger) (level : LogLevel) (e : Tree) (es : List Tree) → Deep (log logger level e es)
  log_deep logger level e es a =
      value_deep (eval_logger a.scope logger a.next) a (λ _ b. outcome (eval b.scope e b.next) b (λ v c. outcome (eval_all c.scope es c.next) c (λ vs d. outcome (lift (short_text (log_text d.scope.view.places v vs)) d.next) d (λ text f. want (turned.Log level text) f)))) (λ _ b.
      value_deep (eval b.scope e b.next) b (λ v c. outcome (eval_all c.scope es c.next) c (λ vs d. outcome (lift (short_text (log_text d.scope.view.places v vs)) d.next) d (λ text f. want (turned.Log level text) f))) (λ v c.
      value_deep (eval_all c.scope es c.next) c (λ vs d. outcome (lift (short_text (log_text d.scope.view.places v vs)) d.next) d (λ text f. want (turned.Log level text) f)) (λ vs d.
      value_deep (lift (short_text (log_text d.scope.view.places v vs)) d.next) d (λ text f. want (turned.Log level text) f) (λ text f. refl))))

  statement_deep : (s : Statement) → Deep (do_statement s)
  statement_deep body.Pass a = refl
  statement_deep body.Break a = refl
  statement_deep body.Continue a = refl
  statement_deep (body.Return None) a = refl
  statement_deep (body.Return (Some s)) a = right_deep s Returns a
  statement_deep (body.Raise kind e) a = throw_deep kind e a
  statement_deep (body.Assert c e) a = value_deep (eval a.scope c a.next) a (λ v b. asserted (truth v) e b) (λ v b. asserted_deep (truth v) e b)
  statement_deep (body.Assign n s) a = right_deep s (Assigns n) a
  statement_deep (body.AugmentedAssign n o e) a = right_deep (RightValue (Infix (Binary o) (Name n) e)) (Assigns n) a
  statement_deep (body.AssignValue e s) a = right_deep s (Writes e) a
  statement_deep (body.SetImmediateValue e v) a =
      value_deep (eval a.scope e a.next) a (λ t b. outcome (eval b.scope v b.next) b (λ w c. put_now t (Value' w) c)) (λ t b.
      value_deep (eval b.scope v b.next) b (λ w c. put_now t (Value' w) c) (λ w c. put_deep t (Value' w) c))
  statement_deep (body.Await w) a = await_deep w a
  statement_deep (body.Act e act) a =
      value_deep (eval a.scope e a.next) a (λ v b. outcome (lift (act_of act v) b.next) b want) (λ v b. value_deep (lift (act_of act v) b.next) b want (λ t c. refl))
  statement_deep (body.Log logger level e es) a = log_deep logger level e es a
  statement_deep (body.StartSoon c) a = value_deep (eval_call a.scope c a.next) a (starts false) (λ x b. refl)
  statement_deep (body.PutNow e x) a =
      value_deep (eval a.scope e a.next) a (λ v b. outcome (eval b.scope x b.next) b (λ item c. outcome (lift (queue_of v) c.next) c (λ q d. want (turned.PutNow q item) d))) (λ v b.
      value_deep (eval b.scope x b.next) b (λ item c. outcome (lift (queue_of v) c.next) c (λ q d. want (turned.PutNow q item) d)) (λ item c.
      value_deep (lift (queue_of v) c.next) c (λ q d. want (turned.PutNow q item) d) (λ q d. refl)))
  statement_deep (body.AssignAction e w) a =
      value_deep (eval_action a.scope w a.next) a (λ x b. outcome (eval b.scope e b.next) b (λ t c. stage t x c)) (λ x b.
      value_deep (eval b.scope e b.next) b (λ t c. stage t x c) (λ t c. stage_deep t x c))
  statement_deep (body.SetImmediateAction e w) a =
      value_deep (eval a.scope e a.next) a (λ t b. outcome (eval_action b.scope w b.next) b (λ x c. put_now t x c)) (λ t b.
      value_deep (eval_action b.scope w b.next) b (λ x c. put_now t x c) (λ x c. put_deep t x c))

  choose_deep : (b : Bool) (ts us : List Todo) → Deep (choose b ts us)
  choose_deep true ts us a = go_deep ts a
  choose_deep false ts us a = go_deep us a

  ask_deep : (e : Tree) (ts us : List Todo) → Deep (ask e ts us)
  ask_deep e ts us a = value_deep (eval a.scope e a.next) a (λ v b. choose (truth v) ts us b) (λ v b. choose_deep (truth v) ts us b)

  each_deep : (n : List ℕ) (element : Answer Value) (left : Left) (block : Block) → Deep (each n element left block)
  each_deep n element left block a =
      value_deep (lift element a.next) a (λ v b. go_on (named n (Some v) (first_do (items block ++ Each n left block ∷ []) b)))
      (λ v b. named_deep n (Some v) (items block ++ Each n left block ∷ []) b)

  number_deep : (b : Bool) (n : List ℕ) (z stop step : ℤ) (block : Block) → Deep (ask_number b n z stop step block)
  number_deep true n z stop step block a = each_deep n (whole (held z)) (Numbers (z +ℤ step) stop step) block a
  number_deep false n z stop step block a = refl

  next_deep : (n : List ℕ) (left : Left) (block : Block) → Deep (ask_next n left block)
  next_deep n (Numbers z stop step) block a = number_deep (is_before z stop step) n z stop step block a
  next_deep n (Listed []) block a = refl
  next_deep n (Listed (c ∷ cs)) block a = each_deep n (constant_value c) (Listed cs) block a

  enter_deep : (e : Tree) (block : Block) → Deep (enter e block)
  enter_deep e b a =
      value_deep (eval a.scope e a.next) a (λ v c. outcome (lift (lock_of v) c.next) c (λ l d. outcome (new_trigger d.scope.task (trigger.Lock l) d.next) d (λ t f. waits t (first_do (Uses (Enters l b) ∷ []) f)))) (λ v c.
      value_deep (lift (lock_of v) c.next) c (λ l d. outcome (new_trigger d.scope.task (trigger.Lock l) d.next) d (λ t f. waits t (first_do (Uses (Enters l b) ∷ []) f))) (λ l d.
      value_deep (new_trigger d.scope.task (trigger.Lock l) d.next) d (λ t f. waits t (first_do (Uses (Enters l b) ∷ []) f)) (λ t f. refl)))

  item_deep : (i : Item) → Deep (do_item i)
  item_deep (Simple s) a = statement_deep s a
  item_deep (If e b c) a = ask_deep e (items b) (items c) a
  item_deep (While e b) a = ask_deep e (items b ++ Again e b ∷ []) [] a
  item_deep (For n span b) a = value_deep (eval_span a.scope span a.next) a (λ left c. ask_next n left b c) (λ left c. next_deep n left b c)
  item_deep (Try b hs) a = go_deep (items b ++ Handles hs ∷ []) a
  item_deep (With e b) a = enter_deep e b a

  pub first_deep : (t : Todo) → Deep (do_first t)
  first_deep (Do i) a = item_deep i a
  first_deep (Again e b) a = ask_deep e (items b ++ Again e b ∷ []) [] a
  first_deep (Each n left b) a = next_deep n left b a
  first_deep (Uses u) a = refl
  first_deep (Handles hs) a = refl
  first_deep (Bound n) a = refl
  first_deep (Holds l) a = refl

  handle_deep : (c : Caught) (fault : Fault) (b : Block) → Deep (handle c fault b)
  handle_deep (KindAs k n) fault b a = named_deep n (Some (value.Caught fault)) (items b ++ Bound n ∷ []) a
  handle_deep All fault b a = go_deep (items b) a
  handle_deep (Kind k) fault b a = go_deep (items b) a
  handle_deep (Kinds ks) fault b a = go_deep (items b) a

  if_deep : (b : Bool) (x y x' y' : Move) → x' ≡ deepened more x → y' ≡ deepened more y → (if b then x' else y') ≡ deepened more (if b then x else y)
  if_deep true x y x' y' h k = h
  if_deep false x y x' y' h k = k

  find_deep : (hs : Handlers) (fault : Fault) → Deep (find_handler hs fault)
  find_deep NoHandler fault a = refl
  find_deep (Catch c b hs) fault a =
      if_deep (catches c fault.kind) (handle c fault b a) (find_handler hs fault a) (handle c fault b (deeper more a)) (find_handler hs fault (deeper more a))
      (handle_deep c fault b a) (find_deep hs fault a)

  pub handlers_deep : (jump : Jump) (hs : Handlers) → Deep (at_handlers jump hs)
  handlers_deep (Throw fault) hs a = find_deep hs fault a
  handlers_deep (Return v) hs a = refl
  handlers_deep Break hs a = refl
  handlers_deep Continue hs a = refl

  pub loop_deep : (jump : Jump) (t : Todo) → Deep (at_loop jump t)
  loop_deep (Throw fault) t a = refl
  loop_deep (Return v) t a = refl
  loop_deep Break t a = refl
  loop_deep Continue t a = refl

  pub limit_deep : (jump : Jump) (task : TaskNo) → Deep (at_limit jump task)
  limit_deep (Throw fault) task a = refl
  limit_deep (Return v) task a = refl
  limit_deep Break task a = refl
  limit_deep Continue task a = refl
