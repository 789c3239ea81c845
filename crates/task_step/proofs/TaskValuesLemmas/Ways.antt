-- One evaluation after another, and what is done then.
use Rattle.std.proofs.Common.{◌≡◌, ℕ, ◌∷◌, [], false, Ok, Err, refl, ◌∙◌}
use Rattle.std.specs.Prelude.{Option}
use Rattle.py_syntax.specs.ExpressionTrees.{Tree}
use Rattle.py_value.specs.Answer.{Answer}
use Rattle.py_value.specs.Trigger as trigger
use Rattle.py_value.specs.declared.trigger.EventNo.{EventNo}
use Rattle.py_value.specs.declared.trigger.QueueNo.{QueueNo}
use Rattle.py_evaluate.specs.Attribute.Look.{SeenQueue, queue}
use Rattle.py_evaluate.specs.Attribute.Outcome.{Outcome, after, bind, gives, lift}
use Rattle.py_evaluate.specs.Eval.{eval}
use Rattle.py_evaluate.specs.Function.Making.{as_trigger, new_trigger}
use Rattle.test_meaning.specs.Body.BodyTrees.{Block, Call, AwaitedValue, TimedValue, TimedCall, WithTimeout}
use Rattle.rig_model.specs.Task.Awaits.{Time, await, waits, wait_for, wait_for_queue, queue_of, wait_limited, with_time, with_steps, waitable, limited, time_steps}
use Rattle.rig_model.specs.Task.Blocks.{enter, lock_of}
use Rattle.rig_model.specs.Task.Calls.{eval_call, starts}
use Rattle.rig_model.specs.Task.Frame.{Uses, Times, Enters}
use Rattle.rig_model.specs.Task.Moves.{At, Move, first_do, with_value, with_eval, with_answer, outcome, answered, eval_some}
use Rattle.task_step.specs.TaskValues.Times.{eval_time}
use Rattle.task_step.specs.TaskValues.Waits as own
use Rattle.task_step.specs.TaskValues.Waits.{eval_wait, eval_limit, eval_queue, eval_timed_call, eval_lock}

abbrev pub behind : At → ℕ → At
behind a k = record a { next = k }

step_at : {A B : Type 0} (a : At) (answer : Answer A) (k : ℕ) (g : A → ℕ → Outcome B) (more : A → At → Move) (f : B → At → Move)
    → ((x : A) (i : ℕ) → more x (behind a i) ≡ with_value (behind a i) (g x) f)
    → answered answer (behind a k) more ≡ outcome (after answer k g) a f
step_at a (Ok x) k g more f h = h x k
step_at a (Err kind) k g more f h = refl

-- what is done with the value of the second is done behind both
pub step : {A B : Type 0} (a : At) (o : ℕ → Outcome A) (g : A → ℕ → Outcome B) (more : A → At → Move) (f : B → At → Move)
    → ((x : A) (i : ℕ) → more x (behind a i) ≡ with_value (behind a i) (g x) f)
    → with_value a o more ≡ with_value a (λ k. bind (o k) g) f
step a o g more f h = step_at a (o a.next).answer (o a.next).next g more f h

time_is : (a : At) (time : Tree) (unit : Option Tree) (f : Time → At → Move)
    → with_time a time unit f ≡ with_value a (λ k. eval_time a.scope time unit k) f
time_is a time unit f =
    step a (λ k. eval a.scope time k) (λ t j. bind (eval_some a.scope unit j) (λ u i. gives (record { number = t; unit = u }) i))
    (λ t b. with_value b (λ k. eval_some b.scope unit k) (λ u c. f (record { number = t; unit = u }) c)) f (λ t i.
    step (behind a i) (λ k. eval_some a.scope unit k) (λ u j. gives (record { number = t; unit = u }) j) (λ u c. f (record { number = t; unit = u }) c) f (λ u j. refl))

time_step : {B : Type 0} (a : At) (time : Tree) (unit : Option Tree) (g : Time → ℕ → Outcome B) (more : Time → At → Move) (f : B → At → Move)
    → ((t : Time) (i : ℕ) → more t (behind a i) ≡ with_value (behind a i) (g t) f)
    → with_time a time unit more ≡ with_value a (λ k. bind (eval_time a.scope time unit k) g) f
time_step a time unit g more f h = time_is a time unit more ∙ step a (λ k. eval_time a.scope time unit k) g more f h

pub value_is : (e : Tree) (a : At) → await (AwaitedValue e) a ≡ with_value a (λ k. eval_wait a.scope e k) waits
value_is e a = step a (λ k. eval a.scope e k) (λ v j. as_trigger a.scope.task v j) wait_for waits (λ v i. refl)

pub queue_is : (event_of : SeenQueue → EventNo) (e : Tree) (a : At)
    → with_eval a e (wait_for_queue event_of) ≡ with_value a (λ k. eval_queue event_of a.scope e k) waits
queue_is event_of e a =
    let make = λ (q : QueueNo) (i : ℕ). new_trigger a.scope.task (trigger.Event (event_of (queue a.scope.view q))) i in
    step a (λ k. eval a.scope e k) (λ v j. bind (lift (queue_of v) j) make) (wait_for_queue event_of) waits (λ v i.
    step (behind a i) (λ k. lift (queue_of v) k) make
    (λ q b. with_value b (λ k. new_trigger b.scope.task (trigger.Event (event_of (queue b.scope.view q))) k) waits) waits (λ q j. refl))

pub limit_is : (e time : Tree) (unit : Option Tree) (a : At)
    → await (WithTimeout (TimedValue e) time unit) a ≡ with_value a (λ k. eval_limit a.scope e time unit k) waits
limit_is e time unit a =
    step a (λ k. eval a.scope e k)
    (λ v j. bind (eval_time a.scope time unit j) (λ t i. bind (lift (waitable v) i) (λ w l. bind (lift (time_steps a.scope.view t) l) (λ steps m. limited a.scope.task w steps m))))
    (λ v b. with_time b time unit (λ t c. with_answer c (waitable v) (λ w d. with_steps d t (λ steps f. wait_limited steps w f)))) waits (λ v i.
    time_step (behind a i) time unit
    (λ t i. bind (lift (waitable v) i) (λ w l. bind (lift (time_steps a.scope.view t) l) (λ steps m. limited a.scope.task w steps m)))
    (λ t c. with_answer c (waitable v) (λ w d. with_steps d t (λ steps f. wait_limited steps w f))) waits (λ t j.
    step (behind a j) (λ k. lift (waitable v) k) (λ w l. bind (lift (time_steps a.scope.view t) l) (λ steps m. limited a.scope.task w steps m))
    (λ w d. with_steps d t (λ steps f. wait_limited steps w f)) waits (λ w l.
    step (behind a l) (λ k. lift (time_steps a.scope.view t) k) (λ steps m. limited a.scope.task w steps m) (λ steps f. wait_limited steps w f) waits (λ steps m. refl))))

pub call_is : (c : Call) (time : Tree) (unit : Option Tree) (a : At)
    → await (WithTimeout (TimedCall c) time unit) a
    ≡ with_value a (λ k. eval_timed_call a.scope c time unit k) (λ t b. starts false t.called (first_do (Uses (Times t.steps) ∷ []) b))
call_is c time unit a =
    let last = λ (t : own.TimedCall) (b : At). starts false t.called (first_do (Uses (Times t.steps) ∷ []) b) in
    step a (λ k. eval_call a.scope c k)
    (λ x j. bind (eval_time a.scope time unit j) (λ t i. bind (lift (time_steps a.scope.view t) i) (λ steps l. gives (record { called = x; steps = steps }) l)))
    (λ x b. with_time b time unit (λ t d. with_steps d t (λ steps f. starts false x (first_do (Uses (Times steps) ∷ []) f)))) last (λ x i.
    time_step (behind a i) time unit (λ t i. bind (lift (time_steps a.scope.view t) i) (λ steps l. gives (record { called = x; steps = steps }) l))
    (λ t d. with_steps d t (λ steps f. starts false x (first_do (Uses (Times steps) ∷ []) f))) last (λ t j.
    step (behind a j) (λ k. lift (time_steps a.scope.view t) k) (λ steps l. gives (record { called = x; steps = steps }) l)
    (λ steps f. starts false x (first_do (Uses (Times steps) ∷ []) f)) last (λ steps l. refl)))

pub lock_is : (e : Tree) (block : Block) (a : At)
    → enter e block a ≡ with_value a (λ k. eval_lock a.scope e k) (λ l b. waits l.trigger (first_do (Uses (Enters l.lock block) ∷ []) b))
lock_is e block a =
    let last = λ (l : own.Acquiring) (b : At). waits l.trigger (first_do (Uses (Enters l.lock block) ∷ []) b) in
    step a (λ k. eval a.scope e k)
    (λ v j. bind (lift (lock_of v) j) (λ l i. bind (new_trigger a.scope.task (trigger.Lock l) i) (λ t m. gives (record { lock = l; trigger = t }) m)))
    (λ v b. with_answer b (lock_of v) (λ l c. with_value c (λ k. new_trigger c.scope.task (trigger.Lock l) k) (λ t d. waits t (first_do (Uses (Enters l block) ∷ []) d))))
    last (λ v i.
    step (behind a i) (λ k. lift (lock_of v) k) (λ l i. bind (new_trigger a.scope.task (trigger.Lock l) i) (λ t m. gives (record { lock = l; trigger = t }) m))
    (λ l c. with_value c (λ k. new_trigger c.scope.task (trigger.Lock l) k) (λ t d. waits t (first_do (Uses (Enters l block) ∷ []) d))) last (λ l j.
    step (behind a j) (λ k. new_trigger a.scope.task (trigger.Lock l) k) (λ t m. gives (record { lock = l; trigger = t }) m)
    (λ t d. waits t (first_do (Uses (Enters l block) ∷ []) d)) last (λ t m. refl)))
