-- What is awaited (the language reference, 6.4; cocotb 1.8, "Triggers", `with_timeout`).
use Rattle.std.specs.Prelude.{ℕ, true, false, [], ◌∷◌, Option, Ok, Err, if◌then◌else◌}
use Rattle.py_syntax.specs.ExpressionTrees.{Tree}
use Rattle.py_syntax.specs.declared.fault_kind.FaultKind.TheVariants.{AttributeError, TypeError}
use Rattle.py_value.specs.Answer.{Answer}
use Rattle.py_value.specs.Trigger.{Trig, Form, Event, Limit, Then, NoTrig}
use Rattle.py_value.specs.declared.trigger.EventNo.{EventNo}
use Rattle.py_value.specs.declared.trigger.QueueNo.{QueueNo}
use Rattle.py_value.specs.declared.trigger.TaskNo.{TaskNo}
use Rattle.py_value.specs.declared.value.Value.{Value}
use Rattle.py_value.specs.declared.value.Value.TheVariants as value
use Rattle.py_evaluate.specs.Attribute.Look.{View, SeenQueue, queue}
use Rattle.py_evaluate.specs.Attribute.Outcome.{Outcome, bind}
use Rattle.py_evaluate.specs.Function.Functions.{unit_or_step}
use Rattle.py_evaluate.specs.Function.Making.{as_trigger, is_waitable, new_tree, new_trigger}
use Rattle.py_value.specs.Time.Times.{steps_of}
use Rattle.test_meaning.specs.Body.BodyTrees.{TimedValue, TimedCall, Awaited, AwaitedValue, AwaitedCall, AwaitedStart, AwaitedRoom, AwaitedItem, WithTimeout}
use Rattle.rig_model.specs.Task.Frame.{Uses, Times, On}
use Rattle.rig_model.specs.Task.Calls.{with_call, starts}
use Rattle.rig_model.specs.Task.Moves.{At, Move, Calls, moved, want, first_do, with_value, with_eval, with_answer, eval_some}
use Rattle.rig_model.specs.declared.task.task.Turned.TheVariants as turned

abbrev pub waits : Trig → At → Move
waits t a = want (turned.Await t) a

-- a trigger, or a task, which stands for its join
abbrev pub wait_for : Value → At → Move
wait_for v a = with_value a (λ k. as_trigger a.scope.task v k) waits

-- ---- limits of time

-- a trigger or a task, or a fault of its kind
abbrev pub waitable : Value → Answer Value
waitable v = if is_waitable v then Ok v else Err TypeError

abbrev pub limit_form : Trig → ℕ → Form
limit_form t steps = Limit (Then t NoTrig) steps

-- a trigger or a task under a limit of so many steps; the limit is a trigger of its own, which takes its number behind that of the join
abbrev pub limited : TaskNo → Value → ℕ → ℕ → Outcome Trig
limited task v steps k = bind (as_trigger task v k) (λ t j. new_tree task (limit_form t steps) j)

abbrev pub wait_limited : ℕ → Value → At → Move
wait_limited steps v a = with_value a (λ k. limited a.scope.task v steps k) waits

-- the time of a limit and its unit, evaluated
pub record Time : Type 0 where
  pub number : Value
  pub unit : Option Value

abbrev pub with_time : At → Tree → Option Tree → (Time → At → Move) → Move
with_time a time unit f =
    with_eval a time (λ t b. with_value b (λ k. eval_some b.scope unit k) (λ u c. f (record { number = t; unit = u }) c))

-- so many steps, or the time's fault
abbrev pub time_steps : View → Time → Answer ℕ
time_steps view t = steps_of view.step_fs t.number (unit_or_step view.step_fs t.unit)

abbrev pub with_steps : At → Time → (ℕ → At → Move) → Move
with_steps a t f = with_answer a (time_steps a.scope.view t) f

-- ---- queues (cocotb 1.8, `cocotb.queue.Queue`)

abbrev pub queue_of : Value → Answer QueueNo
queue_of (value.Queue q) = Ok q
queue_of _ = Err AttributeError

-- one of the events of a queue, by a trigger that takes its number
abbrev pub wait_for_queue : (SeenQueue → EventNo) → Value → At → Move
wait_for_queue event_of v a =
    with_answer a (queue_of v) (λ q b. with_value b (λ k. new_trigger b.scope.task (Event (event_of (queue b.scope.view q))) k) waits)

-- ---- what stands behind `await`

-- Of a limit the operands are evaluated first, then come the faults of kinds, then those of the time; only then a task is started, which is
-- waited for once it is known.
abbrev pub await : Awaited → At → Move
await (AwaitedValue e) a = with_eval a e wait_for
await (AwaitedCall c) a = with_call a c (λ x b. moved b On (Calls x.function x.arguments))
await (AwaitedStart c) a = with_call a c (starts true)
await (AwaitedRoom e) a = with_eval a e (wait_for_queue (λ q. q.space_event))
await (AwaitedItem e) a = with_eval a e (wait_for_queue (λ q. q.items_event))
await (WithTimeout (TimedValue e) time unit) a =
    with_eval a e (λ v b. with_time b time unit (λ t c. with_answer c (waitable v) (λ w d. with_steps d t (λ steps f. wait_limited steps w f))))
await (WithTimeout (TimedCall call) time unit) a =
    with_call a call (λ x b. with_time b time unit (λ t c. with_steps c t (λ steps d. starts false x (first_do (Uses (Times steps) ∷ []) d))))
