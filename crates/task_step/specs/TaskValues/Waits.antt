-- A means of proof: what statements that wait evaluate, each as one outcome, for the proofs of a task's statements.
use Rattle.std.specs.Prelude.{ℕ, Option}
use Rattle.py_syntax.specs.ExpressionTrees.{Tree}
use Rattle.py_value.specs.Trigger as trigger
use Rattle.py_value.specs.Trigger.{Trig}
use Rattle.py_value.specs.declared.trigger.EventNo.{EventNo}
use Rattle.py_value.specs.declared.trigger.LockNo.{LockNo}
use Rattle.py_evaluate.specs.Attribute.Look.{SeenQueue, queue}
use Rattle.py_evaluate.specs.Attribute.Outcome.{Outcome, Scope, gives, lift, bind}
use Rattle.py_evaluate.specs.Eval.{eval}
use Rattle.py_evaluate.specs.Function.Making.{as_trigger, new_trigger}
use Rattle.test_meaning.specs.Body.BodyTrees.{Call}
use Rattle.rig_model.specs.Task.Awaits.{waitable, limited, time_steps, queue_of}
use Rattle.rig_model.specs.Task.Blocks.{lock_of}
use Rattle.rig_model.specs.Task.Calls.{Called, eval_call}
use Rattle.task_step.specs.TaskValues.Arguments.{called_in}
use Rattle.task_step.specs.TaskValues.Times.{eval_time}
use Rattle.task_step.specs.declared.task_values.waits.TimedCall as timed
use Rattle.task_step.specs.declared.task_values.waits.Acquiring as acquiring

-- a trigger, or a task, which stands for its join
abbrev pub eval_wait : Scope → Tree → ℕ → Outcome Trig
eval_wait s e k = bind (eval s e k) (λ v j. as_trigger s.task v j)

-- one under a limit of time
abbrev pub eval_limit : Scope → Tree → Tree → Option Tree → ℕ → Outcome Trig
eval_limit s e time unit k =
    bind (eval s e k) (λ v j. bind (eval_time s time unit j) (λ t i. bind (lift (waitable v) i) (λ w l. bind (lift (time_steps s.view t) l)
    (λ steps m. limited s.task w steps m))))

-- an event of a queue
abbrev pub eval_queue : (SeenQueue → EventNo) → Scope → Tree → ℕ → Outcome Trig
eval_queue event_of s e k = bind (eval s e k) (λ v j. bind (lift (queue_of v) j) (λ q i. new_trigger s.task (trigger.Event (event_of (queue s.view q))) i))

-- a call under a limit of so many steps
pub record TimedCall : Type 0 where
  pub called : Called
  pub steps : ℕ

abbrev pub timed_in : timed.TimedCall → TimedCall
timed_in t = record { called = called_in t.called; steps = t.steps }

abbrev pub eval_timed_call : Scope → Call → Tree → Option Tree → ℕ → Outcome TimedCall
eval_timed_call s call time unit k =
    bind (eval_call s call k) (λ c j. bind (eval_time s time unit j) (λ t i. bind (lift (time_steps s.view t) i) (λ steps l. gives (record { called = c; steps = steps }) l)))

-- a lock, and the trigger that acquires it
pub record Acquiring : Type 0 where
  pub lock : LockNo
  pub trigger : Trig

abbrev pub acquiring_in : acquiring.Acquiring → Acquiring
acquiring_in a = record { lock = a.lock; trigger = a.trig }

abbrev pub eval_lock : Scope → Tree → ℕ → Outcome Acquiring
eval_lock s e k =
    bind (eval s e k) (λ v j. bind (lift (lock_of v) j) (λ l i. bind (new_trigger s.task (trigger.Lock l) i) (λ t m. gives (record { lock = l; trigger = t }) m)))
