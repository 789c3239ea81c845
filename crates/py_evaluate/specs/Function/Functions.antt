-- What functions and methods give (the library reference, "Built-in Functions"; cocotb 1.8, "Triggers", `Clock` and `get_sim_time`).
use Rattle.std.specs.Prelude.{ℕ, zero, suc, ◌-◌, ◌^◌, ◌≤◌, ◌==◌, nat_le, Bool, true, false, is_ok, IsTrue, List, Option, Some, None, Ok, Err, if◌then◌else◌, slice_get, slice_index_or, ℤ, pos, negsuc}
use Rattle.std.specs.List.{list_all}
use Rattle.gpi.specs.declared.types.SigId.{SigId}
use Rattle.py_syntax.specs.declared.expression.Function.{Function}
use Rattle.py_syntax.specs.declared.expression.Function.TheVariants as function
use Rattle.py_syntax.specs.declared.expression.Method.{Method}
use Rattle.py_syntax.specs.declared.expression.Method.TheVariants as method
use Rattle.py_syntax.specs.declared.fault_kind.FaultKind.TheVariants.{AttributeError, OverflowError, TypeError, ValueError}
use Rattle.py_value.specs.Integer.Integer.{held}
use Rattle.py_value.specs.Answer.{Answer, and_then, answer_map}
use Rattle.py_value.specs.Truth.{truth}
use Rattle.py_value.specs.Trigger as trigger
use Rattle.py_value.specs.Trigger.{Form}
use Rattle.py_value.specs.declared.trigger.TaskNo.{TaskNo}
use Rattle.py_value.specs.declared.value.Value.{Value}
use Rattle.py_value.specs.declared.value.Value.TheVariants as value
use Rattle.py_value.specs.Operator.Number.{one_number, whole}
use Rattle.py_evaluate.specs.Attribute.Attribute.{signal_of, str_value}
use Rattle.py_value.specs.Time.Times.{unit_of, steps_of, half_steps, time_in}
use Rattle.py_evaluate.specs.Attribute.Look.{View, SeenQueue, queue, len, one_bit}
use Rattle.py_evaluate.specs.Attribute.Outcome.{Outcome, lift}
use Rattle.py_evaluate.specs.Function.Making.{is_waitable, new_value, several}

-- ---- arguments, by their places; a call has as many as the grammar asks for, and others aren't looked at

abbrev pub given : Option Value → Answer Value
given (Some v) = Ok v
given None = Err TypeError

abbrev pub argument : List Value → ℕ → Answer Value
argument vs n = given (slice_get vs n)

-- the unit that an argument names; a unit that is left out is the step
abbrev pub unit_or_step : ℕ → Option Value → Answer ℕ
unit_or_step step_fs (Some v) = unit_of step_fs v
unit_or_step step_fs None = Ok step_fs

abbrev pub unit_argument : View → List Value → ℕ → Answer ℕ
unit_argument view vs n = unit_or_step view.step_fs (slice_get vs n)

-- the truth of an argument; one that is left out is true
abbrev pub truth_or_true : Option Value → Bool
truth_or_true (Some v) = truth v
truth_or_true None = true

-- ---- conversions

abbrev pub int : Value → Answer Value
int v = and_then (one_number v) (λ z. whole (held z))

abbrev pub sim_time : View → List Value → Answer Value
sim_time view vs = time_in view.step_fs view.time (unit_argument view vs 0)

-- ---- forms of triggers

abbrev pub timer : View → List Value → Answer Form
timer view vs = and_then (argument vs 0) (λ time. answer_map trigger.Time (steps_of view.step_fs time (unit_argument view vs 1)))

-- an edge of a signal
abbrev pub change : List Value → Answer Form
change vs = and_then (argument vs 0) (λ v. answer_map trigger.Change (signal_of v))

-- an edge of one kind, of a signal of one digit
abbrev pub one_bit_edge : (SigId → Form) → View → List Value → Answer Form
one_bit_edge form view vs = and_then (argument vs 0) (λ v. answer_map form (one_bit view v))

-- the most cycles that are counted
abbrev pub cycle_limit : ℕ
cycle_limit = 2 ^ 64 - 1

-- from 1 to the limit
abbrev pub cycle_count : ℤ → Answer ℕ
cycle_count (pos zero) = Err ValueError
cycle_count (pos (suc n)) = if nat_le (suc n) cycle_limit then Ok (suc n) else Err OverflowError
cycle_count (negsuc n) = Err ValueError

-- the kinds of both come before the number's faults
abbrev pub cycles : View → List Value → Answer Form
cycles view vs =
    and_then (argument vs 0) (λ sig. and_then (argument vs 1) (λ count.
    and_then (one_bit view sig) (λ s. and_then (one_number count) (λ z. answer_map (λ n. trigger.Cycles s n (truth_or_true (slice_get vs 2))) (cycle_count z)))))

abbrev pub join_of : Value → Answer Form
join_of (value.Task t) = Ok (trigger.Join t)
join_of _ = Err TypeError

abbrev pub join : List Value → Answer Form
join vs = and_then (argument vs 0) join_of

-- ---- clocks; the kinds of both come before the period's faults

abbrev pub clock : View → List Value → Answer Value
clock view vs =
    and_then (argument vs 0) (λ sig. and_then (argument vs 1) (λ period.
    and_then (one_bit view sig) (λ s. answer_map (λ h. value.Clock s h) (half_steps view.step_fs period (unit_argument view vs 2)))))

-- ---- calls

abbrev pub called : TaskNo → View → Function → List Value → ℕ → Outcome Value
called task view function.Int vs k = lift (and_then (argument vs 0) int) k
called task view function.Str vs k = lift (and_then (argument vs 0) (str_value view.places)) k
called task view function.Bool vs k = lift (and_then (argument vs 0) (λ v. Ok (value.Truth (truth v)))) k
called task view function.Len vs k = lift (and_then (argument vs 0) (len view)) k
called task view function.GetSimTime vs k = lift (sim_time view vs) k
called task view function.Timer vs k = new_value task (timer view vs) k
called task view function.Edge vs k = new_value task (change vs) k
called task view function.RisingEdge vs k = new_value task (one_bit_edge trigger.Rise view vs) k
called task view function.FallingEdge vs k = new_value task (one_bit_edge trigger.Fall view vs) k
called task view function.ReadWrite vs k = new_value task (Ok trigger.ReadWrite) k
called task view function.ReadOnly vs k = new_value task (Ok trigger.ReadOnly) k
called task view function.NextTimeStep vs k = new_value task (Ok trigger.NextStep) k
called task view function.ClockCycles vs k = new_value task (cycles view vs) k
called task view function.Join vs k = new_value task (join vs) k
called task view function.First vs k = several task trigger.First vs k
called task view function.Combine vs k = several task trigger.Combine vs k
called task view function.Clock vs k = lift (clock view vs) k

-- ---- want of memory

-- the functions that take memory: they make a text, or a tree of triggers
abbrev pub takes_memory : Function → Bool
takes_memory function.Str = true
takes_memory function.First = true
takes_memory function.Combine = true
takes_memory _ = false

-- a text is made of an argument that is given, and a tree of triggers where all arguments can be waited for
abbrev pub takes_memory_of : Function → List Value → Bool
takes_memory_of function.Str vs = is_ok (argument vs 0)
takes_memory_of function.First vs = list_all is_waitable vs
takes_memory_of function.Combine vs = list_all is_waitable vs
takes_memory_of _ vs = false

-- memory may run out in a call when the next number, once k, is j: no higher than that of the outcome
pub record MayWant (f : Function) (vs : List Value) (k j : ℕ) (o : Outcome Value) : Type 0 where
  pub takes : IsTrue (takes_memory_of f vs)
  pub from : k ≤ j
  pub to : j ≤ o.next

-- ---- methods

-- what the triggers of an event, a lock and a task wait for
abbrev pub method_form : Value → Method → Answer Form
method_form (value.Event e) method.Wait = Ok (trigger.Event e)
method_form (value.Lock l) method.Acquire = Ok (trigger.Lock l)
method_form (value.Task t) method.Join = Ok (trigger.Join t)
method_form _ _ = Err AttributeError

abbrev pub set_state : View → Value → Answer Value
set_state view (value.Event e) = Ok (value.Truth (slice_index_or view.events e.0 false))
set_state view _ = Err AttributeError

abbrev pub done_state : View → Value → Answer Value
done_state view (value.Task t) = Ok (value.Truth (slice_index_or view.ended t.0 false))
done_state view _ = Err AttributeError

-- what a queue tells of itself
abbrev pub queue_state : View → Value → (SeenQueue → Value) → Answer Value
queue_state view (value.Queue q) tell = Ok (tell (queue view q))
queue_state view _ tell = Err AttributeError

abbrev pub method_value : TaskNo → View → Value → Method → ℕ → Outcome Value
method_value task view v method.IsSet k = lift (set_state view v) k
method_value task view v method.Done k = lift (done_state view v) k
method_value task view v method.QSize k = lift (queue_state view v (λ q. value.Whole (pos q.held))) k
method_value task view v method.Empty k = lift (queue_state view v (λ q. value.Truth (q.held == 0))) k
method_value task view v method.Full k = lift (queue_state view v (λ q. value.Truth q.is_full)) k
method_value task view v m k = new_value task (method_form v m) k
