-- The next number never falls by a call.
use Rattle.std.proofs.Common.{ℕ, suc, ◌≤◌, Bool, true, false, List, [], ◌∷◌, Ok, Err, nat_lt, if◌then◌else◌, arith}
use Rattle.std.specs.List.{list_all}
use Rattle.py_syntax.specs.declared.expression.Function.{Function}
use Rattle.py_syntax.specs.declared.expression.Function.TheVariants as function
use Rattle.py_syntax.specs.declared.expression.Method.{Method}
use Rattle.py_syntax.specs.declared.expression.Method.TheVariants as method
use Rattle.py_syntax.specs.declared.fault_kind.FaultKind.TheVariants.{RuntimeError, TypeError, ValueError}
use Rattle.py_value.specs.Answer.{Answer}
use Rattle.py_value.specs.Trigger as trigger
use Rattle.py_value.specs.Trigger.{Trig, Form, Trigs, is_small}
use Rattle.py_value.specs.declared.trigger.TaskNo.{TaskNo}
use Rattle.py_value.specs.declared.value.Value.{Value}
use Rattle.py_value.specs.declared.value.Value.TheVariants as value
use Rattle.py_evaluate.specs.Attribute.Look.{View}
use Rattle.py_evaluate.specs.Attribute.Outcome.{Outcome, gives, refuses, bind}
use Rattle.py_evaluate.proofs.AttributeLemmas.Onward.{bind_rises}
use Rattle.py_evaluate.specs.Function.Making.{trigger_limit, new_trigger, new_tree, new_value, trigger_value, is_waitable, as_trigger, as_triggers, parts, several}
use Rattle.py_evaluate.specs.Function.Functions as meaning

same : (k : ℕ) → k ≤ k
same k = omega arith

pub new_rises : (task : TaskNo) (form : Form) (k : ℕ) → k ≤ (new_trigger task form k).next
new_rises task form k = at (nat_lt k trigger_limit)
  where
    at : (t : Bool) → k ≤ (if t then gives (trigger.Made (record { task = task; number = k }) form) (suc k) else refuses RuntimeError k).next
    at true = omega arith
    at false = same k

pub tree_rises : (task : TaskNo) (form : Form) (k : ℕ) → k ≤ (new_tree task form k).next
tree_rises task form k = at (is_small form)
  where
    at : (t : Bool) → k ≤ (if t then new_trigger task form k else refuses ValueError k).next
    at true = new_rises task form k
    at false = same k

value_rises : (o : Outcome Trig) (k : ℕ) → k ≤ o.next → k ≤ (trigger_value o).next
value_rises o k h = bind_rises o k (λ t j. gives (value.Trigger t) j) h (λ t j. same j)

made_rises : (task : TaskNo) (form : Answer Form) (k : ℕ) → k ≤ (new_value task form k).next
made_rises task (Ok form) k = value_rises (new_trigger task form k) k (new_rises task form k)
made_rises task (Err kind) k = same k

pub one_rises : (task : TaskNo) (v : Value) (k : ℕ) → k ≤ (as_trigger task v k).next
one_rises task (value.Trigger t) k = same k
one_rises task (value.Task t) k = new_rises task (trigger.Join t) k
one_rises task _ k = same k

pub all_rise : (task : TaskNo) (vs : List Value) (k : ℕ) → k ≤ (as_triggers task vs k).next
all_rise task [] k = same k
all_rise task (v ∷ vs) k =
    bind_rises (as_trigger task v k) k (λ t j. bind (as_triggers task vs j) (λ ts i. gives (trigger.Then t ts) i)) (one_rises task v k)
    (λ t j. bind_rises (as_triggers task vs j) j (λ ts i. gives (trigger.Then t ts) i) (all_rise task vs j) (λ ts i. same i))

pub parts_rise : (task : TaskNo) (vs : List Value) (k : ℕ) → k ≤ (parts task vs k).next
parts_rise task vs k = at (list_all is_waitable vs)
  where
    at : (t : Bool) → k ≤ (if t then as_triggers task vs k else refuses TypeError k).next
    at true = all_rise task vs k
    at false = same k

several_rises : (task : TaskNo) (form : Trigs → Form) (vs : List Value) (k : ℕ) → k ≤ (several task form vs k).next
several_rises task form vs k =
    value_rises (bind (parts task vs k) (λ ts j. new_tree task (form ts) j)) k
    (bind_rises (parts task vs k) k (λ ts j. new_tree task (form ts) j) (parts_rise task vs k) (λ ts j. tree_rises task (form ts) j))

-- what holds others is numbered behind its parts
pub several_behind : (task : TaskNo) (form : Trigs → Form) (vs : List Value) (k : ℕ) → (parts task vs k).next ≤ (several task form vs k).next
several_behind task form vs k =
    let o = parts task vs k in
    value_rises (bind o (λ ts j. new_tree task (form ts) j)) o.next
    (bind_rises o o.next (λ ts j. new_tree task (form ts) j) (same o.next) (λ ts j. tree_rises task (form ts) j))

pub called_rises : (task : TaskNo) (view : View) (f : Function) (vs : List Value) (k : ℕ) → k ≤ (meaning.called task view f vs k).next
called_rises task view function.Int vs k = same k
called_rises task view function.Str vs k = same k
called_rises task view function.Bool vs k = same k
called_rises task view function.Len vs k = same k
called_rises task view function.GetSimTime vs k = same k
called_rises task view function.Timer vs k = made_rises task (meaning.timer view vs) k
called_rises task view function.Edge vs k = made_rises task (meaning.change vs) k
called_rises task view function.RisingEdge vs k = made_rises task (meaning.one_bit_edge trigger.Rise view vs) k
called_rises task view function.FallingEdge vs k = made_rises task (meaning.one_bit_edge trigger.Fall view vs) k
called_rises task view function.ReadWrite vs k = made_rises task (Ok trigger.ReadWrite) k
called_rises task view function.ReadOnly vs k = made_rises task (Ok trigger.ReadOnly) k
called_rises task view function.NextTimeStep vs k = made_rises task (Ok trigger.NextStep) k
called_rises task view function.ClockCycles vs k = made_rises task (meaning.cycles view vs) k
called_rises task view function.Join vs k = made_rises task (meaning.join vs) k
called_rises task view function.First vs k = several_rises task trigger.First vs k
called_rises task view function.Combine vs k = several_rises task trigger.Combine vs k
called_rises task view function.Clock vs k = same k

pub method_rises : (task : TaskNo) (view : View) (v : Value) (m : Method) (k : ℕ) → k ≤ (meaning.method_value task view v m k).next
method_rises task view v method.IsSet k = same k
method_rises task view v method.Done k = same k
method_rises task view v method.QSize k = same k
method_rises task view v method.Empty k = same k
method_rises task view v method.Full k = same k
method_rises task view v method.Wait k = made_rises task (meaning.method_form v method.Wait) k
method_rises task view v method.Acquire k = made_rises task (meaning.method_form v method.Acquire) k
method_rises task view v method.Join k = made_rises task (meaning.method_form v method.Join) k
