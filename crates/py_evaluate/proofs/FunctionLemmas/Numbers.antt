-- Each trigger that a call gives is one of its arguments', or has a number that the call took.
use Rattle.std.proofs.Common.{ℕ, suc, ◌≤◌, Bool, true, false, List, [], ◌∷◌, Ok, Err, nat_lt, if◌then◌else◌, arith}
use Rattle.std.specs.Prelude.{IfOk, ℤ, slice_get, ◌*◌, ◌/◌, ◌%◌, ◌==◌, pos}
use Rattle.std.specs.List.{list_all}
use Rattle.gpi.specs.declared.types.SigId.{SigId}
use Rattle.py_syntax.specs.declared.expression.Function.{Function}
use Rattle.py_syntax.specs.declared.expression.Function.TheVariants as function
use Rattle.py_syntax.specs.declared.expression.Method.{Method}
use Rattle.py_syntax.specs.declared.expression.Method.TheVariants as method
use Rattle.py_syntax.specs.declared.fault_kind.FaultKind.TheVariants.{RuntimeError, TypeError, ValueError}
use Rattle.py_value.specs.Integer.Integer.{held}
use Rattle.py_value.specs.Answer.{Answer, and_then, answer_map}
use Rattle.py_value.specs.Shown.{shown}
use Rattle.py_value.specs.Truth.{truth}
use Rattle.py_value.specs.Trigger as trigger
use Rattle.py_value.specs.Trigger.{Trig, Form, Trigs, is_small}
use Rattle.py_value.specs.declared.trigger.TaskNo.{TaskNo}
use Rattle.py_value.specs.declared.trigger.TrigId.{TrigId}
use Rattle.py_value.specs.declared.value.Value.{Value}
use Rattle.py_value.specs.declared.value.Value.TheVariants as value
use Rattle.py_value.specs.Operator.Number.{one_number, whole}
use Rattle.py_evaluate.specs.Attribute.Attribute.{signal_of, str_value}
use Rattle.py_value.specs.Time.Times.{in_unit, steps_of, half_steps}
use Rattle.py_evaluate.specs.Attribute.Look.{View, SeenQueue, queue, len, one_bit, width}
use Rattle.py_evaluate.specs.Attribute.Numbers.{Each, EachTrig, EachForm, EachOf, EachNumber}
use Rattle.py_evaluate.specs.Attribute.Outcome.{Outcome, gives, refuses, bind}
use Rattle.py_evaluate.proofs.AttributeLemmas.Onward.{bind_rises}
use Rattle.py_evaluate.proofs.AttributeLemmas.Numbers.{bind_each, chained_each, either_each, whole_each, text_each}
use Rattle.py_evaluate.specs.Function.Making.{trigger_limit, new_trigger, new_tree, new_value, trigger_value, is_waitable, as_trigger, as_triggers, parts, several}
use Rattle.py_evaluate.specs.Function.Functions as meaning
use Rattle.py_evaluate.proofs.FunctionLemmas.Onward.{new_rises, tree_rises, one_rises, all_rise, parts_rise}

same : (k : ℕ) → k ≤ k
same k = omega arith

abbrev pub EachAll : (TrigId → Bool) → List Value → Type 0
EachAll test [] = Unit {0}
EachAll test (v ∷ vs) = Each test v × EachAll test vs

-- ---- new triggers

new_each : (test : TrigId → Bool) (task : TaskNo) (form : Form) (k : ℕ) → EachForm test form → EachNumber test task k (new_trigger task form k).next
    → IfOk (new_trigger task form k).answer (EachTrig test)
new_each test task form k h new = at (nat_lt k trigger_limit) new
  where
    at : (t : Bool) → EachNumber test task k (if t then gives (trigger.Made (record { task = task; number = k }) form) (suc k) else refuses RuntimeError k).next
        → IfOk (if t then gives (trigger.Made (record { task = task; number = k }) form) (suc k) else refuses RuntimeError k).answer (EachTrig test)
    at true new = (new k (same k) (omega arith), h)
    at false new = tt

tree_each : (test : TrigId → Bool) (task : TaskNo) (form : Form) (k : ℕ) → EachForm test form → EachNumber test task k (new_tree task form k).next
    → IfOk (new_tree task form k).answer (EachTrig test)
tree_each test task form k h new = at (is_small form) new
  where
    at : (t : Bool) → EachNumber test task k (if t then new_trigger task form k else refuses ValueError k).next
        → IfOk (if t then new_trigger task form k else refuses ValueError k).answer (EachTrig test)
    at true new = new_each test task form k h new
    at false new = tt

value_each : (test : TrigId → Bool) (task : TaskNo) (o : Outcome Trig) (k : ℕ) → k ≤ o.next → (EachNumber test task k o.next → IfOk o.answer (EachTrig test))
    → EachNumber test task k (trigger_value o).next → IfOk (trigger_value o).answer (Each test)
value_each test task o k h first new = bind_each (EachTrig test) (Each test) test task o (λ t i. gives (value.Trigger t) i) k h (λ t i. same i) first (λ t i p q. p) new

made_each : (test : TrigId → Bool) (task : TaskNo) (form : Answer Form) (k : ℕ) → IfOk form (EachForm test) → EachNumber test task k (new_value task form k).next
    → IfOk (new_value task form k).answer (Each test)
made_each test task (Ok form) k h new = value_each test task (new_trigger task form k) k (new_rises task form k) (λ q. new_each test task form k h q) new
made_each test task (Err kind) k h new = tt

one_each : (test : TrigId → Bool) (task : TaskNo) (v : Value) (k : ℕ) → Each test v → EachNumber test task k (as_trigger task v k).next
    → IfOk (as_trigger task v k).answer (EachTrig test)
one_each test task (value.Trigger t) k h new = h
one_each test task (value.Task t) k h new = new_each test task (trigger.Join t) k tt new
one_each test task _ k h new = tt

all_each : (test : TrigId → Bool) (task : TaskNo) (vs : List Value) (k : ℕ) → EachAll test vs → EachNumber test task k (as_triggers task vs k).next
    → IfOk (as_triggers task vs k).answer (EachOf test)
all_each test task [] k h new = tt
all_each test task (v ∷ vs) k h new =
    let last : Trig → Trigs → ℕ → Outcome Trigs = λ t ts i. gives (trigger.Then t ts) i in
    bind_each (EachTrig test) (EachOf test) test task (as_trigger task v k) (λ t j. bind (as_triggers task vs j) (last t)) k (one_rises task v k)
    (λ t j. bind_rises (as_triggers task vs j) j (last t) (all_rise task vs j) (λ ts i. same i)) (λ q. one_each test task v k h.0 q)
    (λ t j p q. bind_each (EachOf test) (EachOf test) test task (as_triggers task vs j) (last t) j (all_rise task vs j) (λ ts i. same i) (λ r. all_each test task vs j h.1 r)
    (λ ts i u r. (p, u)) q) new

parts_each : (test : TrigId → Bool) (task : TaskNo) (vs : List Value) (k : ℕ) → EachAll test vs → EachNumber test task k (parts task vs k).next
    → IfOk (parts task vs k).answer (EachOf test)
parts_each test task vs k h new = at (list_all is_waitable vs) new
  where
    at : (t : Bool) → EachNumber test task k (if t then as_triggers task vs k else refuses TypeError k).next
        → IfOk (if t then as_triggers task vs k else refuses TypeError k).answer (EachOf test)
    at true new = all_each test task vs k h new
    at false new = tt

several_each : (test : TrigId → Bool) (task : TaskNo) (form : Trigs → Form) (vs : List Value) (k : ℕ) → EachAll test vs
    → ((ts : Trigs) → EachOf test ts → EachForm test (form ts)) → EachNumber test task k (several task form vs k).next → IfOk (several task form vs k).answer (Each test)
several_each test task form vs k h f new =
    let tree : Trigs → ℕ → Outcome Trig = λ ts j. new_tree task (form ts) j in
    let rises : (ts : Trigs) (j : ℕ) → j ≤ (tree ts j).next = λ ts j. tree_rises task (form ts) j in
    value_each test task (bind (parts task vs k) tree) k (bind_rises (parts task vs k) k tree (parts_rise task vs k) rises)
    (λ q. bind_each (EachOf test) (EachTrig test) test task (parts task vs k) tree k (parts_rise task vs k) rises (λ r. parts_each test task vs k h r)
    (λ ts j p r. tree_each test task (form ts) j (f ts p) r) q) new

-- ---- forms of one trigger hold no other

chain : {A B : Type 0} (Q : B → Type 0) (a : Answer A) (f : A → Answer B) → ((x : A) → IfOk (f x) Q) → IfOk (and_then a f) Q
chain Q (Ok x) f h = h x
chain Q (Err kind) f h = tt

mapped : {A B : Type 0} (Q : B → Type 0) (a : Answer A) (f : A → B) → ((x : A) → Q (f x)) → IfOk (answer_map f a) Q
mapped Q (Ok x) f h = h x
mapped Q (Err kind) f h = tt

timer_each : (test : TrigId → Bool) (view : View) (vs : List Value) → IfOk (meaning.timer view vs) (EachForm test)
timer_each test view vs =
    chain (EachForm test) (meaning.argument vs 0) (λ time. answer_map trigger.Time (steps_of view.step_fs time (meaning.unit_argument view vs 1)))
    (λ time. mapped (EachForm test) (steps_of view.step_fs time (meaning.unit_argument view vs 1)) trigger.Time (λ n. tt))

change_each : (test : TrigId → Bool) (vs : List Value) → IfOk (meaning.change vs) (EachForm test)
change_each test vs =
    chain (EachForm test) (meaning.argument vs 0) (λ v. answer_map trigger.Change (signal_of v)) (λ v. mapped (EachForm test) (signal_of v) trigger.Change (λ s. tt))

edge_each : (test : TrigId → Bool) (view : View) (form : SigId → Form) (vs : List Value) → ((s : SigId) → EachForm test (form s))
    → IfOk (meaning.one_bit_edge form view vs) (EachForm test)
edge_each test view form vs h =
    chain (EachForm test) (meaning.argument vs 0) (λ v. answer_map form (one_bit view v)) (λ v. mapped (EachForm test) (one_bit view v) form h)

cycles_each : (test : TrigId → Bool) (view : View) (vs : List Value) → IfOk (meaning.cycles view vs) (EachForm test)
cycles_each test view vs =
    let rising = meaning.truth_or_true (slice_get vs 2) in
    let counted : SigId → ℤ → Answer Form = λ s z. answer_map (λ n. trigger.Cycles s n rising) (meaning.cycle_count z) in
    let of_signal : Value → SigId → Answer Form = λ count s. and_then (one_number count) (counted s) in
    chain (EachForm test) (meaning.argument vs 0) (λ sig. and_then (meaning.argument vs 1) (λ count. and_then (one_bit view sig) (of_signal count)))
    (λ sig. chain (EachForm test) (meaning.argument vs 1) (λ count. and_then (one_bit view sig) (of_signal count))
    (λ count. chain (EachForm test) (one_bit view sig) (of_signal count)
    (λ s. chain (EachForm test) (one_number count) (counted s)
    (λ z. mapped (EachForm test) (meaning.cycle_count z) (λ n. trigger.Cycles s n rising) (λ n. tt)))))

join_each : (test : TrigId → Bool) (vs : List Value) → IfOk (meaning.join vs) (EachForm test)
join_each test vs = chain (EachForm test) (meaning.argument vs 0) meaning.join_of at
  where
    at : (v : Value) → IfOk (meaning.join_of v) (EachForm test)
    at (value.Task t) = tt
    at _ = tt

clock_each : (test : TrigId → Bool) (view : View) (vs : List Value) → IfOk (meaning.clock view vs) (Each test)
clock_each test view vs =
    let half : Value → Answer ℕ = λ period. half_steps view.step_fs period (meaning.unit_argument view vs 2) in
    let of_signal : Value → SigId → Answer Value = λ period s. answer_map (λ h. value.Clock s h) (half period) in
    chain (Each test) (meaning.argument vs 0) (λ sig. and_then (meaning.argument vs 1) (λ period. and_then (one_bit view sig) (of_signal period)))
    (λ sig. chain (Each test) (meaning.argument vs 1) (λ period. and_then (one_bit view sig) (of_signal period))
    (λ period. chain (Each test) (one_bit view sig) (of_signal period) (λ s. mapped (Each test) (half period) (λ h. value.Clock s h) (λ h. tt))))

time_each : (test : TrigId → Bool) (view : View) (vs : List Value) → IfOk (meaning.sim_time view vs) (Each test)
time_each test view vs =
    chained_each test (meaning.unit_argument view vs 0) (in_unit (view.time * view.step_fs))
    (λ unit. either_each test (((view.time * view.step_fs) % unit) == 0) (whole (held (pos ((view.time * view.step_fs) / unit)))) (Err ValueError)
    (whole_each test (held (pos ((view.time * view.step_fs) / unit)))) tt)

-- ---- calls

pub called_each : (test : TrigId → Bool) (task : TaskNo) (view : View) (f : Function) (vs : List Value) (k : ℕ) → EachAll test vs
    → EachNumber test task k (meaning.called task view f vs k).next → IfOk (meaning.called task view f vs k).answer (Each test)
called_each test task view function.Int vs k h new =
    chained_each test (meaning.argument vs 0) meaning.int (λ v. chained_each test (one_number v) (λ z. whole (held z)) (λ z. whole_each test (held z)))
called_each test task view function.Str vs k h new = chained_each test (meaning.argument vs 0) (str_value view.places) (λ v. text_each test (shown view.places v))
called_each test task view function.Bool vs k h new = chained_each test (meaning.argument vs 0) (λ v. Ok (value.Truth (truth v))) (λ v. tt)
called_each test task view function.Len vs k h new =
    chained_each test (meaning.argument vs 0) (len view) (λ v. chained_each test (signal_of v) (λ s. Ok (value.Whole (pos (width view s)))) (λ s. tt))
called_each test task view function.GetSimTime vs k h new = time_each test view vs
called_each test task view function.Timer vs k h new = made_each test task (meaning.timer view vs) k (timer_each test view vs) new
called_each test task view function.Edge vs k h new = made_each test task (meaning.change vs) k (change_each test vs) new
called_each test task view function.RisingEdge vs k h new =
    made_each test task (meaning.one_bit_edge trigger.Rise view vs) k (edge_each test view trigger.Rise vs (λ s. tt)) new
called_each test task view function.FallingEdge vs k h new =
    made_each test task (meaning.one_bit_edge trigger.Fall view vs) k (edge_each test view trigger.Fall vs (λ s. tt)) new
called_each test task view function.ReadWrite vs k h new = made_each test task (Ok trigger.ReadWrite) k tt new
called_each test task view function.ReadOnly vs k h new = made_each test task (Ok trigger.ReadOnly) k tt new
called_each test task view function.NextTimeStep vs k h new = made_each test task (Ok trigger.NextStep) k tt new
called_each test task view function.ClockCycles vs k h new = made_each test task (meaning.cycles view vs) k (cycles_each test view vs) new
called_each test task view function.Join vs k h new = made_each test task (meaning.join vs) k (join_each test vs) new
called_each test task view function.First vs k h new = several_each test task trigger.First vs k h (λ ts p. p) new
called_each test task view function.Combine vs k h new = several_each test task trigger.Combine vs k h (λ ts p. p) new
called_each test task view function.Clock vs k h new = clock_each test view vs

waits_each : (test : TrigId → Bool) (v : Value) (m : Method) → IfOk (meaning.method_form v m) (EachForm test)
waits_each test (value.Event e) method.Wait = tt
waits_each test (value.Lock l) method.Acquire = tt
waits_each test (value.Task t) method.Join = tt
waits_each test _ _ = tt

set_each : (test : TrigId → Bool) (view : View) (v : Value) → IfOk (meaning.set_state view v) (Each test)
set_each test view (value.Event e) = tt
set_each test view _ = tt

done_each : (test : TrigId → Bool) (view : View) (v : Value) → IfOk (meaning.done_state view v) (Each test)
done_each test view (value.Task t) = tt
done_each test view _ = tt

queue_each : (test : TrigId → Bool) (view : View) (v : Value) (tell : SeenQueue → Value) → ((q : SeenQueue) → Each test (tell q))
    → IfOk (meaning.queue_state view v tell) (Each test)
queue_each test view (value.Queue q) tell p = p (queue view q)
queue_each test view _ tell p = tt

pub method_each : (test : TrigId → Bool) (task : TaskNo) (view : View) (v : Value) (m : Method) (k : ℕ) → EachNumber test task k (meaning.method_value task view v m k).next
    → IfOk (meaning.method_value task view v m k).answer (Each test)
method_each test task view v method.IsSet k new = set_each test view v
method_each test task view v method.Done k new = done_each test view v
method_each test task view v method.QSize k new = queue_each test view v (λ q. value.Whole (pos q.held)) (λ q. tt)
method_each test task view v method.Empty k new = queue_each test view v (λ q. value.Truth (q.held == 0)) (λ q. tt)
method_each test task view v method.Full k new = queue_each test view v (λ q. value.Truth q.is_full) (λ q. tt)
method_each test task view v method.Wait k new = made_each test task (meaning.method_form v method.Wait) k (waits_each test v method.Wait) new
method_each test task view v method.Acquire k new = made_each test task (meaning.method_form v method.Acquire) k (waits_each test v method.Acquire) new
method_each test task view v method.Join k new = made_each test task (meaning.method_form v method.Join) k (waits_each test v method.Join) new
