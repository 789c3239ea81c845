-- The view knows what calls give, where it knows their arguments, and the triggers in it are sound.
use Rattle.std.proofs.Common.{◌≡◌, ℕ, zero, suc, Bool, true, false, List, [], ◌∷◌, Ok, Err, Some, None, nat_lt, nat_le, if◌then◌else◌, ◌<◌, ◌≤◌, length, get_or, refl, subst, sym, arith}
use Rattle.std.specs.Prelude.{Option, IfOk, IsTrue, ℤ, negsuc, slice_get, ◌*◌, ◌%◌, ◌/◌, ◌==◌, pos, IfSome}
use Rattle.std.specs.List.{list_all}
use Rattle.gpi.specs.declared.types.SigId.{SigId}
use Rattle.py_syntax.specs.declared.expression.Function.{Function}
use Rattle.py_syntax.specs.declared.expression.Function.TheVariants as function
use Rattle.py_syntax.specs.declared.expression.Method.{Method}
use Rattle.py_syntax.specs.declared.expression.Method.TheVariants as method
use Rattle.py_syntax.specs.declared.fault_kind.FaultKind.TheVariants.{OverflowError, RuntimeError, TypeError, ValueError}
use Rattle.py_value.specs.Integer.Integer.{held}
use Rattle.py_value.specs.Answer.{Answer, and_then, answer_map}
use Rattle.py_value.specs.Shown.{shown}
use Rattle.py_value.specs.Truth.{truth}
use Rattle.py_value.specs.Trigger as trigger
use Rattle.py_value.specs.Trigger.{Trig, Form, Trigs, is_small, AreSteps, IsSound, IsSoundForm, AreSound}
use Rattle.py_value.specs.declared.trigger.TaskNo.{TaskNo}
use Rattle.py_value.specs.declared.value.Value.{Value}
use Rattle.py_value.specs.declared.value.Value.TheVariants as value
use Rattle.py_value.specs.Operator.Number.{one_number, whole}
use Rattle.py_evaluate.specs.Attribute.Attribute.{signal_of, str_value}
use Rattle.py_value.specs.Time.Times.{in_unit, steps_of, half_steps}
use Rattle.py_value.proofs.TimeLemmas.Sound.{steps_sound, half_sound}
use Rattle.std.proofs.lemmas.Bool.Decides.{nat_tests}
use Rattle.py_evaluate.specs.Attribute.Look.{View, SeenQueue, queue, len, one_bit, width}
use Rattle.py_evaluate.specs.Attribute.Knows.{Knows, KnowsAll, KnowsSignal, KnowsForm, KnowsTrig, KnowsTrigs}
use Rattle.py_evaluate.specs.Attribute.Outcome.{Outcome, gives, refuses, bind, after}
use Rattle.py_evaluate.proofs.AttributeLemmas.Plain.{either, chained, whole_plain, text_plain}
use Rattle.py_evaluate.specs.Function.Making.{trigger_limit, new_trigger, new_tree, new_value, trigger_value, as_trigger, as_triggers, is_waitable, parts, several}
use Rattle.py_evaluate.specs.Function.Functions as meaning

-- ---- what is true of the value of an answer

Holds : {A : Type 0} → (A → Type 0) → Answer A → Type 0
Holds P (Ok x) = P x
Holds P (Err kind) = Unit {0}

chain : {A B : Type 0} (P : A → Type 0) (Q : B → Type 0) (a : Answer A) (f : A → Answer B) → Holds P a → ((x : A) → P x → Holds Q (f x)) → Holds Q (and_then a f)
unfolding Holds
chain P Q (Ok x) f h k = k x h
chain P Q (Err kind) f h k = tt

mapped : {A B : Type 0} (P : A → Type 0) (Q : B → Type 0) (a : Answer A) (g : A → B) → Holds P a → ((x : A) → P x → Q (g x)) → Holds Q (answer_map g a)
unfolding Holds
mapped P Q (Ok x) g h k = k x h
mapped P Q (Err kind) g h k = tt

after_holds : {A B : Type 0} (P : A → Type 0) (Q : B → Type 0) (a : Answer A) (j : ℕ) (f : A → ℕ → Outcome B) → Holds P a → ((x : A) (i : ℕ) → P x → Holds Q (f x i).answer) → Holds Q (after a j f).answer
unfolding Holds
after_holds P Q (Ok x) j f h k = k x j h
after_holds P Q (Err kind) j f h k = tt

anything : {A : Type 0} (a : Answer A) → Holds (λ x. Unit {0}) a
unfolding Holds
anything (Ok x) = tt
anything (Err kind) = tt

choice : {A : Type 0} (P : A → Type 0) (t : Bool) (a b : Answer A) → Holds P a → Holds P b → Holds P (if t then a else b)
choice P true a b h k = h
choice P false a b h k = k

held_by : {A : Type 0} (P : A → Type 0) (a : Answer A) → IfOk a P → Holds P a
unfolding Holds
held_by P (Ok x) h = h
held_by P (Err kind) h = tt

to_known : (view : View) (a : Answer Value) → Holds (Knows view) a → IfOk a (Knows view)
unfolding Holds
to_known view (Ok v) h = h
to_known view (Err kind) h = tt

-- ---- arguments and signals

get_known : (view : View) (vs : List Value) (n : ℕ) → KnowsAll view vs → IfSome (slice_get vs n) (Knows view)
get_known view [] n h = tt
get_known view (v ∷ vs) zero h = h.0
get_known view (v ∷ vs) (suc n) h = get_known view vs n h.1

given_known : (view : View) (o : Option Value) → IfSome o (Knows view) → Holds (Knows view) (meaning.given o)
unfolding Holds
given_known view (Some v) h = h
given_known view None h = tt

argument_known : (view : View) (vs : List Value) (n : ℕ) → KnowsAll view vs → Holds (Knows view) (meaning.argument vs n)
argument_known view vs n h = given_known view (slice_get vs n) (get_known view vs n h)

-- the argument that the code found
pub found_known : (view : View) (vs : List Value) (n : ℕ) (v : Value) → n < length vs → v ≡ get_or vs n v → KnowsAll view vs → Knows view v
found_known view [] n v h e k = absurd (omega arith)
found_known view (x ∷ vs) zero v h e k = subst (Knows view) (sym e) k.0
found_known view (x ∷ vs) (suc n) v h e k = found_known view vs n v (omega arith) e k.1

pub not_given : (vs : List Value) (n : ℕ) → length vs ≤ n → meaning.argument vs n ≡ Err TypeError
not_given [] n h = refl
not_given (x ∷ vs) zero h = absurd (omega arith)
not_given (x ∷ vs) (suc n) h = not_given vs n (omega arith)

SignalKnown : View → SigId → Type 0
SignalKnown view s = KnowsSignal view s.0

signal_known : (view : View) (v : Value) → Knows view v → Holds (SignalKnown view) (signal_of v)
unfolding Holds SignalKnown
signal_known view (value.Signal s) h = h
signal_known view _ h = tt

bit_known : (view : View) (v : Value) → Knows view v → Holds (SignalKnown view) (one_bit view v)
unfolding Holds
bit_known view v h =
    chain (SignalKnown view) (SignalKnown view) (signal_of v) (λ s. if width view s == 1 then Ok s else Err TypeError) (signal_known view v h)
    (λ s k. choice (SignalKnown view) (width view s == 1) (Ok s) (Err TypeError) k tt)

-- such a signal has one digit
BitKnown : View → SigId → Type 0
BitKnown view s = KnowsSignal view s.0 × (width view s ≡ 1)

clock_bit : (view : View) (v : Value) → Knows view v → Holds (BitKnown view) (one_bit view v)
unfolding Holds SignalKnown BitKnown
clock_bit view v h =
    chain (SignalKnown view) (BitKnown view) (signal_of v) (λ s. if width view s == 1 then Ok s else Err TypeError) (signal_known view v h)
    (λ s k. sized s (width view s == 1) refl k)
  where
    sized : (s : SigId) (t : Bool) → (width view s == 1) ≡ t → KnowsSignal view s.0 → Holds (BitKnown view) (if t then Ok s else Err TypeError)
    sized s true e k = let one : width view s ≡ 1 = grind (arith, nat_tests) in (k, one)
    sized s false e k = tt

-- ---- new triggers

abbrev TrigKnown : View → Trig → Type 0
TrigKnown view t = KnowsTrig view t × IsSound t

abbrev FormKnown : View → Form → Type 0
FormKnown view form = KnowsForm view form × IsSoundForm form

abbrev TrigsKnown : View → Trigs → Type 0
TrigsKnown view ts = KnowsTrigs view ts × AreSound ts

made_known : (view : View) (form : Form) (task : TaskNo) (k : ℕ) → FormKnown view form → Holds (TrigKnown view) (new_trigger task form k).answer
unfolding Holds
made_known view form task k h = at (nat_lt k trigger_limit)
  where
    at : (t : Bool) → Holds (TrigKnown view) (if t then gives (trigger.Made (record { task = task; number = k }) form) (suc k) else refuses RuntimeError k).answer
    at true = h
    at false = tt

tree_known : (view : View) (form : Form) (task : TaskNo) (k : ℕ) → (IsTrue (is_small form) → FormKnown view form) → Holds (TrigKnown view) (new_tree task form k).answer
unfolding Holds
tree_known view form task k h = at (is_small form) h
  where
    at : (t : Bool) → (IsTrue t → FormKnown view form) → Holds (TrigKnown view) (if t then new_trigger task form k else refuses ValueError k).answer
    at true h = made_known view form task k (h refl)
    at false h = tt

value_known : (view : View) (o : Outcome Trig) → Holds (TrigKnown view) o.answer → Holds (Knows view) (trigger_value o).answer
unfolding Holds
value_known view o h = after_holds (TrigKnown view) (Knows view) o.answer o.next (λ t k. gives (value.Trigger t) k) h (λ t k p. shown_known t k p)
  where
    shown_known : (t : Trig) (k : ℕ) → TrigKnown view t → Holds (Knows view) (gives {A = Value} (value.Trigger t) k).answer
    shown_known t k p = p

new_known : (view : View) (task : TaskNo) (form : Answer Form) (k : ℕ) → Holds (FormKnown view) form → Holds (Knows view) (new_value task form k).answer
unfolding Holds
new_known view task (Ok form) k h = value_known view (new_trigger task form k) (made_known view form task k h)
new_known view task (Err kind) k h = tt

one_known : (view : View) (task : TaskNo) (v : Value) (k : ℕ) → Knows view v → Holds (TrigKnown view) (as_trigger task v k).answer
unfolding Holds
one_known view task (value.Trigger t) k h = h
one_known view task (value.Task t) k h = made_known view (trigger.Join t) task k (h, tt)
one_known view task _ k h = tt

all_known : (view : View) (task : TaskNo) (vs : List Value) (k : ℕ) → KnowsAll view vs → Holds (TrigsKnown view) (as_triggers task vs k).answer
unfolding Holds
all_known view task [] k h = (tt, tt)
all_known view task (v ∷ vs) k h =
    after_holds (TrigKnown view) (TrigsKnown view) (as_trigger task v k).answer (as_trigger task v k).next
    (λ t j. bind (as_triggers task vs j) (λ ts i. gives (trigger.Then t ts) i)) (one_known view task v k h.0)
    (λ t j p. after_holds (TrigsKnown view) (TrigsKnown view) (as_triggers task vs j).answer (as_triggers task vs j).next (λ ts i. gives (trigger.Then t ts) i)
    (all_known view task vs j h.1) (λ ts i q. ((p.0, q.0), (p.1, q.1))))

parts_known : (view : View) (task : TaskNo) (vs : List Value) (k : ℕ) → KnowsAll view vs → Holds (TrigsKnown view) (parts task vs k).answer
unfolding Holds
parts_known view task vs k h = at (list_all is_waitable vs)
  where
    at : (t : Bool) → Holds (TrigsKnown view) (if t then as_triggers task vs k else refuses TypeError k).answer
    at true = all_known view task vs k h
    at false = tt

several_known : (view : View) (task : TaskNo) (form : Trigs → Form) (vs : List Value) (k : ℕ) → KnowsAll view vs → ((ts : Trigs) → TrigsKnown view ts → IsTrue (is_small (form ts)) → FormKnown view (form ts))
    → IfOk (several task form vs k).answer (Knows view)
several_known view task form vs k h f =
    to_known view (several task form vs k).answer
    (value_known view (bind (parts task vs k) (λ ts j. new_tree task (form ts) j))
    (after_holds (TrigsKnown view) (TrigKnown view) (parts task vs k).answer (parts task vs k).next (λ ts j. new_tree task (form ts) j) (parts_known view task vs k h)
    (λ ts j p. tree_known view (form ts) task j (f ts p))))

-- ---- calls

form_known : (view : View) (task : TaskNo) (form : Answer Form) (k : ℕ) → Holds (FormKnown view) form → IfOk (new_value task form k).answer (Knows view)
form_known view task form k h = to_known view (new_value task form k).answer (new_known view task form k h)

edge_known : (view : View) (vs : List Value) (form : SigId → Form) → KnowsAll view vs → ((s : SigId) → SignalKnown view s → FormKnown view (form s))
    → Holds (FormKnown view) (meaning.one_bit_edge form view vs)
edge_known view vs form h f =
    chain (Knows view) (FormKnown view) (meaning.argument vs 0) (λ v. answer_map form (one_bit view v)) (argument_known view vs 0 h)
    (λ v p. mapped (SignalKnown view) (FormKnown view) (one_bit view v) form (bit_known view v p) f)

change_known : (view : View) (vs : List Value) → KnowsAll view vs → Holds (FormKnown view) (meaning.change vs)
unfolding SignalKnown
change_known view vs h =
    chain (Knows view) (FormKnown view) (meaning.argument vs 0) (λ v. answer_map trigger.Change (signal_of v)) (argument_known view vs 0 h)
    (λ v p. mapped (SignalKnown view) (FormKnown view) (signal_of v) trigger.Change (signal_known view v p) (λ s q. (q, tt)))

timer_known : (view : View) (vs : List Value) → Holds (FormKnown view) (meaning.timer view vs)
timer_known view vs =
    chain (λ v. Unit {0}) (FormKnown view) (meaning.argument vs 0) (λ time. answer_map trigger.Time (steps_of view.step_fs time (meaning.unit_argument view vs 1))) (anything (meaning.argument vs 0))
    (λ time p. mapped AreSteps (FormKnown view) (steps_of view.step_fs time (meaning.unit_argument view vs 1)) trigger.Time
    (held_by AreSteps (steps_of view.step_fs time (meaning.unit_argument view vs 1)) (steps_sound view.step_fs time (meaning.unit_argument view vs 1))) (λ n q. (tt, q)))

-- a count that isn't refused is at least 1
some_cycles : (z : ℤ) → Holds (λ n. 1 ≤ n) (meaning.cycle_count z)
unfolding Holds
some_cycles (pos zero) = tt
some_cycles (pos (suc n)) = choice (λ n. 1 ≤ n) (nat_le (suc n) meaning.cycle_limit) (Ok (suc n)) (Err OverflowError) (omega arith) tt
some_cycles (negsuc n) = tt

cycles_known : (view : View) (vs : List Value) → KnowsAll view vs → Holds (FormKnown view) (meaning.cycles view vs)
unfolding SignalKnown
cycles_known view vs h =
    let rising = meaning.truth_or_true (slice_get vs 2) in
    chain (Knows view) (FormKnown view) (meaning.argument vs 0) (λ sig. and_then (meaning.argument vs 1) (λ count.
    and_then (one_bit view sig) (λ s. and_then (one_number count) (λ z. answer_map (λ n. trigger.Cycles s n rising) (meaning.cycle_count z))))) (argument_known view vs 0 h)
    (λ sig p. chain (λ v. Unit {0}) (FormKnown view) (meaning.argument vs 1) (λ count.
    and_then (one_bit view sig) (λ s. and_then (one_number count) (λ z. answer_map (λ n. trigger.Cycles s n rising) (meaning.cycle_count z)))) (anything (meaning.argument vs 1))
    (λ count u. chain (SignalKnown view) (FormKnown view) (one_bit view sig) (λ s. and_then (one_number count) (λ z. answer_map (λ n. trigger.Cycles s n rising) (meaning.cycle_count z)))
    (bit_known view sig p)
    (λ s q. chain (λ z. Unit {0}) (FormKnown view) (one_number count) (λ z. answer_map (λ n. trigger.Cycles s n rising) (meaning.cycle_count z)) (anything (one_number count))
    (λ z w. mapped (λ n. 1 ≤ n) (FormKnown view) (meaning.cycle_count z) (λ n. trigger.Cycles s n rising) (some_cycles z) (λ n x. (q, x))))))

join_known : (view : View) (vs : List Value) → KnowsAll view vs → Holds (FormKnown view) (meaning.join vs)
unfolding Holds
join_known view vs h = chain (Knows view) (FormKnown view) (meaning.argument vs 0) meaning.join_of (argument_known view vs 0 h) task
  where
    task : (v : Value) → Knows view v → Holds (FormKnown view) (meaning.join_of v)
    task (value.Task t) p = (p, tt)
    task _ p = tt

clock_known : (view : View) (vs : List Value) → KnowsAll view vs → Holds (Knows view) (meaning.clock view vs)
unfolding BitKnown
clock_known view vs h =
    let half : Value → Answer ℕ = λ period. half_steps view.step_fs period (meaning.unit_argument view vs 2) in
    chain (Knows view) (Knows view) (meaning.argument vs 0) (λ sig. and_then (meaning.argument vs 1) (λ period.
    and_then (one_bit view sig) (λ s. answer_map (λ h. value.Clock s h) (half period)))) (argument_known view vs 0 h)
    (λ sig p. chain (λ v. Unit {0}) (Knows view) (meaning.argument vs 1) (λ period. and_then (one_bit view sig) (λ s. answer_map (λ h. value.Clock s h) (half period)))
    (anything (meaning.argument vs 1))
    (λ period u. chain (BitKnown view) (Knows view) (one_bit view sig) (λ s. answer_map (λ h. value.Clock s h) (half period)) (clock_bit view sig p)
    (λ s q. mapped AreSteps (Knows view) (half period) (λ h. value.Clock s h)
    (held_by AreSteps (half period) (half_sound view.step_fs period (meaning.unit_argument view vs 2))) (λ n x. record { signal = q.0; bit = q.1; steps = x }))))

time_known : (view : View) (vs : List Value) → IfOk (meaning.sim_time view vs) (Knows view)
time_known view vs =
    chained view (meaning.unit_argument view vs 0) (in_unit (view.time * view.step_fs))
    (λ unit. either view (((view.time * view.step_fs) % unit) == 0) (whole (held (pos ((view.time * view.step_fs) / unit)))) (Err ValueError)
    (whole_plain view (held (pos ((view.time * view.step_fs) / unit)))) tt)

pub called_known : (task : TaskNo) (view : View) (f : Function) (vs : List Value) (k : ℕ) → KnowsAll view vs → IfOk (meaning.called task view f vs k).answer (Knows view)
unfolding SignalKnown Holds
called_known task view function.Int vs k h = chained view (meaning.argument vs 0) meaning.int (λ v. chained view (one_number v) (λ z. whole (held z)) (λ z. whole_plain view (held z)))
called_known task view function.Str vs k h = chained view (meaning.argument vs 0) (str_value view.places) (λ v. text_plain view (shown view.places v))
called_known task view function.Bool vs k h = chained view (meaning.argument vs 0) (λ v. Ok (value.Truth (truth v))) (λ v. tt)
called_known task view function.Len vs k h = chained view (meaning.argument vs 0) (len view) (λ v. chained view (signal_of v) (λ s. Ok (value.Whole (pos (width view s)))) (λ s. tt))
called_known task view function.GetSimTime vs k h = time_known view vs
called_known task view function.Timer vs k h = form_known view task (meaning.timer view vs) k (timer_known view vs)
called_known task view function.Edge vs k h = form_known view task (meaning.change vs) k (change_known view vs h)
called_known task view function.RisingEdge vs k h = form_known view task (meaning.one_bit_edge trigger.Rise view vs) k (edge_known view vs trigger.Rise h (λ s q. (q, tt)))
called_known task view function.FallingEdge vs k h = form_known view task (meaning.one_bit_edge trigger.Fall view vs) k (edge_known view vs trigger.Fall h (λ s q. (q, tt)))
called_known task view function.ReadWrite vs k h = form_known view task (Ok trigger.ReadWrite) k (tt, tt)
called_known task view function.ReadOnly vs k h = form_known view task (Ok trigger.ReadOnly) k (tt, tt)
called_known task view function.NextTimeStep vs k h = form_known view task (Ok trigger.NextStep) k (tt, tt)
called_known task view function.ClockCycles vs k h = form_known view task (meaning.cycles view vs) k (cycles_known view vs h)
called_known task view function.Join vs k h = form_known view task (meaning.join vs) k (join_known view vs h)
called_known task view function.First vs k h = several_known view task trigger.First vs k h (λ ts p s. (p.0, (s, p.1)))
called_known task view function.Combine vs k h = several_known view task trigger.Combine vs k h (λ ts p s. (p.0, (s, p.1)))
called_known task view function.Clock vs k h = to_known view (meaning.clock view vs) (clock_known view vs h)

-- ---- methods

waits : (view : View) (v : Value) (m : Method) → Knows view v → Holds (FormKnown view) (meaning.method_form v m)
unfolding Holds
waits view (value.Event e) method.Wait h = (h, tt)
waits view (value.Lock l) method.Acquire h = (h, tt)
waits view (value.Task t) method.Join h = (h, tt)
waits view _ _ h = tt

set_known : (view : View) (v : Value) → IfOk (meaning.set_state view v) (Knows view)
set_known view (value.Event e) = tt
set_known view _ = tt

done_known : (view : View) (v : Value) → IfOk (meaning.done_state view v) (Knows view)
done_known view (value.Task t) = tt
done_known view _ = tt

queue_known : (view : View) (v : Value) (tell : SeenQueue → Value) → ((q : SeenQueue) → Knows view (tell q)) → IfOk (meaning.queue_state view v tell) (Knows view)
queue_known view (value.Queue q) tell p = p (queue view q)
queue_known view _ tell p = tt

pub method_known : (task : TaskNo) (view : View) (v : Value) (m : Method) (k : ℕ) → Knows view v → IfOk (meaning.method_value task view v m k).answer (Knows view)
method_known task view v method.IsSet k h = set_known view v
method_known task view v method.Done k h = done_known view v
method_known task view v method.QSize k h = queue_known view v (λ q. value.Whole (pos q.held)) (λ q. tt)
method_known task view v method.Empty k h = queue_known view v (λ q. value.Truth (q.held == 0)) (λ q. tt)
method_known task view v method.Full k h = queue_known view v (λ q. value.Truth q.is_full) (λ q. tt)
method_known task view v method.Wait k h = form_known view task (meaning.method_form v method.Wait) k (waits view v method.Wait h)
method_known task view v method.Acquire k h = form_known view task (meaning.method_form v method.Acquire) k (waits view v method.Acquire h)
method_known task view v method.Join k h = form_known view task (meaning.method_form v method.Join) k (waits view v method.Join h)
