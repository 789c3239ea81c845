-- What evaluations, calls, names and marks give is known to a view that knows what goes in.
use Rattle.std.proofs.Common.{◌≡◌, ℕ, zero, suc, ◌+◌, ◌<◌, ◌≤◌, Bool, true, false, List, [], ◌∷◌, ◌++◌, length, refl, ◌∙◌, ap, subst, sym, arith, if◌then◌else◌, Option, None, Some, Ok, Err}
use Rattle.std.specs.Prelude.{ℤ, pos, negsuc, ◌+ℤ◌, ◌-ℤ◌, ◌&&◌, ◌==◌, nat_le, nat_lt, IfOk, IfSome, IsTrue, slice_get, unsigned_abs, ◌^◌}
use Rattle.std.specs.Int.{int_rem_euclid}
use Rattle.std.specs.List.{list_all}
use Rattle.std.specs.Option.{option_map_or}
use Rattle.std.specs.Str.{bytes_eq}
use Rattle.std.proofs.lemmas.Bool.Decides.{nat_tests}
use Rattle.std.proofs.lemmas.List.Folds.{list_all-append}
use Rattle.std.proofs.Math.IntN.{+ℤ_assoc, +ℤ_comm, +ℤ-neg_ℤ_cancel, -ℤ-+ℤ_cancel}
use Rattle.four_value.specs.Vector.{vector}
use Rattle.four_value.proofs.Numbers.{length_vector}
use Rattle.py_value.specs.Integer.Integer.{held, is_whole, truth_number}
use Rattle.gpi.specs.declared.types.SigId.{SigId}
use Rattle.gpi.specs.declared.types.Write.TheVariants as write
use Rattle.py_syntax.specs.declared.fault_kind.FaultKind.TheVariants.{OverflowError, RuntimeError, TypeError, ValueError}
use Rattle.py_value.specs.Answer.{Answer, and_then, answer_map}
use Rattle.py_value.specs.Limits.{text_limit}
use Rattle.py_value.specs.Trigger as trigger
use Rattle.py_value.specs.Trigger.{Trig, Form, AreSteps, IsSound, IsSoundForm, is_small}
use Rattle.py_value.specs.declared.trigger.TaskNo.{TaskNo}
use Rattle.py_value.specs.declared.value.Value.{Value}
use Rattle.py_value.specs.declared.value.Value.TheVariants as value
use Rattle.py_value.specs.Operator.Number.{two_numbers}
use Rattle.py_value.proofs.TimeLemmas.Sound.{steps_sound}
use Rattle.py_evaluate.specs.Attribute.Knows.{Knows, KnowsAll, KnowsNames, KnowsTrig, KnowsForm}
use Rattle.py_evaluate.specs.Attribute.Look.{View, Names, Local, local, width}
use Rattle.py_evaluate.specs.Attribute.Outcome.{gives}
use Rattle.py_evaluate.specs.Function.Functions.{unit_or_step}
use Rattle.py_evaluate.specs.Function.Making.{as_trigger, is_waitable, new_trigger, new_tree, trigger_limit}
use Rattle.task_queue.specs.Queues.{item_limit}
use Rattle.run_view.specs.SignalPort.Written.{fits_width, number_bits, written_bits}
use Rattle.test_meaning.specs.Body.BodyTrees as body
use Rattle.test_meaning.specs.Body.BodyTrees.{Operand, Call, FunctionCall, ClockStart, Function, Timed, TimedValue, TimedCall, Awaited, AwaitedValue, AwaitedCall, AwaitedStart, WithTimeout, RightSide, RightValue, RightAwait, RightStart, RandomInt, Logger, Statement, Item, Simple, If, While, For, Try, With, Block, NoItem, Handlers, NoHandler, Catch}
use Rattle.test_meaning.specs.Body.Sound.{item_calls, block_calls, is_sound_call}
use Rattle.rig_model.specs.Task.Frame.{Todo, items, with_local, locals_of}
use Rattle.rig_model.specs.Task.Moves.{short_text}
use Rattle.rig_model.specs.Task.Calls.{Argument, Called, argument, arguments, clock_arguments, queue_arguments}
use Rattle.rig_model.specs.Task.Awaits.{Time, waitable, limit_form, limited, time_steps, queue_of}
use Rattle.rig_model.specs.Task.Values.{Source, Value', Force', Freeze', Release', Written, Draw, target_of, act_of, write_of, span_limit, span_of, whole_number, draw_of, drawn, bound_of, queue_bound}
use Rattle.rig_model.specs.Task.Known.{AreSoundCalls, HasDigits, KnowsTodo, KnowsTodos, KnowsWrite}
use Rattle.rig_model.proofs.TaskLemmas.EvalKnown.{bind_known, anything}

-- ---- lists of calls

pub both : (a b : Bool) → IsTrue (a && b) → IsTrue a × IsTrue b
both true b h = (refl, h)
both false b h = cc

pub calls_part : (functions : List Function) (xs ys : List Call) → AreSoundCalls functions (xs ++ ys) → AreSoundCalls functions xs × AreSoundCalls functions ys
calls_part functions xs ys h =
    both (list_all (is_sound_call functions) xs) (list_all (is_sound_call functions) ys) (sym (list_all-append (is_sound_call functions) xs ys) ∙ h)

pub one_call : (functions : List Function) (c : Call) → AreSoundCalls functions (c ∷ []) → IsTrue (is_sound_call functions c)
one_call functions c h = (both (is_sound_call functions c) true h).0

pub todos_append : (functions : List Function) (view : View) (ts us : List Todo) → KnowsTodos functions view ts → KnowsTodos functions view us → KnowsTodos functions view (ts ++ us)
todos_append functions view [] us h g = g
todos_append functions view (t ∷ ts) us h g = (h.0, todos_append functions view ts us h.1 g)

pub items_known : (functions : List Function) (view : View) (b : Block) → AreSoundCalls functions (block_calls b) → KnowsTodos functions view (items b)
items_known functions view NoItem h = tt
items_known functions view (body.Then i b) h =
    let parts = calls_part functions (item_calls i) (block_calls b) h in
    (parts.0, items_known functions view b parts.1)

-- a block and a mark, before the rest
pub block_known : (functions : List Function) (view : View) (b : Block) (t : Todo) (rest : List Todo) → AreSoundCalls functions (block_calls b)
    → KnowsTodo functions view t → KnowsTodos functions view rest → KnowsTodos functions view ((items b ++ t ∷ []) ++ rest)
block_known functions view b t rest h k r =
    todos_append functions view (items b ++ t ∷ []) rest (todos_append functions view (items b) (t ∷ []) (items_known functions view b h) (k, tt)) r

-- ---- names

pub set_one : (P : Value → Type 0) (l : Local) (ls ms : Names) (n m : List ℕ) (v : Option Value) (b c : Bool)
    → bytes_eq l.name n ≡ b → bytes_eq l.name m ≡ c → IfSome v P → IfSome (if c then l.value else local ls m) P
    → (IfSome (local ls m) P → IfSome (local ms m) P)
    → IfSome (if b then (if c then v else local ls m) else (if c then l.value else local ms m)) P
set_one P l ls ms n m v true true e d h k more = h
set_one P l ls ms n m v true false e d h k more = k
set_one P l ls ms n m v false true e d h k more = k
set_one P l ls ms n m v false false e d h k more = more k

pub chosen : (t b : Bool) (l : Local) (ls ms : Names) (m : List ℕ) (v : Option Value) → bytes_eq l.name m ≡ t
    → local (if b then record l { value = v } ∷ ls else l ∷ ms) m ≡ (if b then (if t then v else local ls m) else (if t then l.value else local ms m))
chosen true true l ls ms m v e = rw e refl
chosen true false l ls ms m v e = rw e refl
chosen false true l ls ms m v e = rw e refl
chosen false false l ls ms m v e = rw e refl

pub first_is : (t : Bool) (l : Local) (ls : Names) (m : List ℕ) → bytes_eq l.name m ≡ t → local (l ∷ ls) m ≡ (if t then l.value else local ls m)
first_is true l ls m e = rw e refl
first_is false l ls m e = rw e refl

pub local_known : (P : Value → Type 0) (ls : Names) (n m : List ℕ) (v : Option Value) → IfSome v P → IfSome (local ls m) P → IfSome (local (with_local ls n v) m) P
local_known P [] n m v h k = tt
local_known P (l ∷ ls) n m v h k =
    let t = bytes_eq l.name m in
    let b = bytes_eq l.name n in
    subst (λ (o : Option Value). IfSome o P) (sym (chosen t b l ls (with_local ls n v) m v refl))
    (set_one P l ls (with_local ls n v) n m v b t refl refl h (subst (λ (o : Option Value). IfSome o P) (first_is t l ls m refl) k) (local_known P ls n m v h))

pub names_known : (view : View) (names : Names) (n : List ℕ) (v : Option Value) → IfSome v (Knows view) → KnowsNames view names → KnowsNames view (with_local names n v)
names_known view names n v h k = λ m. local_known (Knows view) names n m v h (k m)

pub first_known_name : (view : View) (n m : List ℕ) (ls : Names) (v : Option Value) (t : Bool) → bytes_eq n m ≡ t → IfSome v (Knows view) → IfSome (local ls m) (Knows view)
    → IfSome (local (record { name = n; value = v } ∷ ls) m) (Knows view)
first_known_name view n m ls v true e h k = rw e h
first_known_name view n m ls v false e h k = rw e k

-- the names of a call at its beginning
pub entered_known : (view : View) (ns : List (List ℕ)) (vs : List Value) → KnowsAll view vs → KnowsNames view (locals_of ns vs)
entered_known view [] vs h = λ m. tt
entered_known view (n ∷ ns) [] h = λ m. first_known_name view n m (locals_of ns []) None (bytes_eq n m) refl tt (entered_known view ns [] tt m)
entered_known view (n ∷ ns) (v ∷ vs) h = λ m. first_known_name view n m (locals_of ns vs) (Some v) (bytes_eq n m) refl h.0 (entered_known view ns vs h.1 m)

-- ---- what evaluations on the way give

pub if_ok : {A : Type 0} (P : A → Type 0) (t : Bool) (a b : Answer A) → IfOk a P → IfOk b P → IfOk (if t then a else b) P
if_ok P true a b h g = h
if_ok P false a b h g = g

pub then_ok : {A B : Type 0} (P : A → Type 0) (Q : B → Type 0) (a : Answer A) (f : A → Answer B) → IfOk a P → ((x : A) → P x → IfOk (f x) Q) → IfOk (and_then a f) Q
then_ok P Q (Ok x) f h g = g x h
then_ok P Q (Err kind) f h g = tt

pub map_ok : {A B : Type 0} (P : A → Type 0) (Q : B → Type 0) (a : Answer A) (f : A → B) → IfOk a P → ((x : A) → P x → Q (f x)) → IfOk (answer_map f a) Q
map_ok P Q (Ok x) f h g = g x h
map_ok P Q (Err kind) f h g = tt

pub short_known : (bs : List ℕ) → IfOk (short_text bs) (λ text. length text ≤ text_limit)
short_known bs = at (nat_lt text_limit (length bs)) refl
  where
    at : (t : Bool) → nat_lt text_limit (length bs) ≡ t → IfOk (if t then Err OverflowError else Ok bs) (λ text. length text ≤ text_limit)
    at true e = tt
    at false e = grind (arith, nat_tests)

-- a trigger that was made is sound where its form is
abbrev pub KnownTrig : View → Trig → Type 0
KnownTrig view t = KnowsTrig view t × IsSound t

pub new_known : (view : View) (task : TaskNo) (form : Form) (k : ℕ) → KnowsForm view form → IsSoundForm form → IfOk (new_trigger task form k).answer (KnownTrig view)
new_known view task form k h s = at (nat_lt k trigger_limit)
  where
    at : (t : Bool) → IfOk (if t then gives (trigger.Made (record { task = task; number = k }) form) (suc k) else record { answer = Err RuntimeError; next = k }).answer (KnownTrig view)
    at true = (h, s)
    at false = tt

pub trigger_known : (view : View) (task : TaskNo) (v : Value) (k : ℕ) → Knows view v → IfOk (as_trigger task v k).answer (KnownTrig view)
trigger_known view task (value.Trigger t) k h = h
trigger_known view task (value.Task t) k h = new_known view task (trigger.Join t) k h tt
trigger_known view task _ k h = tt

pub limit_known : (view : View) (task : TaskNo) (t : Trig) (steps k : ℕ) → KnownTrig view t → AreSteps steps → IfOk (new_tree task (limit_form t steps) k).answer (KnownTrig view)
limit_known view task t steps k h s = at (is_small (limit_form t steps)) refl
  where
    at : (b : Bool) → is_small (limit_form t steps) ≡ b
        → IfOk (if b then new_trigger task (limit_form t steps) k else record { answer = Err ValueError; next = k }).answer (KnownTrig view)
    at true e = new_known view task (limit_form t steps) k (h.0, tt) (e, (h.1, tt), tt, s)
    at false e = tt

pub limited_known : (view : View) (task : TaskNo) (v : Value) (steps k : ℕ) → Knows view v → AreSteps steps → IfOk (limited task v steps k).answer (KnownTrig view)
limited_known view task v steps k h s =
    bind_known (KnownTrig view) (KnownTrig view) (as_trigger task v k) (λ t j. new_tree task (limit_form t steps) j) (trigger_known view task v k h)
    (λ t j p. limit_known view task t steps j p s)

pub waitable_known : (view : View) (v : Value) → Knows view v → IfOk (waitable v) (Knows view)
waitable_known view v h = if_ok (Knows view) (is_waitable v) (Ok v) (Err TypeError) h tt

pub steps_known : (view : View) (t : Time) → IfOk (time_steps view t) AreSteps
steps_known view t = steps_sound view.step_fs t.number (unit_or_step view.step_fs t.unit)

-- ---- what is written

pub number_length : (w : ℕ) (z : ℤ) → IfOk (number_bits w z) (λ bits. length bits ≡ w)
number_length w z =
    if_ok (λ bits. length bits ≡ w) (fits_width w z) (Ok (vector w (unsigned_abs (int_rem_euclid z (pos (2 ^ w)))))) (Err OverflowError)
    (length_vector w (unsigned_abs (int_rem_euclid z (pos (2 ^ w))))) tt

pub bits_length : (w : ℕ) (v : Value) → IfOk (written_bits w v) (λ bits. length bits ≡ w)
bits_length w (value.Truth b) = number_length w (truth_number b)
bits_length w (value.Whole z) = number_length w z
bits_length w (value.Vector ds) = at (length ds == w) refl
  where
    at : (t : Bool) → (length ds == w) ≡ t → IfOk (if t then Ok ds else Err ValueError) (λ bits. length bits ≡ w)
    at true e = grind (arith, nat_tests)
    at false e = tt
bits_length w _ = tt

pub target_known : (view : View) (v : Value) → Knows view v → IfOk (target_of v) (λ s. Knows view (value.Signal s))
target_known view (value.Signal s) h = h
target_known view _ h = tt

abbrev pub KnownWrite : View → Written → Type 0
KnownWrite view w = KnowsWrite view w.sig w.act

pub act_digits : (view : View) (s : SigId) (x : Source) → IfOk (act_of view s x) (HasDigits (width view s))
act_digits view s (Value' v) =
    map_ok (λ bits. length bits ≡ width view s) (HasDigits (width view s)) (written_bits (width view s) v) write.Plain (bits_length (width view s) v) (λ bits q. q)
act_digits view s (Force' v) =
    map_ok (λ bits. length bits ≡ width view s) (HasDigits (width view s)) (written_bits (width view s) v) write.Force (bits_length (width view s) v) (λ bits q. q)
act_digits view s Freeze' = tt
act_digits view s Release' = tt

pub write_known : (view : View) (target : Value) (x : Source) → Knows view target → IfOk (write_of view target x) (KnownWrite view)
write_known view target x h =
    then_ok (λ s. Knows view (value.Signal s)) (KnownWrite view) (target_of target) (λ s. answer_map (λ act. record { sig = s; act = act }) (act_of view s x))
    (target_known view target h) (λ s p.
    map_ok (HasDigits (width view s)) (KnownWrite view) (act_of view s x) (λ act. record { sig = s; act = act })
    (act_digits view s x) (λ act q. record { signal = p; digits = q }))

-- ---- what is drawn

abbrev pub KnownDraw : Draw → Type 0
KnownDraw d = (1 ≤ d.span) × IsTrue (is_whole d.low) × IsTrue (is_whole (d.low +ℤ pos d.span -ℤ pos 1))

pub span_some : (z : ℤ) → IfOk (span_of z) (λ n. (1 ≤ n) × (pos n ≡ z))
span_some (pos zero) = tt
span_some (pos (suc n)) = if_ok (λ m. (1 ≤ m) × (pos m ≡ pos (suc n))) (nat_le (suc n) span_limit) (Ok (suc n)) (Err ValueError) (omega arith, refl) tt
span_some (negsuc n) = tt

pub whole_is : (z : ℤ) → IfOk (whole_number (held z)) (λ y. (y ≡ z) × IsTrue (is_whole z))
unfolding held
whole_is z = at (is_whole z) refl
  where
    at : (t : Bool) → is_whole z ≡ t → IfOk (whole_number (if t then Some z else None)) (λ y. (y ≡ z) × IsTrue (is_whole z))
    at true e = (refl, e)
    at false e = tt

pub last_is : (low high : ℤ) (n : ℕ) → pos n ≡ high -ℤ low +ℤ pos 1 → low +ℤ pos n -ℤ pos 1 ≡ high
last_is low high n e =
    rw e (ap (λ z. z -ℤ pos 1) (sym (+ℤ_assoc low (high -ℤ low) (pos 1))) ∙ +ℤ-neg_ℤ_cancel (low +ℤ (high -ℤ low)) (pos 1)
    ∙ +ℤ_comm low (high -ℤ low) ∙ -ℤ-+ℤ_cancel high low)

pub draw_known : (p : ℤ × ℤ) → IfOk (draw_of p) KnownDraw
draw_known p =
    then_ok (λ n. (1 ≤ n) × (pos n ≡ p.1 -ℤ p.0 +ℤ pos 1)) KnownDraw (span_of (p.1 -ℤ p.0 +ℤ pos 1))
    (λ n. and_then (whole_number (held p.1)) (λ high. answer_map (λ low. record { low = low; span = n }) (whole_number (held p.0)))) (span_some (p.1 -ℤ p.0 +ℤ pos 1)) (λ n h.
    then_ok (λ y. (y ≡ p.1) × IsTrue (is_whole p.1)) KnownDraw (whole_number (held p.1)) (λ high. answer_map (λ low. record { low = low; span = n }) (whole_number (held p.0)))
    (whole_is p.1) (λ high k.
    map_ok (λ y. (y ≡ p.0) × IsTrue (is_whole p.0)) KnownDraw (whole_number (held p.0)) (λ low. record { low = low; span = n }) (whole_is p.0) (λ low l. (
      h.0,
      subst (λ z. IsTrue (is_whole z)) (sym l.0) l.1,
      subst (λ z. IsTrue (is_whole z)) (sym (last_is low p.1 n (h.1 ∙ ap (λ z. p.1 -ℤ z +ℤ pos 1) (sym l.0)))) k.1,
    ))))

pub drawn_known : (x y : Value) → IfOk (drawn x y) KnownDraw
drawn_known x y = then_ok (λ p. Unit {0}) KnownDraw (two_numbers x y) draw_of (anything (two_numbers x y)) (λ p h. draw_known p)

-- ---- calls

abbrev pub KnowsArguments : View → List Argument → Type 0
KnowsArguments view [] = Unit {0}
KnowsArguments view (x ∷ xs) = Knows view x.value × KnowsArguments view xs

pub one_of : (view : View) (t : Bool) (v w : Value) → Knows view v → Knows view w → Knows view (if t then v else w)
one_of view true v w h k = h
one_of view false v w h k = k

pub argument_known : (view : View) (n : ℕ) (other : Value) (xs : List Argument) → Knows view other → KnowsArguments view xs → Knows view (argument n other xs)
argument_known view n other [] h k = h
argument_known view n other (x ∷ xs) h k =
    one_of view (x.parameter == n) x.value (argument n other xs) k.0 (argument_known view n other xs h k.1)

pub arguments_known : (view : View) (n : ℕ) (os : List Operand) (xs : List Argument) → KnowsArguments view xs → KnowsAll view (arguments n os xs)
arguments_known view n [] xs h = tt
arguments_known view n (o ∷ os) xs h = (argument_known view n value.Absent xs tt h, arguments_known view (suc n) os xs h)

pub clock_known : (view : View) (c : Value) (xs : List Argument) → Knows view c → KnowsArguments view xs → IfOk (clock_arguments c xs) (KnowsAll view)
clock_known view (value.Clock sig half) xs h k = (h.signal, (tt, (tt, (argument_known view 0 value.Absent xs tt k, tt))))
clock_known view _ xs h k = tt

-- ---- queues

pub queue_known : (view : View) (v : Value) → Knows view v → IfOk (queue_of v) (λ q. q.0 < length view.queues)
queue_known view (value.Queue q) h = h
queue_known view _ h = tt

pub queue_arguments_known : (view : View) (v : Value) (vs : List Value) → Knows view v → KnowsAll view vs → IfOk (queue_arguments v vs) (KnowsAll view)
queue_arguments_known view (value.Queue q) vs h k = (h, k)
queue_arguments_known view _ vs h k = tt

pub bound_small : (z : ℤ) → IfOk (bound_of z) (λ n. n ≤ item_limit)
bound_small (negsuc n) = omega arith
bound_small (pos n) = at (nat_le n item_limit) refl
  where
    at : (t : Bool) → nat_le n item_limit ≡ t → IfOk (if t then Ok n else Err ValueError) (λ m. m ≤ item_limit)
    at true e = grind (arith, nat_tests)
    at false e = tt

pub bound_known : (v : Value) → IfOk (queue_bound v) (λ n. n ≤ item_limit)
bound_known (value.Whole z) = bound_small z
bound_known (value.Truth b) = bound_small (truth_number b)
bound_known _ = tt

-- ---- calls of functions of the file

-- a call of a function of the file, with values that are known
abbrev pub KnowsCall : List Function → View → Called → Type 0
KnowsCall functions view c = (c.function < length functions) × KnowsAll view c.arguments

pub found_below : (functions : List Function) (n : ℕ) (p : Function → Bool) → IsTrue (option_map_or p (slice_get functions n) false) → n < length functions
found_below [] n p h = cc
found_below (f ∷ fs) zero p h = omega arith
found_below (f ∷ fs) (suc n) p h = let k = found_below fs n p h in omega (arith, k)

-- the functions of the library are the last ones
pub last_below : (functions : List Function) (n k : ℕ) → IsTrue (n + suc k == length functions) → n < length functions
last_below functions n k h = grind (arith, nat_tests)
