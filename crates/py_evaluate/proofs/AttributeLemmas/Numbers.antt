-- Attributes, indices and operators give no trigger.
use Rattle.std.proofs.Common.{List, ℕ, ◌+◌, ◌-◌, ◌<◌, ◌≤◌, Bool, true, false, Ok, Err, Some, None, refl, nat_lt, nat_le, length, if◌then◌else◌, arith}
use Rattle.std.proofs.lemmas.Bool.{lt-ltb, ltb-true}
use Rattle.std.specs.Prelude.{codes, IfOk, IsTrue, ◌==◌, slice_index_or, Option, ℤ, is_some, pos, negsuc, ◌&&◌, ◌||◌, not, ◌+ℤ◌, ◌-ℤ◌, ◌*ℤ◌, bit_and, bit_or, bit_xor}
use Rattle.std.specs.Str.{bytes_eq}
use Rattle.four_value.specs.declared.Digit.{Digit}
use Rattle.py_syntax.specs.declared.fault_kind.FaultKind.TheVariants.{AttributeError, IndexError, OverflowError, ZeroDivisionError}
use Rattle.four_value.specs.Vector.{number}
use Rattle.py_value.specs.Integer.Integer.{held, held_shift, shifted_right, floor_quotient, floor_rest, by_bits, differ, is_zero}
use Rattle.py_value.specs.Answer.{Answer, and_then}
use Rattle.py_value.specs.Limits.{text_limit}
use Rattle.four_value.specs.Vector.{digit_letters}
use Rattle.py_value.specs.declared.value.Value.{Value}
use Rattle.py_value.specs.declared.value.Value.TheVariants.{Text, Truth, Vector}
use Rattle.py_value.specs.Operator.Number.{one_number, whole, two_numbers}
use Rattle.py_evaluate.specs.Attribute.Attribute.{signed_number, signed_integer, text_value, name_of_path, path_attribute, vector_attribute}
use Rattle.py_evaluate.specs.Attribute.Look.{View, Names, local, attribute, spot_value, place_attribute, child, read, beside, is_handle, operated}
use Rattle.py_syntax.specs.declared.expression.BinOp.{BinOp}
use Rattle.py_syntax.specs.declared.expression.BinOp.TheVariants as op
use Rattle.py_value.specs.declared.value.Value.TheVariants as value
use Rattle.py_value.specs.Operator.Operation.{equal, divided, shifted, arithmetic, binary_value}
use Rattle.py_evaluate.specs.Attribute.Outcome.{Outcome, after, bind}
use Rattle.py_evaluate.specs.Attribute.Numbers.{Each, EachOption, EachName, EachTrig, EachForm, EachOf, EachNumber, is_below}
use Rattle.py_evaluate.specs.Attribute.Attribute.{word_at, indexed}
use Rattle.py_value.specs.declared.trigger.TrigId.{TrigId}
use Rattle.py_value.specs.declared.trigger.TaskNo.{TaskNo}
use Rattle.py_value.specs.Places.{path_at}
use Rattle.py_value.specs.Trigger as trigger
use Rattle.py_value.specs.Trigger.{Trig, Form, Trigs}
use Rattle.gpi.specs.declared.types.SigId.{SigId}
use Rattle.gpi.specs.declared.design.Spot.{Spot}
use Rattle.gpi.specs.declared.design.Spot.TheVariants as spot

pub either_each : (test : TrigId → Bool) (t : Bool) (a b : Answer Value) → IfOk a (Each test) → IfOk b (Each test) → IfOk (if t then a else b) (Each test)
either_each test true a b p q = p
either_each test false a b p q = q

pub chained_each : {A : Type 0} (test : TrigId → Bool) (a : Answer A) (f : A → Answer Value) → ((x : A) → IfOk (f x) (Each test)) → IfOk (and_then a f) (Each test)
chained_each test (Ok x) f p = p x
chained_each test (Err kind) f p = tt

pub whole_each : (test : TrigId → Bool) (z : Option ℤ) → IfOk (whole z) (Each test)
whole_each test (Some z) = tt
whole_each test None = tt

pub text_each : (test : TrigId → Bool) (bs : List ℕ) → IfOk (text_value bs) (Each test)
text_each test bs = either_each test (nat_lt text_limit (length bs)) (Err OverflowError) (Ok (Text bs)) tt tt

pub path_each : (test : TrigId → Bool) (path name : List ℕ) → IfOk (path_attribute path name) (Each test)
path_each test path name =
    let last : Answer Value = if bytes_eq name (codes "_name") then text_value (name_of_path path) else Err AttributeError in
    either_each test (bytes_eq name (codes "_path")) (text_value path) last (text_each test path)
    (either_each test (bytes_eq name (codes "_name")) (text_value (name_of_path path)) (Err AttributeError) (text_each test (name_of_path path)) tt)

signed_each : (test : TrigId → Bool) (w : ℕ) (n : Option ℕ) → IfOk (signed_integer w n) (Each test)
signed_each test w (Some n) = whole_each test (held (signed_number w n))
signed_each test w None = tt

pub vector_each : (test : TrigId → Bool) (ds : List Digit) (name : List ℕ) → IfOk (vector_attribute ds name) (Each test)
vector_each test ds name =
    let resolvable : Answer Value = if bytes_eq name (codes "is_resolvable") then Ok (Truth (is_some (number ds))) else Err AttributeError in
    let text : Answer Value = if bytes_eq name (codes "binstr") then Ok (Text (digit_letters ds)) else resolvable in
    let signed : Answer Value = if bytes_eq name (codes "signed_integer") then signed_integer (length ds) (number ds) else text in
    either_each test (bytes_eq name (codes "integer")) (and_then (one_number (Vector ds)) (λ z. whole (held z))) signed
    (chained_each test (one_number (Vector ds)) (λ z. whole (held z)) (λ z. whole_each test (held z)))
    (either_each test (bytes_eq name (codes "signed_integer")) (signed_integer (length ds) (number ds)) text (signed_each test (length ds) (number ds))
    (either_each test (bytes_eq name (codes "binstr")) (Ok (Text (digit_letters ds))) resolvable tt
    (either_each test (bytes_eq name (codes "is_resolvable")) (Ok (Truth (is_some (number ds)))) (Err AttributeError) tt tt)))

divided_each : (test : TrigId → Bool) (f : ℤ → ℤ → ℤ) (a b : ℤ) → IfOk (divided f a b) (Each test)
divided_each test f a b = either_each test (is_zero b) (Err ZeroDivisionError) (whole (held (f a b))) tt (whole_each test (held (f a b)))

shifted_each : (test : TrigId → Bool) (f : ℤ → ℕ → Option ℤ) (a b : ℤ) → IfOk (shifted f a b) (Each test)
shifted_each test f a (pos n) = whole_each test (f a n)
shifted_each test f a (negsuc n) = tt

arithmetic_each : (test : TrigId → Bool) (o : BinOp) (a b : ℤ) → IfOk (arithmetic o a b) (Each test)
arithmetic_each test op.Add a b = whole_each test (held (a +ℤ b))
arithmetic_each test op.Subtract a b = whole_each test (held (a -ℤ b))
arithmetic_each test op.Multiply a b = whole_each test (held (a *ℤ b))
arithmetic_each test op.FloorDivide a b = divided_each test floor_quotient a b
arithmetic_each test op.Modulo a b = divided_each test floor_rest a b
arithmetic_each test op.BitAnd a b = whole_each test (held (by_bits bit_and ◌&&◌ a b))
arithmetic_each test op.BitOr a b = whole_each test (held (by_bits bit_or ◌||◌ a b))
arithmetic_each test op.BitXor a b = whole_each test (held (by_bits bit_xor differ a b))
arithmetic_each test op.ShiftLeft a b = shifted_each test held_shift a b
arithmetic_each test op.ShiftRight a b = shifted_each test (λ z n. held (shifted_right z n)) a b
arithmetic_each test _ a b = tt

binary_each : (test : TrigId → Bool) (o : BinOp) (a b : Value) → IfOk (binary_value o a b) (Each test)
binary_each test op.Equal a b = chained_each test (equal a b) (λ same. Ok (value.Truth same)) (λ same. tt)
binary_each test op.NotEqual a b = chained_each test (equal a b) (λ same. Ok (value.Truth (not same))) (λ same. tt)
binary_each test op.Is a b = tt
binary_each test op.IsNot a b = tt
binary_each test o a b = chained_each test (two_numbers a b) (λ p. arithmetic o p.0 p.1) (λ p. arithmetic_each test o p.0 p.1)

pub operated_each : (test : TrigId → Bool) (view : View) (o : BinOp) (a b : Value) → IfOk (operated view o a b) (Each test)
operated_each test view op.Equal a b = binary_each test op.Equal (beside view (is_handle b) a) (beside view (is_handle a) b)
operated_each test view op.NotEqual a b = binary_each test op.NotEqual (beside view (is_handle b) a) (beside view (is_handle a) b)
operated_each test view o a b = binary_each test o a b

spot_each : (test : TrigId → Bool) (s : Spot) → Each test (spot_value s)
spot_each test (spot.Inner n) = tt
spot_each test (spot.Sig s) = tt
spot_each test (spot.Words s l n) = tt

place_each : (test : TrigId → Bool) (o : Option Spot) (path name : List ℕ) → IfOk (place_attribute o path name) (Each test)
place_each test (Some s) path name = spot_each test s
place_each test None path name = path_each test path name

pub attribute_each : (test : TrigId → Bool) (view : View) (v : Value) (name : List ℕ) → IfOk (attribute view v name) (Each test)
attribute_each test view (value.Place n) name = place_each test (child view n name) (path_at view.places.nodes n) name
attribute_each test view (value.Signal s) name =
    let path : Answer Value = path_attribute (path_at view.places.signals s.0) name in
    either_each test (bytes_eq name (codes "value")) (Ok (value.Vector (read view s))) path tt (path_each test (path_at view.places.signals s.0) name)
attribute_each test view (value.Vector ds) name = vector_each test ds name
attribute_each test view (value.Lock l) name =
    either_each test (bytes_eq name (codes "locked")) (Ok (value.Truth (slice_index_or view.locks l.0 false))) (Err AttributeError) tt tt
attribute_each test view _ name = tt

word_each : (test : TrigId → Bool) (first : SigId) (low count : ℕ) (z : ℤ) → IfOk (word_at first low count z) (Each test)
word_each test first low count (pos n) =
    either_each test (nat_le low n && nat_lt n (low + count)) (Ok (value.Signal (record { 0 = first.0 + (n - low) }))) (Err IndexError) tt tt
word_each test first low count (negsuc n) = tt

pub indexed_each : (test : TrigId → Bool) (v i : Value) → IfOk (indexed v i) (Each test)
indexed_each test (value.Words first low count) i = chained_each test (one_number i) (word_at first low count) (λ z. word_each test first low count z)
indexed_each test _ i = tt

-- ---- a test that lets through what another one does

mutual
  trig_through : (p q : TrigId → Bool) (t : Trig) → ((id : TrigId) → IsTrue (p id) → IsTrue (q id)) → EachTrig p t → EachTrig q t
  trig_through p q (trigger.Made id form) h e = (h id e.0, form_through p q form h e.1)

  form_through : (p q : TrigId → Bool) (form : Form) → ((id : TrigId) → IsTrue (p id) → IsTrue (q id)) → EachForm p form → EachForm q form
  form_through p q (trigger.First ts) h e = all_through p q ts h e
  form_through p q (trigger.Combine ts) h e = all_through p q ts h e
  form_through p q (trigger.Limit ts n) h e = all_through p q ts h e
  form_through p q _ h e = tt

  all_through : (p q : TrigId → Bool) (ts : Trigs) → ((id : TrigId) → IsTrue (p id) → IsTrue (q id)) → EachOf p ts → EachOf q ts
  all_through p q trigger.NoTrig h e = tt
  all_through p q (trigger.Then t ts) h e = (trig_through p q t h e.0, all_through p q ts h e.1)

option_through : (p q : TrigId → Bool) (o : Option Value) → ((id : TrigId) → IsTrue (p id) → IsTrue (q id)) → EachOption p o → EachOption q o
option_through p q (Some (value.Trigger t)) h e = trig_through p q t h e
option_through p q (Some _) h e = tt
option_through p q None h e = tt

pub names_through : (p q : TrigId → Bool) (names : Names) → ((id : TrigId) → IsTrue (p id) → IsTrue (q id)) → EachName p names → EachName q names
names_through p q names h e = λ n. option_through p q (local names n) h (e n)

later : (t l m : Bool) → (IsTrue l → IsTrue m) → IsTrue (not t || l) → IsTrue (not t || m)
later true l m h e = h e
later false l m h e = refl

pub below_later : (task : TaskNo) (k j : ℕ) (id : TrigId) → k ≤ j → IsTrue (is_below task k id) → IsTrue (is_below task j id)
below_later task k j id h e =
    later (id.task.0 == task.0) (nat_lt id.number k) (nat_lt id.number j)
    (λ l. let less = ltb-true id.number k l in let last : id.number < j = omega (arith, h, less) in lt-ltb id.number j last) e

behind_not : (t l : Bool) → IsTrue l → IsTrue (not t || l)
behind_not true l h = h
behind_not false l h = refl

pub below_number : (task : TaskNo) (j n : ℕ) → n < j → IsTrue (is_below task j (record { task = task; number = n }))
below_number task j n h = behind_not (task.0 == task.0) (nat_lt n j) (lt-ltb n j h)

-- ---- one evaluation after another

after_each : {A B : Type 0} (P : A → Type 0) (Q : B → Type 0) (test : TrigId → Bool) (task : TaskNo) (a : Answer A) (i : ℕ) (f : A → ℕ → Outcome B) (k : ℕ)
    → k ≤ i → ((x : A) (m : ℕ) → m ≤ (f x m).next) → (EachNumber test task k i → IfOk a P)
    → ((x : A) (m : ℕ) → P x → EachNumber test task m (f x m).next → IfOk (f x m).answer Q)
    → EachNumber test task k (after a i f).next → IfOk (after a i f).answer Q
after_each P Q test task (Ok x) i f k h rises first second new =
    let r : i ≤ (f x i).next = rises x i in
    second x i (first (λ n a b. new n a (omega (arith, b, r)))) (λ n a b. new n (omega (arith, h, a)) b)
after_each P Q test task (Err kind) i f k h rises first second new = tt

pub bind_each : {A B : Type 0} (P : A → Type 0) (Q : B → Type 0) (test : TrigId → Bool) (task : TaskNo) (o : Outcome A) (f : A → ℕ → Outcome B) (k : ℕ)
    → k ≤ o.next → ((x : A) (m : ℕ) → m ≤ (f x m).next) → (EachNumber test task k o.next → IfOk o.answer P)
    → ((x : A) (m : ℕ) → P x → EachNumber test task m (f x m).next → IfOk (f x m).answer Q)
    → EachNumber test task k (bind o f).next → IfOk (bind o f).answer Q
bind_each P Q test task o f k h rises first second new = after_each P Q test task o.answer o.next f k h rises first second new
