-- Texts and numbers name nothing of a design, so that each view knows them.
use Rattle.std.proofs.Common.{◌≡◌, List, ℕ, Bool, true, false, Ok, Err, Some, None, subst, sym, nat_lt, length, if◌then◌else◌}
use Rattle.std.specs.Prelude.{codes, Result, Option, ℤ, is_some, IfOk}
use Rattle.std.specs.Str.{bytes_eq}
use Rattle.four_value.specs.declared.Digit.{Digit}
use Rattle.py_syntax.specs.declared.fault_kind.FaultKind.TheVariants.{AttributeError, OverflowError}
use Rattle.four_value.specs.Vector.{number}
use Rattle.py_value.specs.Integer.Integer.{held}
use Rattle.py_value.specs.Answer.{Answer, and_then}
use Rattle.py_value.specs.Limits.{text_limit}
use Rattle.four_value.specs.Vector.{digit_letters}
use Rattle.py_value.specs.declared.value.Value.{Value}
use Rattle.py_value.specs.declared.value.Value.TheVariants.{Text, Truth, Vector}
use Rattle.py_evaluate.specs.declared.attribute.fault.OperationFault.{OperationFault}
use Rattle.py_value.specs.Operator.Number.{one_number, whole}
use Rattle.py_evaluate.specs.Attribute.Attribute.{signed_number, signed_integer, text_value, name_of_path, path_attribute, vector_attribute}
use Rattle.py_evaluate.specs.Attribute.Gives.{Gives}
use Rattle.py_evaluate.specs.Attribute.Knows.{Knows}
use Rattle.py_evaluate.specs.Attribute.Look.{View}
use Rattle.py_evaluate.specs.Attribute.Outcome.{Outcome, Ends, lift}

pub either : (view : View) (t : Bool) (a b : Answer Value) → IfOk a (Knows view) → IfOk b (Knows view) → IfOk (if t then a else b) (Knows view)
either view true a b p q = p
either view false a b p q = q

pub chained : {A : Type 0} (view : View) (a : Answer A) (f : A → Answer Value) → ((x : A) → IfOk (f x) (Knows view)) → IfOk (and_then a f) (Knows view)
chained view (Ok x) f p = p x
chained view (Err kind) f p = tt

pub whole_plain : (view : View) (z : Option ℤ) → IfOk (whole z) (Knows view)
whole_plain view (Some z) = tt
whole_plain view None = tt

pub text_plain : (view : View) (bs : List ℕ) → IfOk (text_value bs) (Knows view)
text_plain view bs = either view (nat_lt text_limit (length bs)) (Err OverflowError) (Ok (Text bs)) tt tt

pub path_plain : (view : View) (path name : List ℕ) → IfOk (path_attribute path name) (Knows view)
path_plain view path name =
    let last : Answer Value = if bytes_eq name (codes "_name") then text_value (name_of_path path) else Err AttributeError in
    either view (bytes_eq name (codes "_path")) (text_value path) last (text_plain view path)
    (either view (bytes_eq name (codes "_name")) (text_value (name_of_path path)) (Err AttributeError) (text_plain view (name_of_path path)) tt)

signed_plain : (view : View) (w : ℕ) (n : Option ℕ) → IfOk (signed_integer w n) (Knows view)
signed_plain view w (Some n) = whole_plain view (held (signed_number w n))
signed_plain view w None = tt

pub vector_plain : (view : View) (ds : List Digit) (name : List ℕ) → IfOk (vector_attribute ds name) (Knows view)
vector_plain view ds name =
    let resolvable : Answer Value = if bytes_eq name (codes "is_resolvable") then Ok (Truth (is_some (number ds))) else Err AttributeError in
    let text : Answer Value = if bytes_eq name (codes "binstr") then Ok (Text (digit_letters ds)) else resolvable in
    let signed : Answer Value = if bytes_eq name (codes "signed_integer") then signed_integer (length ds) (number ds) else text in
    either view (bytes_eq name (codes "integer")) (and_then (one_number (Vector ds)) (λ z. whole (held z))) signed
    (chained view (one_number (Vector ds)) (λ z. whole (held z)) (λ z. whole_plain view (held z)))
    (either view (bytes_eq name (codes "signed_integer")) (signed_integer (length ds) (number ds)) text (signed_plain view (length ds) (number ds))
    (either view (bytes_eq name (codes "binstr")) (Ok (Text (digit_letters ds))) resolvable tt
    (either view (bytes_eq name (codes "is_resolvable")) (Ok (Truth (is_some (number ds)))) (Err AttributeError) tt tt)))

-- what the code returned is as known as the answer that it gives
pub given_known : (view : View) (answer : Answer Value) (result : Result Value OperationFault) → IfOk answer (Knows view) → Gives answer result → IfOk result (Knows view)
given_known view answer (Ok v) k e = subst (λ (a : Answer Value). IfOk a (Knows view)) e k
given_known view answer (Err fault) k e = tt

-- so are answers without memory
pub answer_known : (view : View) (answer result : Answer Value) → IfOk answer (Knows view) → result ≡ answer → IfOk result (Knows view)
answer_known view answer result k e = subst (λ (a : Answer Value). IfOk a (Knows view)) (sym e) k

-- so is what an outcome gives
pub ends_known : (view : View) (o : Outcome Value) (result : Result Value OperationFault) (k : ℕ) → IfOk o.answer (Knows view) → Ends result k o → IfOk result (Knows view)
ends_known view o (Ok v) k h e = subst (λ (q : Outcome Value). IfOk q.answer (Knows view)) e h
ends_known view o (Err fault) k h e = tt

pub lift_known : (view : View) (o : Outcome Value) (result : Answer Value) (k : ℕ) → IfOk o.answer (Knows view) → lift result k ≡ o → IfOk result (Knows view)
lift_known view o result k h e = subst (λ (q : Outcome Value). IfOk q.answer (Knows view)) (sym e) h
