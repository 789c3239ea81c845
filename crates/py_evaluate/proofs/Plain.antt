-- What operators on one value give names nothing of a design, and a word of a known memory is known.
use Rattle.std.proofs.Common.{◌≡◌, ℕ, ◌+◌, ◌-◌, ◌<◌, Bool, true, false, Ok, Err, nat_lt, nat_le, length, if◌then◌else◌, refl, ap, sym, ◌∙◌, arith}
use Rattle.std.specs.Prelude.{Result, ℤ, pos, negsuc, ◌&&◌, ◌-ℤ◌, neg_ℤ, IfOk}
use Rattle.gpi.specs.declared.types.SigId.{SigId}
use Rattle.py_syntax.specs.declared.expression.UnOp.{UnOp}
use Rattle.py_syntax.specs.declared.expression.UnOp.TheVariants as unop
use Rattle.py_syntax.specs.declared.fault_kind.FaultKind.TheVariants.{IndexError}
use Rattle.py_value.specs.Integer.Integer.{held}
use Rattle.py_value.specs.Answer.{Answer, raised}
use Rattle.py_value.specs.declared.value.Fault.{Fault}
use Rattle.py_value.specs.declared.value.Value.{Value}
use Rattle.py_value.specs.declared.value.Value.TheVariants as value
use Rattle.py_value.specs.Operator.Number.{one_number, whole}
use Rattle.py_value.specs.Operator.Operation.{unary_value}
use Rattle.py_evaluate.specs.Attribute.Attribute.{indexed, word_at}
use Rattle.py_evaluate.specs.Attribute.Look.{View}
use Rattle.py_evaluate.specs.Attribute.Knows.{Knows, KnowsWords}
use Rattle.py_evaluate.proofs.AttributeLemmas.Plain.{chained, whole_plain}

-- what was raised, without the text of the fault
abbrev kind_of : Result Value Fault → Answer Value
kind_of (Ok v) = Ok v
kind_of (Err fault) = Err fault.kind

unraised : (a : Answer Value) → kind_of (raised a) ≡ a
unraised (Ok v) = refl
unraised (Err kind) = refl

pub raised_value : (a : Answer Value) (r : Result Value Fault) (v : Value) → r ≡ Ok v → r ≡ raised a → Ok v ≡ a
raised_value a r v e h = ap kind_of (sym e ∙ h) ∙ unraised a

pub raised_kind : (a : Answer Value) (r : Result Value Fault) (fault : Fault) → r ≡ Err fault → r ≡ raised a → Err fault.kind ≡ a
raised_kind a r fault e h = ap kind_of (sym e ∙ h) ∙ unraised a

pub unary_plain : (view : View) (o : UnOp) (a : Value) → IfOk (unary_value o a) (Knows view)
unary_plain view unop.Not a = tt
unary_plain view unop.Negative a = chained view (one_number a) (λ z. whole (held (neg_ℤ z))) (λ z. whole_plain view (held (neg_ℤ z)))
unary_plain view unop.Positive a = chained view (one_number a) (λ z. whole (held z)) (λ z. whole_plain view (held z))
unary_plain view unop.Invert a = chained view (one_number a) (λ z. whole (held (neg_ℤ z -ℤ pos 1))) (λ z. whole_plain view (held (neg_ℤ z -ℤ pos 1)))

-- a word that is there lies among the words
there : (low n count : ℕ) → (nat_le low n && nat_lt n (low + count)) ≡ true → n - low < count
there low n count h = grind arith

word_known : (view : View) (first : SigId) (low count n : ℕ) (t : Bool) → (nat_le low n && nat_lt n (low + count)) ≡ t → KnowsWords view first.0 count
    → IfOk (if t then Ok (value.Signal (record { 0 = first.0 + (n - low) })) else Err IndexError) (Knows view)
word_known view first low count n true e k =
    let h = there low n count e in let p = k.signals in let q = k.places in
    let inside : first.0 + (n - low) < length view.signals = omega (arith, h, p) in
    let told : first.0 + (n - low) < length view.places.signals = omega (arith, h, q) in
    (inside, told)
word_known view first low count n false e k = tt

at_known : (view : View) (first : SigId) (low count : ℕ) (z : ℤ) → KnowsWords view first.0 count → IfOk (word_at first low count z) (Knows view)
at_known view first low count (pos n) k = word_known view first low count n (nat_le low n && nat_lt n (low + count)) refl k
at_known view first low count (negsuc n) k = tt

pub word_plain : (view : View) (v i : Value) → Knows view v → IfOk (indexed v i) (Knows view)
word_plain view (value.Words first low count) i k = chained view (one_number i) (word_at first low count) (λ z. at_known view first low count z k)
word_plain view _ i k = tt
