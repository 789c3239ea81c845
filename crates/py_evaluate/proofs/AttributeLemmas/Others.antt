-- The operators that leave a signal as it is, and operands that are no signals.
use Rattle.std.proofs.Common.{◌≡◌, refl, true, false, Bool}
use Rattle.py_syntax.specs.declared.expression.BinOp.{BinOp}
use Rattle.py_syntax.specs.declared.expression.BinOp.TheVariants as op
use Rattle.py_value.specs.declared.value.Value.{Value}
use Rattle.py_value.specs.Operator.Operation.{binary_value}
use Rattle.gpi.specs.declared.types.SigId.{SigId}
use Rattle.py_value.specs.declared.value.Value.TheVariants as value
use Rattle.py_evaluate.specs.Attribute.Look.{View, beside, operated}

pub others : (view : View) (o : BinOp) (a b : Value) → (o ≡ op.Equal → ⊥) → (o ≡ op.NotEqual → ⊥) → binary_value o a b ≡ operated view o a b
others view op.Equal a b h i = absurd (h refl)
others view op.NotEqual a b h i = absurd (i refl)
others view _ a b h i = refl

-- what is no signal stays as it is beside everything
pub stays : (view : View) (t : Bool) (v : Value) → ((s : SigId) → v ≡ value.Signal s → ⊥) → beside view t v ≡ v
stays view true v h = refl
stays view false (value.Signal s) h = absurd (h s refl)
stays view false _ h = refl
