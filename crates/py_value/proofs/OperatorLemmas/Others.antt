-- The operators that are on numbers alone.
use Rattle.std.proofs.Common.{◌≡◌, refl}
use Rattle.py_syntax.specs.declared.expression.BinOp.{BinOp}
use Rattle.py_syntax.specs.declared.expression.BinOp.TheVariants as op
use Rattle.py_value.specs.Answer.{and_then}
use Rattle.py_value.specs.declared.value.Value.{Value}
use Rattle.py_value.specs.Operator.Number.{two_numbers}
use Rattle.py_value.specs.Operator.Operation.{arithmetic, binary_value}

pub others : (o : BinOp) (a b : Value) → (o ≡ op.Equal → ⊥) → (o ≡ op.NotEqual → ⊥) → (o ≡ op.Is → ⊥) → (o ≡ op.IsNot → ⊥) → and_then (two_numbers a b) (λ p. arithmetic o p.0 p.1) ≡ binary_value o a b
others op.Equal a b h i j k = absurd (h refl)
others op.NotEqual a b h i j k = absurd (i refl)
others op.Is a b h i j k = absurd (j refl)
others op.IsNot a b h i j k = absurd (k refl)
others _ a b h i j k = refl
