-- A means of proof: where memory may run out in an evaluation, and what the number of the task's next trigger is then, for the proofs of
-- evaluation. Memory is taken for a text, for some copies of a name's value, for a value that waits while another expression is evaluated,
-- for the arguments of a call, and by some calls.
use Rattle.std.specs.Prelude.{◌≡◌, ◌⊎◌, ℕ, Bool, not, IsTrue, Option, IsSomeAnd, Ok}
use Rattle.py_syntax.specs.ExpressionTrees.{Tree, Constant, FormatString, Name, Bracketed, Attribute, Subscript, Call, MethodCall, Unary, Infix, Trees, NoTree, Then, Parts, NoPart, TextThen, FormattedThen}
use Rattle.py_syntax.specs.declared.expression.BoolOp.{BoolOp}
use Rattle.py_syntax.specs.declared.expression.BoolOp.TheVariants.{Or, And}
use Rattle.py_syntax.specs.declared.expression.Operation.TheVariants as operation
use Rattle.py_value.specs.Memory.{copy_takes_memory}
use Rattle.py_value.specs.Truth.{truth}
use Rattle.py_value.specs.declared.value.Value.{Value}
use Rattle.py_evaluate.specs.Attribute.Attribute.{text_value}
use Rattle.py_evaluate.specs.Attribute.Gives.{MakesText}
use Rattle.py_evaluate.specs.Attribute.Look.{local, attribute}
use Rattle.py_evaluate.specs.Attribute.Outcome.{Outcome, Scope}
use Rattle.py_evaluate.specs.Function.Functions.{called, MayWant}
use Rattle.py_evaluate.specs.Eval.{constant_value, eval, eval_row, eval_parts}

-- the outcome gives a value, of which this holds with the next number behind it
pub record Behind {A : Type 0} (o : Outcome A) (P : A → ℕ → Type 0) : Type 0 where
  pub value : A
  pub given : o.answer ≡ Ok value
  pub holds : P value o.next

-- the name has a value, and the copy of that takes memory
abbrev pub CopyTakesMemory : Option Value → Type 0
CopyTakesMemory o = IsSomeAnd o (λ v. IsTrue (copy_takes_memory v))

-- whether the second operand of `or` or `and` is evaluated
abbrev pub goes_on : BoolOp → Bool → Bool
goes_on Or first = not first
goes_on And first = first

abbrev mutual
  -- memory may run out in the evaluation of an expression, which begins with the next number k, when the next number is j
  pub Wants : Scope → Tree → ℕ → ℕ → Type 0
  Wants s (Constant c) k j = MakesText (constant_value c) × (j ≡ k)
  Wants s (FormatString ps) k j = PartsWant s ps k j ⊎ Behind (eval_parts s ps k) (λ bytes i. MakesText (text_value bytes) × (j ≡ i))
  Wants s (Name n) k j = CopyTakesMemory (local s.names n) × (j ≡ k)
  Wants s (Bracketed e) k j = Wants s e k j
  Wants s (Attribute e n) k j = Wants s e k j ⊎ Behind (eval s e k) (λ v i. MakesText (attribute s.view v n) × (j ≡ i))
  Wants s (Subscript e index) k j = Wants s e k j ⊎ Behind (eval s e k) (λ v i. (j ≡ i) ⊎ Wants s index i j)
  Wants s (Call f es) k j = RowWants s es k j ⊎ Behind (eval_row s es k) (λ vs i. MayWant f vs i j (called s.task s.view f vs i))
  Wants s (MethodCall e m) k j = Wants s e k j
  Wants s (Unary o e) k j = Wants s e k j
  Wants s (Infix (operation.Binary o) l r) k j = Wants s l k j ⊎ Behind (eval s l k) (λ a i. (j ≡ i) ⊎ Wants s r i j)
  Wants s (Infix (operation.Bool o) l r) k j = Wants s l k j ⊎ Behind (eval s l k) (λ a i. IsTrue (goes_on o (truth a)) × Wants s r i j)

  -- of arguments
  pub RowWants : Scope → Trees → ℕ → ℕ → Type 0
  RowWants s NoTree k j = ⊥
  RowWants s (Then e es) k j = Wants s e k j ⊎ Behind (eval s e k) (λ v i. (j ≡ i) ⊎ RowWants s es i j)

  -- of the parts of an f-string
  pub PartsWant : Scope → Parts → ℕ → ℕ → Type 0
  PartsWant s NoPart k j = ⊥
  PartsWant s (TextThen t ps) k j = (j ≡ k) ⊎ PartsWant s ps k j
  PartsWant s (FormattedThen e ps) k j = Wants s e k j ⊎ Behind (eval s e k) (λ v i. (j ≡ i) ⊎ PartsWant s ps i j)
