-- What an expression gives (the language reference, 6): a value or the kind of a fault, and the number of the task's next trigger.
use Rattle.std.specs.Prelude.{ℕ, Bool, true, false, List, [], ◌∷◌, ◌++◌, Ok}
use Rattle.py_syntax.specs.ExpressionTrees.{Tree, Constant, FormatString, Name, Bracketed, Attribute, Subscript, Call, MethodCall, Unary, Infix, Trees, NoTree, Then, Parts, NoPart, TextThen, FormattedThen}
use Rattle.py_syntax.specs.declared.constant.Const.{Const}
use Rattle.py_syntax.specs.declared.constant.Const.TheVariants as constant
use Rattle.py_syntax.specs.declared.expression.BoolOp.{BoolOp}
use Rattle.py_syntax.specs.declared.expression.BoolOp.TheVariants.{Or, And}
use Rattle.py_syntax.specs.declared.expression.Operation.TheVariants as operation
use Rattle.py_value.specs.Shown.{shown}
use Rattle.py_value.specs.Answer.{Answer}
use Rattle.py_value.specs.Truth.{truth}
use Rattle.py_value.specs.declared.value.Value.{Value}
use Rattle.py_value.specs.declared.value.Value.TheVariants as value
use Rattle.py_value.specs.Operator.Operation.{unary_value}
use Rattle.py_evaluate.specs.Attribute.Attribute.{indexed, text_value}
use Rattle.py_evaluate.specs.Attribute.Look.{local, name_value, attribute, operated}
use Rattle.py_evaluate.specs.Attribute.Outcome.{Outcome, Scope, gives, lift, bind}
use Rattle.py_evaluate.specs.Function.Functions.{called, method_value}

-- a constant; a text of over 65,536 bytes is no value, wherever it comes from
abbrev pub constant_value : Const → Answer Value
constant_value constant.Absent = Ok value.Absent
constant_value (constant.Truth b) = Ok (value.Truth b)
constant_value (constant.Whole z) = Ok (value.Whole z)
constant_value (constant.Text bs) = text_value bs
-- names of constants stand in a module's lines, not in expressions
constant_value (constant.Named n) = Ok value.Absent

-- the first operand of `or` and `and` where it decides, else what the second gives
abbrev pub decided : BoolOp → Bool → Value → ℕ → (ℕ → Outcome Value) → Outcome Value
decided Or true v k second = gives v k
decided Or false v k second = second k
decided And true v k second = second k
decided And false v k second = gives v k

abbrev mutual
  pub eval : Scope → Tree → ℕ → Outcome Value
  eval s (Constant c) k = lift (constant_value c) k
  eval s (FormatString ps) k = bind (eval_parts s ps k) (λ bytes j. lift (text_value bytes) j)
  eval s (Name n) k = lift (name_value (local s.names n)) k
  eval s (Bracketed e) k = eval s e k
  eval s (Attribute e n) k = bind (eval s e k) (λ v j. lift (attribute s.view v n) j)
  eval s (Subscript e i) k = bind (eval s e k) (λ v j. bind (eval s i j) (λ w l. lift (indexed v w) l))
  eval s (Call f es) k = bind (eval_row s es k) (λ vs j. called s.task s.view f vs j)
  eval s (MethodCall e m) k = bind (eval s e k) (λ v j. method_value s.task s.view v m j)
  eval s (Unary o e) k = bind (eval s e k) (λ v j. lift (unary_value o v) j)
  eval s (Infix (operation.Binary o) l r) k = bind (eval s l k) (λ a j. bind (eval s r j) (λ b i. lift (operated s.view o a b) i))
  eval s (Infix (operation.Bool o) l r) k = bind (eval s l k) (λ a j. decided o (truth a) a j (λ i. eval s r i))

  -- the values of arguments, from left to right
  pub eval_row : Scope → Trees → ℕ → Outcome (List Value)
  eval_row s NoTree k = gives [] k
  eval_row s (Then e es) k = bind (eval s e k) (λ v j. bind (eval_row s es j) (λ vs i. gives (v ∷ vs) i))

  -- the text of the parts of an f-string, from left to right
  pub eval_parts : Scope → Parts → ℕ → Outcome (List ℕ)
  eval_parts s NoPart k = gives [] k
  eval_parts s (TextThen t ps) k = bind (eval_parts s ps k) (λ bytes j. gives (t ++ bytes) j)
  eval_parts s (FormattedThen e ps) k =
      bind (eval s e k) (λ v j. bind (eval_parts s ps j) (λ bytes i. gives (shown s.view.places v ++ bytes) i))
