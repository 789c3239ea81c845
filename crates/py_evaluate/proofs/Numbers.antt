-- Each trigger that an evaluation gives is one of the names', or has a number that the evaluation took.
use Rattle.std.proofs.Common.{ℕ, ◌≤◌, Bool, true, false, List, ◌∷◌, Ok, Err, Some, None, arith}
use Rattle.std.specs.Prelude.{IfOk, Option, pos, ◌-ℤ◌, neg_ℤ}
use Rattle.py_syntax.specs.ExpressionTrees.{Tree, Constant, FormatString, Name, Bracketed, Attribute, Subscript, Call, MethodCall, Unary, Infix, Trees, NoTree, Then}
use Rattle.py_syntax.specs.declared.constant.Const.{Const}
use Rattle.py_syntax.specs.declared.constant.Const.TheVariants as constant
use Rattle.py_syntax.specs.declared.expression.BoolOp.{BoolOp}
use Rattle.py_syntax.specs.declared.expression.BoolOp.TheVariants.{Or, And}
use Rattle.py_syntax.specs.declared.expression.Operation.TheVariants as operation
use Rattle.py_syntax.specs.declared.expression.UnOp.{UnOp}
use Rattle.py_syntax.specs.declared.expression.UnOp.TheVariants as unop
use Rattle.py_value.specs.Integer.Integer.{held}
use Rattle.py_value.specs.Answer.{Answer}
use Rattle.py_value.specs.Truth.{truth}
use Rattle.py_value.specs.declared.trigger.TrigId.{TrigId}
use Rattle.py_value.specs.declared.value.Value.{Value}
use Rattle.py_value.specs.Operator.Number.{one_number, whole}
use Rattle.py_value.specs.Operator.Operation.{unary_value}
use Rattle.py_evaluate.specs.Attribute.Attribute.{indexed, text_value}
use Rattle.py_evaluate.specs.Attribute.Look.{local, name_value, attribute, operated}
use Rattle.py_evaluate.specs.Attribute.Numbers.{Each, EachOption, EachName, EachNumber, is_below}
use Rattle.py_evaluate.specs.Attribute.Outcome.{Outcome, Scope, gives, lift, bind}
use Rattle.py_evaluate.proofs.AttributeLemmas.Onward.{bind_rises}
use Rattle.py_evaluate.proofs.AttributeLemmas.Numbers.{bind_each, chained_each, whole_each, text_each, attribute_each, indexed_each, operated_each, names_through, below_later, below_number}
use Rattle.py_evaluate.specs.Function.Functions.{called, method_value}
use Rattle.py_evaluate.proofs.FunctionLemmas.Onward.{called_rises, method_rises}
use Rattle.py_evaluate.proofs.FunctionLemmas.Numbers.{EachAll, called_each, method_each}
use Rattle.py_evaluate.specs.Eval.{constant_value, decided, eval, eval_row, eval_parts}
use Rattle.py_evaluate.proofs.Onward.{decided_rises, eval_rises, row_rises, parts_rise}

same : (k : ℕ) → k ≤ k
same k = omega arith

constant_each : (test : TrigId → Bool) (c : Const) → IfOk (constant_value c) (Each test)
constant_each test constant.Absent = tt
constant_each test (constant.Truth b) = tt
constant_each test (constant.Whole z) = tt
constant_each test (constant.Text bs) = text_each test bs
constant_each test (constant.Named n) = tt

unary_each : (test : TrigId → Bool) (o : UnOp) (a : Value) → IfOk (unary_value o a) (Each test)
unary_each test unop.Not a = tt
unary_each test unop.Negative a = chained_each test (one_number a) (λ z. whole (held (neg_ℤ z))) (λ z. whole_each test (held (neg_ℤ z)))
unary_each test unop.Positive a = chained_each test (one_number a) (λ z. whole (held z)) (λ z. whole_each test (held z))
unary_each test unop.Invert a = chained_each test (one_number a) (λ z. whole (held (neg_ℤ z -ℤ pos 1))) (λ z. whole_each test (held (neg_ℤ z -ℤ pos 1)))

named_each : (test : TrigId → Bool) (o : Option Value) → EachOption test o → IfOk (name_value o) (Each test)
named_each test (Some v) h = h
named_each test None h = tt

decided_each : (test : TrigId → Bool) (s : Scope) (o : BoolOp) (t : Bool) (v : Value) (k : ℕ) (second : ℕ → Outcome Value) → Each test v
    → (EachNumber test s.task k (second k).next → IfOk (second k).answer (Each test))
    → EachNumber test s.task k (decided o t v k second).next → IfOk (decided o t v k second).answer (Each test)
decided_each test s Or true v k second h p new = h
decided_each test s Or false v k second h p new = p new
decided_each test s And true v k second h p new = p new
decided_each test s And false v k second h p new = h

anything : (a : Answer (List ℕ)) → IfOk a (λ bytes. Unit {0})
anything (Ok bytes) = tt
anything (Err kind) = tt

mutual
  pub eval_each : (test : TrigId → Bool) (s : Scope) (e : Tree) (k : ℕ) → EachName test s.names → EachNumber test s.task k (eval s e k).next
      → IfOk (eval s e k).answer (Each test)
  eval_each test s (Constant c) k h new = constant_each test c
  eval_each test s (FormatString ps) k h new =
      bind_each (λ bytes. Unit {0}) (Each test) test s.task (eval_parts s ps k) (λ bytes i. lift (text_value bytes) i) k (parts_rise s ps k) (λ bytes i. same i)
      (λ q. anything (eval_parts s ps k).answer) (λ bytes i p q. text_each test bytes) new
  eval_each test s (Name n) k h new = named_each test (local s.names n) (h n)
  eval_each test s (Bracketed e) k h new = eval_each test s e k h new
  eval_each test s (Attribute e n) k h new =
      bind_each (Each test) (Each test) test s.task (eval s e k) (λ v i. lift (attribute s.view v n) i) k (eval_rises s e k) (λ v i. same i) (λ q. eval_each test s e k h q)
      (λ v i p q. attribute_each test s.view v n) new
  eval_each test s (Subscript e index) k h new =
      let last : Value → Value → ℕ → Outcome Value = λ v u i. lift (indexed v u) i in
      bind_each (Each test) (Each test) test s.task (eval s e k) (λ v i. bind (eval s index i) (last v)) k (eval_rises s e k)
      (λ v i. bind_rises (eval s index i) i (last v) (eval_rises s index i) (λ u l. same l)) (λ q. eval_each test s e k h q)
      (λ v i p q. bind_each (Each test) (Each test) test s.task (eval s index i) (last v) i (eval_rises s index i) (λ u l. same l) (λ r. eval_each test s index i h r)
      (λ u l m r. indexed_each test v u) q) new
  eval_each test s (Call f es) k h new =
      bind_each (EachAll test) (Each test) test s.task (eval_row s es k) (λ vs i. called s.task s.view f vs i) k (row_rises s es k) (λ vs i. called_rises s.task s.view f vs i)
      (λ q. row_each test s es k h q) (λ vs i p q. called_each test s.task s.view f vs i p q) new
  eval_each test s (MethodCall e m) k h new =
      bind_each (Each test) (Each test) test s.task (eval s e k) (λ v i. method_value s.task s.view v m i) k (eval_rises s e k) (λ v i. method_rises s.task s.view v m i)
      (λ q. eval_each test s e k h q) (λ v i p q. method_each test s.task s.view v m i q) new
  eval_each test s (Unary o e) k h new =
      bind_each (Each test) (Each test) test s.task (eval s e k) (λ v i. lift (unary_value o v) i) k (eval_rises s e k) (λ v i. same i) (λ q. eval_each test s e k h q)
      (λ v i p q. unary_each test o v) new
  eval_each test s (Infix (operation.Binary o) l r) k h new =
      let last : Value → Value → ℕ → Outcome Value = λ a b i. lift (operated s.view o a b) i in
      bind_each (Each test) (Each test) test s.task (eval s l k) (λ a i. bind (eval s r i) (last a)) k (eval_rises s l k)
      (λ a i. bind_rises (eval s r i) i (last a) (eval_rises s r i) (λ b m. same m)) (λ q. eval_each test s l k h q)
      (λ a i p q. bind_each (Each test) (Each test) test s.task (eval s r i) (last a) i (eval_rises s r i) (λ b m. same m) (λ u. eval_each test s r i h u)
      (λ b m v u. operated_each test s.view o a b) q) new
  eval_each test s (Infix (operation.Bool o) l r) k h new =
      bind_each (Each test) (Each test) test s.task (eval s l k) (λ a i. decided o (truth a) a i (λ m. eval s r m)) k (eval_rises s l k)
      (λ a i. decided_rises o (truth a) a i (λ m. eval s r m) (λ m. eval_rises s r m)) (λ q. eval_each test s l k h q)
      (λ a i p q. decided_each test s o (truth a) a i (λ m. eval s r m) p (λ u. eval_each test s r i h u) q) new

  row_each : (test : TrigId → Bool) (s : Scope) (es : Trees) (k : ℕ) → EachName test s.names → EachNumber test s.task k (eval_row s es k).next
      → IfOk (eval_row s es k).answer (EachAll test)
  row_each test s NoTree k h new = tt
  row_each test s (Then e es) k h new =
      let last : Value → List Value → ℕ → Outcome (List Value) = λ v vs i. gives (v ∷ vs) i in
      bind_each (Each test) (EachAll test) test s.task (eval s e k) (λ v i. bind (eval_row s es i) (last v)) k (eval_rises s e k)
      (λ v i. bind_rises (eval_row s es i) i (last v) (row_rises s es i) (λ vs m. same m)) (λ q. eval_each test s e k h q)
      (λ v i p q. bind_each (EachAll test) (EachAll test) test s.task (eval_row s es i) (last v) i (row_rises s es i) (λ vs m. same m) (λ u. row_each test s es i h u)
      (λ vs m w u. (p, w)) q) new

-- the numbers in names lie below the next one, and so do those in the value
pub eval_below : (s : Scope) (e : Tree) (k : ℕ) → EachName (is_below s.task k) s.names → IfOk (eval s e k).answer (Each (is_below s.task (eval s e k).next))
eval_below s e k h =
    let most = (eval s e k).next in
    let old = names_through (is_below s.task k) (is_below s.task most) s.names (λ id below. below_later s.task k most id (eval_rises s e k) below) h in
    eval_each (is_below s.task most) s e k old (λ n a b. below_number s.task most n b)
