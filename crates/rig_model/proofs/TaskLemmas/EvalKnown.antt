-- The view knows what an evaluation gives, where it knows what the names and the names of the design stand for.
use Rattle.std.proofs.Common.{ℕ, Bool, true, false, List, ◌∷◌, Ok, Err, Some, None, refl}
use Rattle.std.specs.Prelude.{Option, IfOk, IfSome}
use Rattle.gpi.specs.declared.design.Spot.{Spot}
use Rattle.py_syntax.specs.ExpressionTrees.{Tree, Constant, FormatString, Name, Bracketed, Attribute, Subscript, Call, MethodCall, Unary, Infix, Trees, NoTree, Then}
use Rattle.py_syntax.specs.declared.constant.Const.{Const}
use Rattle.py_syntax.specs.declared.constant.Const.TheVariants as constant
use Rattle.py_syntax.specs.declared.expression.BinOp.{BinOp}
use Rattle.py_syntax.specs.declared.expression.BinOp.TheVariants as op
use Rattle.py_syntax.specs.declared.expression.BoolOp.{BoolOp}
use Rattle.py_syntax.specs.declared.expression.BoolOp.TheVariants.{Or, And}
use Rattle.py_syntax.specs.declared.expression.Operation.TheVariants as operation
use Rattle.std.specs.Prelude.{codes, slice_index_or}
use Rattle.std.specs.Str.{bytes_eq}
use Rattle.py_syntax.specs.declared.fault_kind.FaultKind.TheVariants.{AttributeError}
use Rattle.py_value.specs.Answer.{Answer}
use Rattle.py_value.specs.Places.{path_at}
use Rattle.py_value.specs.Truth.{truth}
use Rattle.py_value.specs.declared.value.Value.{Value}
use Rattle.py_value.specs.declared.value.Value.TheVariants as value
use Rattle.py_value.specs.Operator.Operation.{unary_value, binary_value}
use Rattle.py_evaluate.specs.Attribute.Attribute.{indexed, text_value, path_attribute}
use Rattle.py_evaluate.specs.Attribute.Knows.{Knows, KnowsAll, KnowsDesign, KnowsNames}
use Rattle.py_evaluate.specs.Attribute.Look.{View, read, child, spot_value, place_attribute, attribute, local, name_value, operated, compared}
use Rattle.py_evaluate.specs.Attribute.Outcome.{Outcome, Scope, gives, lift, bind, after}
use Rattle.py_evaluate.proofs.AttributeLemmas.Plain.{either, text_plain, path_plain, vector_plain}
use Rattle.py_evaluate.proofs.AttributeLemmas.Operators.{binary_known, compared_known}
use Rattle.py_evaluate.specs.Function.Functions.{called, method_value}
use Rattle.py_evaluate.proofs.FunctionLemmas.Known.{called_known, method_known}
use Rattle.py_evaluate.specs.Eval.{constant_value, decided, eval, eval_row, eval_parts}
use Rattle.py_evaluate.proofs.Plain.{unary_plain, word_plain}

-- ---- one evaluation after another

pub after_known : {A B : Type 0} (P : A → Type 0) (Q : B → Type 0) (a : Answer A) (k : ℕ) (f : A → ℕ → Outcome B)
    → IfOk a P → ((x : A) (i : ℕ) → P x → IfOk (f x i).answer Q) → IfOk (after a k f).answer Q
after_known P Q (Ok x) k f h g = g x k h
after_known P Q (Err kind) k f h g = tt

pub bind_known : {A B : Type 0} (P : A → Type 0) (Q : B → Type 0) (o : Outcome A) (f : A → ℕ → Outcome B)
    → IfOk o.answer P → ((x : A) (i : ℕ) → P x → IfOk (f x i).answer Q) → IfOk (bind o f).answer Q
bind_known P Q o f h g = after_known P Q o.answer o.next f h g

pub anything : {A : Type 0} (a : Answer A) → IfOk a (λ x. Unit {0})
anything (Ok x) = tt
anything (Err kind) = tt

-- ---- parts of an expression

pub constant_known : (view : View) (c : Const) → IfOk (constant_value c) (Knows view)
constant_known view constant.Absent = tt
constant_known view (constant.Truth b) = tt
constant_known view (constant.Whole z) = tt
constant_known view (constant.Text bs) = text_plain view bs
constant_known view (constant.Named n) = tt

name_known : (view : View) (o : Option Value) → IfSome o (Knows view) → IfOk (name_value o) (Knows view)
name_known view (Some v) h = h
name_known view None h = tt

place_known : (view : View) (o : Option Spot) (path name : List ℕ) → IfSome o (λ s. Knows view (spot_value s)) → IfOk (place_attribute o path name) (Knows view)
place_known view (Some s) path name h = h
place_known view None path name h = path_plain view path name

attribute_known : (view : View) → KnowsDesign view → (v : Value) (name : List ℕ) → IfOk (attribute view v name) (Knows view)
attribute_known view h (value.Place n) name = place_known view (child view n name) (path_at view.places.nodes n) name (h n name)
attribute_known view h (value.Signal s) name =
    either view (bytes_eq name (codes "value")) (Ok (value.Vector (read view s))) (path_attribute (path_at view.places.signals s.0) name)
    tt (path_plain view (path_at view.places.signals s.0) name)
attribute_known view h (value.Vector ds) name = vector_plain view ds name
attribute_known view h (value.Lock l) name =
    either view (bytes_eq name (codes "locked")) (Ok (value.Truth (slice_index_or view.locks l.0 false))) (Err AttributeError) tt tt
attribute_known view h _ name = tt

operated_known : (view : View) (o : BinOp) (a b : Value) → IfOk (operated view o a b) (Knows view)
operated_known view op.Equal a b = compared_known view op.Equal a b (compared view op.Equal a b) refl
operated_known view op.NotEqual a b = compared_known view op.NotEqual a b (compared view op.NotEqual a b) refl
operated_known view o a b = binary_known view o a b (binary_value o a b) refl

decided_known : (view : View) (o : BoolOp) (t : Bool) (v : Value) (k : ℕ) (second : ℕ → Outcome Value) → Knows view v
    → IfOk (second k).answer (Knows view) → IfOk (decided o t v k second).answer (Knows view)
decided_known view Or true v k second h g = h
decided_known view Or false v k second h g = g
decided_known view And true v k second h g = g
decided_known view And false v k second h g = h

-- ---- expressions

module _ (s : Scope) (design : KnowsDesign s.view) (names : KnowsNames s.view s.names) where
  mutual
    eval_known_in : (e : Tree) (k : ℕ) → IfOk (eval s e k).answer (Knows s.view)
    eval_known_in (Constant c) k = constant_known s.view c
    eval_known_in (FormatString ps) k =
        bind_known (λ bytes. Unit {0}) (Knows s.view) (eval_parts s ps k) (λ bytes i. lift (text_value bytes) i) (anything (eval_parts s ps k).answer) (λ bytes i p. text_plain s.view bytes)
    eval_known_in (Name n) k = name_known s.view (local s.names n) (names n)
    eval_known_in (Bracketed e) k = eval_known_in e k
    eval_known_in (Attribute e n) k =
        bind_known (Knows s.view) (Knows s.view) (eval s e k) (λ v i. lift (attribute s.view v n) i) (eval_known_in e k) (λ v i p. attribute_known s.view design v n)
    eval_known_in (Subscript e index) k =
        bind_known (Knows s.view) (Knows s.view) (eval s e k) (λ v i. bind (eval s index i) (λ u j. lift (indexed v u) j)) (eval_known_in e k)
        (λ v i p. bind_known (Knows s.view) (Knows s.view) (eval s index i) (λ u j. lift (indexed v u) j) (eval_known_in index i) (λ u j q. word_plain s.view v u p))
    eval_known_in (Call f es) k =
        bind_known (KnowsAll s.view) (Knows s.view) (eval_row s es k) (λ vs i. called s.task s.view f vs i) (row_known_in es k) (λ vs i p. called_known s.task s.view f vs i p)
    eval_known_in (MethodCall e m) k =
        bind_known (Knows s.view) (Knows s.view) (eval s e k) (λ v i. method_value s.task s.view v m i) (eval_known_in e k) (λ v i p. method_known s.task s.view v m i p)
    eval_known_in (Unary o e) k =
        bind_known (Knows s.view) (Knows s.view) (eval s e k) (λ v i. lift (unary_value o v) i) (eval_known_in e k) (λ v i p. unary_plain s.view o v)
    eval_known_in (Infix (operation.Binary o) l r) k =
        bind_known (Knows s.view) (Knows s.view) (eval s l k) (λ a i. bind (eval s r i) (λ b j. lift (operated s.view o a b) j)) (eval_known_in l k)
        (λ a i p. bind_known (Knows s.view) (Knows s.view) (eval s r i) (λ b j. lift (operated s.view o a b) j) (eval_known_in r i) (λ b j q. operated_known s.view o a b))
    eval_known_in (Infix (operation.Bool o) l r) k =
        bind_known (Knows s.view) (Knows s.view) (eval s l k) (λ a i. decided o (truth a) a i (λ j. eval s r j)) (eval_known_in l k)
        (λ a i p. decided_known s.view o (truth a) a i (λ j. eval s r j) p (eval_known_in r i))

    row_known_in : (es : Trees) (k : ℕ) → IfOk (eval_row s es k).answer (KnowsAll s.view)
    row_known_in NoTree k = tt
    row_known_in (Then e es) k =
        bind_known (Knows s.view) (KnowsAll s.view) (eval s e k) (λ v i. bind (eval_row s es i) (λ vs j. gives (v ∷ vs) j)) (eval_known_in e k)
        (λ v i p. bind_known (KnowsAll s.view) (KnowsAll s.view) (eval_row s es i) (λ vs j. gives (v ∷ vs) j) (row_known_in es i) (λ vs j q. (p, q)))

pub eval_known : (s : Scope) (e : Tree) (k : ℕ) → KnowsDesign s.view → KnowsNames s.view s.names → IfOk (eval s e k).answer (Knows s.view)
eval_known s e k design names = eval_known_in s design names e k
