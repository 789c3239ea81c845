-- The next number never falls by an evaluation, and where memory runs out it lies on the way.
use Rattle.std.proofs.Common.{◌≡◌, ℕ, ◌≤◌, Bool, true, false, List, ◌∷◌, ◌++◌, ap, inl, inr, ◌⊎◌, arith}
use Rattle.std.specs.Prelude.{IsTrue}
use Rattle.py_syntax.specs.ExpressionTrees.{Tree, Constant, FormatString, Name, Bracketed, Attribute, Subscript, Call, MethodCall, Unary, Infix, Trees, NoTree, Then, Parts, NoPart, TextThen, FormattedThen}
use Rattle.py_syntax.specs.declared.expression.BoolOp.{BoolOp}
use Rattle.py_syntax.specs.declared.expression.BoolOp.TheVariants.{Or, And}
use Rattle.py_syntax.specs.declared.expression.Operation.TheVariants as operation
use Rattle.py_value.specs.Shown.{shown}
use Rattle.py_value.specs.Truth.{truth}
use Rattle.py_value.specs.declared.value.Value.{Value}
use Rattle.py_value.specs.Operator.Operation.{unary_value}
use Rattle.py_evaluate.specs.Attribute.Attribute.{indexed, text_value}
use Rattle.py_evaluate.specs.Attribute.Look.{attribute, operated}
use Rattle.py_evaluate.specs.Attribute.Outcome.{Outcome, Scope, gives, lift, bind}
use Rattle.py_evaluate.proofs.AttributeLemmas.Onward.{bind_rises}
use Rattle.py_evaluate.specs.Function.Functions.{called, method_value}
use Rattle.py_evaluate.proofs.FunctionLemmas.Onward.{called_rises, method_rises}
use Rattle.py_evaluate.specs.Attribute.Outcome.{after}
use Rattle.py_evaluate.specs.Attribute.Gives.{MakesText}
use Rattle.py_evaluate.specs.Function.Functions.{MayWant}
use Rattle.py_value.specs.Answer.{Answer}
use Rattle.py_evaluate.specs.Eval.{decided, eval, eval_row, eval_parts}
use Rattle.py_evaluate.specs.Wants.{Behind, goes_on, Wants, RowWants, PartsWant}

same : (k : ℕ) → k ≤ k
same k = omega arith

pub decided_rises : (o : BoolOp) (t : Bool) (v : Value) (k : ℕ) (second : ℕ → Outcome Value) → ((i : ℕ) → i ≤ (second i).next) → k ≤ (decided o t v k second).next
decided_rises Or true v k second h = same k
decided_rises Or false v k second h = h k
decided_rises And true v k second h = h k
decided_rises And false v k second h = same k

mutual
  pub eval_rises : (s : Scope) (e : Tree) (k : ℕ) → k ≤ (eval s e k).next
  eval_rises s (Constant c) k = same k
  eval_rises s (FormatString ps) k = bind_rises (eval_parts s ps k) k (λ bytes j. lift (text_value bytes) j) (parts_rise s ps k) (λ bytes j. same j)
  eval_rises s (Name n) k = same k
  eval_rises s (Bracketed e) k = eval_rises s e k
  eval_rises s (Attribute e n) k = bind_rises (eval s e k) k (λ v j. lift (attribute s.view v n) j) (eval_rises s e k) (λ v j. same j)
  eval_rises s (Subscript e i) k =
      bind_rises (eval s e k) k (λ v j. bind (eval s i j) (λ w l. lift (indexed v w) l)) (eval_rises s e k)
      (λ v j. bind_rises (eval s i j) j (λ w l. lift (indexed v w) l) (eval_rises s i j) (λ w l. same l))
  eval_rises s (Call f es) k =
      bind_rises (eval_row s es k) k (λ vs j. called s.task s.view f vs j) (row_rises s es k) (λ vs j. called_rises s.task s.view f vs j)
  eval_rises s (MethodCall e m) k =
      bind_rises (eval s e k) k (λ v j. method_value s.task s.view v m j) (eval_rises s e k) (λ v j. method_rises s.task s.view v m j)
  eval_rises s (Unary o e) k = bind_rises (eval s e k) k (λ v j. lift (unary_value o v) j) (eval_rises s e k) (λ v j. same j)
  eval_rises s (Infix (operation.Binary o) l r) k =
      bind_rises (eval s l k) k (λ a j. bind (eval s r j) (λ b i. lift (operated s.view o a b) i)) (eval_rises s l k)
      (λ a j. bind_rises (eval s r j) j (λ b i. lift (operated s.view o a b) i) (eval_rises s r j) (λ b i. same i))
  eval_rises s (Infix (operation.Bool o) l r) k =
      bind_rises (eval s l k) k (λ a j. decided o (truth a) a j (λ i. eval s r i)) (eval_rises s l k)
      (λ a j. decided_rises o (truth a) a j (λ i. eval s r i) (λ i. eval_rises s r i))

  pub row_rises : (s : Scope) (es : Trees) (k : ℕ) → k ≤ (eval_row s es k).next
  row_rises s NoTree k = same k
  row_rises s (Then e es) k =
      bind_rises (eval s e k) k (λ v j. bind (eval_row s es j) (λ vs i. gives (v ∷ vs) i)) (eval_rises s e k)
      (λ v j. bind_rises (eval_row s es j) j (λ vs i. gives (v ∷ vs) i) (row_rises s es j) (λ vs i. same i))

  pub parts_rise : (s : Scope) (ps : Parts) (k : ℕ) → k ≤ (eval_parts s ps k).next
  parts_rise s NoPart k = same k
  parts_rise s (TextThen t ps) k = bind_rises (eval_parts s ps k) k (λ bytes j. gives (t ++ bytes) j) (parts_rise s ps k) (λ bytes j. same j)
  parts_rise s (FormattedThen e ps) k =
      bind_rises (eval s e k) k (λ v j. bind (eval_parts s ps j) (λ bytes i. gives (shown s.view.places v ++ bytes) i)) (eval_rises s e k)
      (λ v j. bind_rises (eval_parts s ps j) j (λ bytes i. gives (shown s.view.places v ++ bytes) i) (parts_rise s ps j) (λ bytes i. same i))

-- ---- where memory runs out

abbrev Between : ℕ → ℕ → ℕ → Type 0
Between k j most = (k ≤ j) × (j ≤ most)

-- in the first
in_first : {A B : Type 0} (o : Outcome A) (k j : ℕ) (f : A → ℕ → Outcome B) → ((x : A) (i : ℕ) → i ≤ (f x i).next) → Between k j o.next → Between k j (bind o f).next
in_first o k j f p h = let r = bind_rises o o.next f (same o.next) p in (h.0, omega (arith, h.1, r))

-- behind the first
behind_first : {A B : Type 0} (o : Outcome A) (k j : ℕ) (f : A → ℕ → Outcome B) (P : A → ℕ → Type 0) → k ≤ o.next
    → ((x : A) (i : ℕ) → P x i → Between i j (f x i).next) → Behind o P → Between k j (bind o f).next
behind_first {A} o k j f P h p b =
    let q = p b.value o.next b.holds in
    let e : (bind o f).next ≡ (f b.value o.next).next = ap (λ (a : Answer A). (after a o.next f).next) b.given in
    rw e (omega (arith, h, q.0), q.1)

either : {P Q R : Type 0} → (P → R) → (Q → R) → P ⊎ Q → R
either f g (inl p) = f p
either f g (inr q) = g q

at_once : (k j most : ℕ) → k ≤ most → j ≡ k → Between k j most
at_once k j most h e = (omega (arith, e), omega (arith, e, h))

abbrev TextWants : (Answer Value) → ℕ → ℕ → Type 0
TextWants answer j i = MakesText answer × (j ≡ i)

-- the second operand of `or` and `and`
in_second : (o : BoolOp) (t : Bool) (v : Value) (k j : ℕ) (second : ℕ → Outcome Value) → IsTrue (goes_on o t) → Between k j (second k).next → Between k j (decided o t v k second).next
in_second Or false v k j second t h = h
in_second Or true v k j second t h = absurd cc
in_second And true v k j second t h = h
in_second And false v k j second t h = absurd cc

mutual
  pub eval_between : (s : Scope) (e : Tree) (k j : ℕ) → Wants s e k j → Between k j (eval s e k).next
  eval_between s (Constant c) k j w = at_once k j k (same k) w.1
  eval_between s (FormatString ps) k j w =
      let f : List ℕ → ℕ → Outcome Value = λ bytes i. lift (text_value bytes) i in
      either (λ p. in_first (eval_parts s ps k) k j f (λ bytes i. same i) (parts_between s ps k j p))
      (λ b. behind_first (eval_parts s ps k) k j f (λ bytes i. TextWants (text_value bytes) j i) (parts_rise s ps k) (λ bytes i q. at_once i j i (same i) q.1) b) w
  eval_between s (Name n) k j w = at_once k j k (same k) w.1
  eval_between s (Bracketed e) k j w = eval_between s e k j w
  eval_between s (Attribute e n) k j w =
      let f : Value → ℕ → Outcome Value = λ v i. lift (attribute s.view v n) i in
      either (λ p. in_first (eval s e k) k j f (λ v i. same i) (eval_between s e k j p))
      (λ b. behind_first (eval s e k) k j f (λ v i. TextWants (attribute s.view v n) j i) (eval_rises s e k) (λ v i q. at_once i j i (same i) q.1) b) w
  eval_between s (Subscript e index) k j w =
      let last : Value → Value → ℕ → Outcome Value = λ v u i. lift (indexed v u) i in
      let f : Value → ℕ → Outcome Value = λ v i. bind (eval s index i) (last v) in
      let rises : (v : Value) (i : ℕ) → i ≤ (f v i).next = λ v i. bind_rises (eval s index i) i (last v) (eval_rises s index i) (λ u l. same l) in
      either (λ p. in_first (eval s e k) k j f rises (eval_between s e k j p))
      (λ b. behind_first (eval s e k) k j f (λ v i. (j ≡ i) ⊎ Wants s index i j) (eval_rises s e k)
      (λ v i q. either (λ q. at_once i j (f v i).next (rises v i) q) (λ u. in_first (eval s index i) i j (last v) (λ u l. same l) (eval_between s index i j u)) q) b) w
  eval_between s (Call f es) k j w =
      let g : List Value → ℕ → Outcome Value = λ vs i. called s.task s.view f vs i in
      either (λ p. in_first (eval_row s es k) k j g (λ vs i. called_rises s.task s.view f vs i) (row_between s es k j p))
      (λ b. behind_first (eval_row s es k) k j g (λ vs i. MayWant f vs i j (called s.task s.view f vs i)) (row_rises s es k) (λ vs i q. (q.from, q.to)) b) w
  eval_between s (MethodCall e m) k j w =
      in_first (eval s e k) k j (λ v i. method_value s.task s.view v m i) (λ v i. method_rises s.task s.view v m i) (eval_between s e k j w)
  eval_between s (Unary o e) k j w = in_first (eval s e k) k j (λ v i. lift (unary_value o v) i) (λ v i. same i) (eval_between s e k j w)
  eval_between s (Infix (operation.Binary o) l r) k j w =
      let last : Value → Value → ℕ → Outcome Value = λ a b i. lift (operated s.view o a b) i in
      let f : Value → ℕ → Outcome Value = λ a i. bind (eval s r i) (last a) in
      let rises : (a : Value) (i : ℕ) → i ≤ (f a i).next = λ a i. bind_rises (eval s r i) i (last a) (eval_rises s r i) (λ b l. same l) in
      either (λ p. in_first (eval s l k) k j f rises (eval_between s l k j p))
      (λ b. behind_first (eval s l k) k j f (λ a i. (j ≡ i) ⊎ Wants s r i j) (eval_rises s l k)
      (λ a i q. either (λ q. at_once i j (f a i).next (rises a i) q) (λ u. in_first (eval s r i) i j (last a) (λ b l. same l) (eval_between s r i j u)) q) b) w
  eval_between s (Infix (operation.Bool o) l r) k j w =
      let f : Value → ℕ → Outcome Value = λ a i. decided o (truth a) a i (λ m. eval s r m) in
      either (λ p. in_first (eval s l k) k j f (λ a i. decided_rises o (truth a) a i (λ m. eval s r m) (λ m. eval_rises s r m)) (eval_between s l k j p))
      (λ b. behind_first (eval s l k) k j f (λ a i. IsTrue (goes_on o (truth a)) × Wants s r i j) (eval_rises s l k)
      (λ a i q. in_second o (truth a) a i j (λ m. eval s r m) q.0 (eval_between s r i j q.1)) b) w

  row_between : (s : Scope) (es : Trees) (k j : ℕ) → RowWants s es k j → Between k j (eval_row s es k).next
  row_between s NoTree k j w = absurd w
  row_between s (Then e es) k j w =
      let f : Value → ℕ → Outcome (List Value) = λ v i. bind (eval_row s es i) (λ vs m. gives (v ∷ vs) m) in
      let rises : (v : Value) (i : ℕ) → i ≤ (f v i).next = λ v i. bind_rises (eval_row s es i) i (λ vs m. gives (v ∷ vs) m) (row_rises s es i) (λ vs m. same m) in
      either (λ p. in_first (eval s e k) k j f rises (eval_between s e k j p))
      (λ b. behind_first (eval s e k) k j f (λ v i. (j ≡ i) ⊎ RowWants s es i j) (eval_rises s e k)
      (λ v i q. either (λ q. at_once i j (f v i).next (rises v i) q) (λ u. in_first (eval_row s es i) i j (λ vs m. gives (v ∷ vs) m) (λ vs m. same m) (row_between s es i j u)) q) b) w

  parts_between : (s : Scope) (ps : Parts) (k j : ℕ) → PartsWant s ps k j → Between k j (eval_parts s ps k).next
  parts_between s NoPart k j w = absurd w
  parts_between s (TextThen t ps) k j w =
      let f : List ℕ → ℕ → Outcome (List ℕ) = λ bytes i. gives (t ++ bytes) i in
      let all = bind_rises (eval_parts s ps k) k f (parts_rise s ps k) (λ bytes i. same i) in
      either (λ e. at_once k j (bind (eval_parts s ps k) f).next all e) (λ p. in_first (eval_parts s ps k) k j f (λ bytes i. same i) (parts_between s ps k j p)) w
  parts_between s (FormattedThen e ps) k j w =
      let last : Value → List ℕ → ℕ → Outcome (List ℕ) = λ v bytes i. gives (shown s.view.places v ++ bytes) i in
      let f : Value → ℕ → Outcome (List ℕ) = λ v i. bind (eval_parts s ps i) (last v) in
      let rises : (v : Value) (i : ℕ) → i ≤ (f v i).next = λ v i. bind_rises (eval_parts s ps i) i (last v) (parts_rise s ps i) (λ bytes m. same m) in
      either (λ p. in_first (eval s e k) k j f rises (eval_between s e k j p))
      (λ b. behind_first (eval s e k) k j f (λ v i. (j ≡ i) ⊎ PartsWant s ps i j) (eval_rises s e k)
      (λ v i q. either (λ q. at_once i j (f v i).next (rises v i) q) (λ u. in_first (eval_parts s ps i) i j (last v) (λ bytes m. same m) (parts_between s ps i j u)) q) b) w
