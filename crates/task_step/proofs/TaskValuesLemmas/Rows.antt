-- Values of a list of things, one after the other.
use Rattle.std.proofs.Common.{◌≡◌, ℕ, suc, ◌+◌, ◌<◌, ◌≤◌, List, [], ◌∷◌, ◌++◌, length, drop, get_or, map, Ok, Err, refl, ap, sym, ◌∙◌, add-one, append_assoc}
use Rattle.std.proofs.Math.Seq.{drop-cons}
use Rattle.std.proofs.lemmas.List.{drop_all}
use Rattle.py_syntax.specs.ExpressionTrees.{view}
use Rattle.py_syntax.specs.declared.expression.Expression.{Expression}
use Rattle.py_value.specs.Answer.{Answer}
use Rattle.py_value.specs.declared.value.Value.{Value}
use Rattle.py_evaluate.specs.declared.attribute.fault.OperationFault.{OperationFault}
use Rattle.py_evaluate.specs.declared.attribute.fault.OperationFault.TheVariants as faults
use Rattle.py_evaluate.specs.Attribute.Knows.{Knows, KnowsAll}
use Rattle.py_evaluate.specs.Attribute.Look.{View}
use Rattle.py_evaluate.specs.Attribute.Outcome.{Outcome, Scope, EndsByFault, gives, bind, after}
use Rattle.py_evaluate.specs.Eval.{eval}
use Rattle.test_meaning.specs.Body.Views.{view_operand}
use Rattle.test_meaning.specs.declared.body.call.Operand.{Operand}
use Rattle.rig_model.specs.Task.Moves.{eval_all}
use Rattle.rig_model.specs.Task.Calls.{Argument, eval_operands}

-- what each of some things gives
abbrev pub row : {A B : Type 0} → (A → ℕ → Outcome B) → List A → ℕ → Outcome (List B)
row f [] k = gives [] k
row f (a ∷ xs) k = bind (f a k) (λ b j. bind (row f xs j) (λ bs i. gives (b ∷ bs) i))

-- a list behind another one
pub behind : {A : Type 0} → List A → Outcome (List A) → Outcome (List A)
behind xs o = bind o (λ ys k. gives (xs ++ ys) k)

pub behind_none : {A : Type 0} (o : Outcome (List A)) → behind [] o ≡ o
unfolding behind
behind_none o = at o.answer o.next
  where
    at : {A : Type 0} (a : Answer (List A)) (k : ℕ) → after a k (λ ys k. gives ys k) ≡ record { answer = a; next = k }
    at (Ok ys) k = refl
    at (Err kind) k = refl

behind_more : {A : Type 0} (xs ys : List A) (a : Answer (List A)) (k : ℕ)
    → behind xs (after a k (λ zs i. gives (ys ++ zs) i)) ≡ behind (xs ++ ys) (record { answer = a; next = k })
unfolding behind
behind_more xs ys (Ok zs) k = ap (λ (q : List _). gives q k) (sym (append_assoc xs ys zs))
behind_more xs ys (Err kind) k = refl

-- the first, and then the others
abbrev and_others : {A B : Type 0} → (A → ℕ → Outcome B) → List A → Outcome B → Outcome (List B)
and_others f xs o = bind o (λ b j. bind (row f xs j) (λ bs i. gives (b ∷ bs) i))

from_place : {A B : Type 0} (f : A → ℕ → Outcome B) (xs : List A) (n : ℕ) (a : A) (k : ℕ) → n < length xs → a ≡ get_or xs n a
    → row f (drop n xs) k ≡ and_others f (drop (n + 1) xs) (f a k)
from_place f xs n a k h is =
    rw add-one (ap (λ (l : List _). row f l k) (drop-cons xs n a h ∙ ap (λ (x : _). x ∷ drop (suc n) xs) (sym is)))

pub row_step : {A B : Type 0} (f : A → ℕ → Outcome B) (xs : List A) (n : ℕ) (a : A) (bs : List B) (k j : ℕ) (b : B) (whole : Outcome (List B))
    → n < length xs → a ≡ get_or xs n a → behind bs (row f (drop n xs) k) ≡ whole → f a k ≡ gives b j
    → behind (bs ++ b ∷ []) (row f (drop (n + 1) xs) j) ≡ whole
row_step f xs n a bs k j b whole h is w g =
    let o = row f (drop (n + 1) xs) j in
    sym (behind_more bs (b ∷ []) o.answer o.next)
    ∙ (sym (ap (λ (p : Outcome _). behind bs (and_others f (drop (n + 1) xs) p)) g)
    ∙ (sym (ap (behind bs) (from_place f xs n a k h is)) ∙ w))

pub row_fault : {A B : Type 0} (f : A → ℕ → Outcome B) (xs : List A) (n : ℕ) (a : A) (bs : List B) (k j : ℕ) (fault : OperationFault) (whole : Outcome (List B))
    → n < length xs → a ≡ get_or xs n a → behind bs (row f (drop n xs) k) ≡ whole → EndsByFault fault j (f a k) → EndsByFault fault j whole
unfolding behind
row_fault f xs n a bs k j (faults.Raised kind) whole h is w g =
    sym w ∙ (ap (behind bs) (from_place f xs n a k h is) ∙ ap (λ (p : Outcome _). behind bs (and_others f (drop (n + 1) xs) p)) g)
row_fault f xs n a bs k j faults.OutOfMemory whole h is w g = tt

pub row_end : {A B : Type 0} (f : A → ℕ → Outcome B) (xs : List A) (n : ℕ) (bs : List B) (k : ℕ) (whole : Outcome (List B))
    → length xs ≤ n → behind bs (row f (drop n xs) k) ≡ whole → whole ≡ gives bs k
unfolding behind
row_end f xs n bs k whole h w =
    sym w ∙ (ap (λ (l : List _). behind bs (row f l k)) (drop_all n xs h) ∙ ap (λ (q : List _). gives q k) (append_nil bs))
  where
    append_nil : {A : Type 0} (xs : List A) → xs ++ [] ≡ xs
    append_nil [] = refl
    append_nil (x ∷ xs) = ap (λ (q : List _). x ∷ q) (append_nil xs)

-- ---- expressions

abbrev pub expression_value : Scope → Expression → ℕ → Outcome Value
expression_value s e k = eval s (view e) k

after_same : {A B : Type 0} (a : Answer A) (k : ℕ) (f g : A → ℕ → Outcome B) → ((x : A) (i : ℕ) → f x i ≡ g x i) → after a k f ≡ after a k g
after_same (Ok x) k f g h = h x k
after_same (Err kind) k f g h = refl

pub all_row : (s : Scope) (es : List Expression) (k : ℕ) → row (expression_value s) es k ≡ eval_all s (map view es) k
all_row s [] k = refl
all_row s (e ∷ es) k =
    after_same (eval s (view e) k).answer (eval s (view e) k).next (λ v j. bind (row (expression_value s) es j) (λ vs i. gives (v ∷ vs) i))
    (λ v j. bind (eval_all s (map view es) j) (λ vs i. gives (v ∷ vs) i))
    (λ v j. ap (λ (o : Outcome (List Value)). bind o (λ vs i. gives (v ∷ vs) i)) (all_row s es j))

pub known_more : (view : View) (vs : List Value) (v : Value) → KnowsAll view vs → Knows view v → KnowsAll view (vs ++ v ∷ [])
known_more view [] v h k = (k, tt)
known_more view (x ∷ vs) v h k = (h.0, known_more view vs v h.1 k)

-- ---- operands

abbrev pub given_to : Operand → Value → Argument
given_to o v = record { parameter = o.parameter; value = v }

abbrev pub operand_value : Scope → Operand → ℕ → Outcome Argument
operand_value s o k = bind (eval s (view o.value) k) (λ v j. gives (given_to o v) j)

operand_first : (x : Value → Argument) (a : Answer Value) (k : ℕ) (rest : ℕ → Outcome (List Argument))
    → bind (after a k (λ v j. gives (x v) j)) (λ y j. bind (rest j) (λ ys i. gives (y ∷ ys) i)) ≡ after a k (λ v j. bind (rest j) (λ ys i. gives (x v ∷ ys) i))
operand_first x (Ok v) k rest = refl
operand_first x (Err kind) k rest = refl

pub operands_row : (s : Scope) (os : List Operand) (k : ℕ) → row (operand_value s) os k ≡ eval_operands s (map view_operand os) k
operands_row s [] k = refl
operands_row s (o ∷ os) k =
    operand_first (given_to o) (eval s (view o.value) k).answer (eval s (view o.value) k).next (λ j. row (operand_value s) os j)
    ∙ after_same (eval s (view o.value) k).answer (eval s (view o.value) k).next
    (λ v j. bind (row (operand_value s) os j) (λ xs i. gives (given_to o v ∷ xs) i)) (λ v j. bind (eval_operands s (map view_operand os) j) (λ xs i. gives (given_to o v ∷ xs) i))
    (λ v j. ap (λ (p : Outcome (List Argument)). bind p (λ xs i. gives (given_to o v ∷ xs) i)) (operands_row s os j))

pub operand_given : (s : Scope) (o : Operand) (k j : ℕ) (v : Value) → eval s (view o.value) k ≡ gives v j → operand_value s o k ≡ gives (given_to o v) j
operand_given s o k j v e = ap (λ (p : Outcome Value). bind p (λ w i. gives (given_to o w) i)) e

pub operand_fault : (s : Scope) (o : Operand) (k j : ℕ) (fault : OperationFault) → EndsByFault fault j (eval s (view o.value) k) → EndsByFault fault j (operand_value s o k)
operand_fault s o k j (faults.Raised kind) e = ap (λ (p : Outcome Value). bind p (λ w i. gives (given_to o w) i)) e
operand_fault s o k j faults.OutOfMemory e = tt
