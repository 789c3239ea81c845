-- One evaluation after another.
use Rattle.std.proofs.Common.{◌≡◌, ℕ, ◌≤◌, Ok, Err, ap, sym, subst, inl, inr, ◌⊎◌, arith}
use Rattle.std.specs.Prelude.{Result, IfOk}
use Rattle.py_value.specs.Answer.{Answer}
use Rattle.py_value.specs.declared.value.Value.{Value}
use Rattle.py_evaluate.specs.declared.attribute.fault.OperationFault.{OperationFault}
use Rattle.py_evaluate.specs.declared.attribute.fault.OperationFault.TheVariants as faults
use Rattle.py_evaluate.specs.Attribute.Gives.{Gives, IfWant, OnWant}
use Rattle.py_evaluate.specs.Attribute.Knows.{Knows}
use Rattle.py_evaluate.specs.Attribute.Look.{View}
use Rattle.py_evaluate.specs.Attribute.Outcome.{Outcome, EndsByFault, Ends, Evaluates, gives, lift, bind}
use Rattle.py_evaluate.proofs.AttributeLemmas.Want.{want_map, want_on}
use Rattle.py_evaluate.specs.Wants.{Behind}

-- a fault of the first is the fault of both
pub fault_first : {A B : Type 0} (o : Outcome A) (f : A → ℕ → Outcome B) (fault : OperationFault) (j : ℕ) → EndsByFault fault j o → EndsByFault fault j (bind o f)
fault_first o f (faults.Raised kind) j e = ap (λ p. bind p f) e
fault_first o f faults.OutOfMemory j e = tt

-- a value of the first is handed on
pub value_first : {A B : Type 0} (o : Outcome A) (f : A → ℕ → Outcome B) (a : A) (j : ℕ) (result : Result B OperationFault) (k : ℕ)
    → o ≡ gives a j → Ends result k (f a j) → Ends result k (bind o f)
value_first o f a j result k e h = subst (λ p. Ends result k (bind p f)) (sym e) h

-- an answer makes no trigger
pub answer_ends : (answer : Answer Value) (result : Result Value OperationFault) (j : ℕ) → Gives answer result → Ends result j (lift answer j)
answer_ends answer (Ok v) j e = ap (λ a. lift a j) e
answer_ends answer (Err (faults.Raised kind)) j e = ap (λ a. lift a j) e
answer_ends answer (Err faults.OutOfMemory) j e = tt

pub answer_evaluates : (view : View) (answer : Answer Value) (result : Result Value OperationFault) (old j : ℕ) (W : Type 0)
    → Gives answer result → IfOk result (Knows view) → old ≤ j → IfWant result W → Evaluates view result old j (lift answer j) W
answer_evaluates view answer result old j W e k h w = record { ends = answer_ends answer result j e; known = k; rises = h; want = w }

-- ---- a fault of the first, or want of memory in it

pub fault_evaluates : {A : Type 0} (view : View) (o : Outcome A) (f : A → ℕ → Outcome Value) (fault : OperationFault) (old j : ℕ) (P Q : Type 0)
    → EndsByFault fault j o → old ≤ j → OnWant fault P → Evaluates view (Err fault) old j (bind o f) (P ⊎ Q)
fault_evaluates view o f fault old j P Q e h w = record { ends = fault_first o f fault j e; known = tt; rises = h; want = want_on fault P (P ⊎ Q) inl w }

-- where the second takes no memory
pub fault_alone : {A : Type 0} (view : View) (o : Outcome A) (f : A → ℕ → Outcome Value) (fault : OperationFault) (old j : ℕ) (P : Type 0)
    → EndsByFault fault j o → old ≤ j → OnWant fault P → Evaluates view (Err fault) old j (bind o f) P
fault_alone view o f fault old j P e h w = record { ends = fault_first o f fault j e; known = tt; rises = h; want = want_on fault P P (λ p. p) w }

-- ---- a value of the first

pub behind_at : {A : Type 0} (o : Outcome A) (P : A → ℕ → Type 0) (a : A) (j : ℕ) → o ≡ gives a j → P a j → Behind o P
behind_at o P a j e h =
    record { value = a; given = ap (λ (p : Outcome _). p.answer) e; holds = subst (λ i. P a i) (sym (ap (λ (p : Outcome _). p.next) e)) h }

pub value_evaluates : {A : Type 0} (view : View) (o : Outcome A) (f : A → ℕ → Outcome Value) (a : A) (old j : ℕ) (result : Result Value OperationFault) (k : ℕ)
    (P : Type 0) (Q : A → ℕ → Type 0) → o ≡ gives a j → old ≤ j → Evaluates view result j k (f a j) (Q a j) → Evaluates view result old k (bind o f) (P ⊎ Behind o Q)
value_evaluates view o f a old j result k P Q e h r =
    record {
      ends = value_first o f a j result k e r.ends;
      known = r.known;
      rises = omega (arith, h, r.rises);
      want = want_map result (Q a j) (P ⊎ Behind o Q) (λ q. inr (behind_at o Q a j e q)) r.want;
    }

pub value_alone : {A : Type 0} (view : View) (o : Outcome A) (f : A → ℕ → Outcome Value) (a : A) (old j : ℕ) (result : Result Value OperationFault) (k : ℕ) (P : Type 0)
    → o ≡ gives a j → old ≤ j → Evaluates view result j k (f a j) ⊥ → Evaluates view result old k (bind o f) P
value_alone view o f a old j result k P e h r =
    record {
      ends = value_first o f a j result k e r.ends;
      known = r.known;
      rises = omega (arith, h, r.rises);
      want = want_map result ⊥ P (λ q. absurd q) r.want;
    }

-- no memory for a value that waits
pub waits_evaluates : {A : Type 0} (view : View) (o : Outcome A) (f : A → ℕ → Outcome Value) (a : A) (old j : ℕ) (P : Type 0) (Q : A → ℕ → Type 0)
    → o ≡ gives a j → old ≤ j → Q a j → Evaluates view (Err faults.OutOfMemory) old j (bind o f) (P ⊎ Behind o Q)
waits_evaluates view o f a old j P Q e h q = record { ends = tt; known = tt; rises = h; want = inr (behind_at o Q a j e q) }
