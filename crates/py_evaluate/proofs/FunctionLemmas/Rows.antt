-- Triggers one after the other.
use Rattle.std.proofs.Common.{◌≡◌, ℕ, suc, ◌+◌, ◌<◌, ◌≤◌, List, [], ◌∷◌, ◌++◌, length, drop, get_or, Ok, Err, refl, ap, sym, subst, ◌∙◌, add-one, arith}
use Rattle.std.proofs.Math.Seq.{drop-cons}
use Rattle.std.proofs.lemmas.List.{drop_all}
use Rattle.py_syntax.specs.declared.fault_kind.FaultKind.{FaultKind}
use Rattle.py_value.specs.Answer.{Answer}
use Rattle.py_value.specs.Trigger.{Trig, Trigs, NoTrig, Then, row}
use Rattle.py_value.specs.declared.trigger.TaskNo.{TaskNo}
use Rattle.py_value.specs.declared.value.Value.{Value}
use Rattle.py_evaluate.specs.declared.attribute.fault.OperationFault.{OperationFault}
use Rattle.py_evaluate.specs.declared.attribute.fault.OperationFault.TheVariants as faults
use Rattle.py_evaluate.specs.Attribute.Outcome.{Outcome, EndsByFault, gives, refuses, bind, after}
use Rattle.py_evaluate.proofs.AttributeLemmas.Onward.{bind_rises}
use Rattle.py_evaluate.specs.Function.Making.{as_trigger, as_triggers}
use Rattle.py_evaluate.proofs.FunctionLemmas.Onward.{all_rise}

-- triggers in front of others
pub joined : List Trig → Trigs → Trigs
joined [] us = us
joined (t ∷ ts) us = Then t (joined ts us)

joined_more : (ts : List Trig) (t : Trig) (us : Trigs) → joined ts (Then t us) ≡ joined (ts ++ t ∷ []) us
unfolding joined
joined_more [] t us = refl
joined_more (x ∷ ts) t us = ap (Then x) (joined_more ts t us)

joined_none : (ts : List Trig) → joined ts NoTrig ≡ row ts
unfolding joined
joined_none [] = refl
joined_none (x ∷ ts) = ap (Then x) (joined_none ts)

-- an outcome behind triggers that were made before
pub behind : List Trig → Outcome Trigs → Outcome Trigs
behind ts o = bind o (λ us k. gives (joined ts us) k)

-- one trigger more
step_at : (ts : List Trig) (t : Trig) (a : Answer Trigs) (k : ℕ)
    → after (after a k (λ us i. gives (Then t us) i)).answer (after a k (λ us i. gives (Then t us) i)).next (λ us k. gives (joined ts us) k) ≡ after a k (λ us i. gives (joined (ts ++ t ∷ []) us) i)
step_at ts t (Ok us) k = ap (λ (q : Trigs). gives q k) (joined_more ts t us)
step_at ts t (Err kind) k = refl

pub behind_step : (task : TaskNo) (ts : List Trig) (v : Value) (vs : List Value) (k j : ℕ) (t : Trig) → as_trigger task v k ≡ gives t j
    → behind ts (as_triggers task (v ∷ vs) k) ≡ behind (ts ++ t ∷ []) (as_triggers task vs j)
unfolding behind
behind_step task ts v vs k j t e =
    let o = as_triggers task vs j in
    ap (λ (p : Outcome Trig). behind ts (bind p (λ t j. bind (as_triggers task vs j) (λ ts i. gives (Then t ts) i)))) e
    ∙ step_at ts t o.answer o.next

pub behind_fault : (task : TaskNo) (ts : List Trig) (v : Value) (vs : List Value) (k j : ℕ) (kind : FaultKind) → as_trigger task v k ≡ refuses kind j
    → behind ts (as_triggers task (v ∷ vs) k) ≡ refuses kind j
unfolding behind
behind_fault task ts v vs k j kind e =
    ap (λ (p : Outcome Trig). behind ts (bind p (λ t j. bind (as_triggers task vs j) (λ ts i. gives (Then t ts) i)))) e

pub behind_none : (task : TaskNo) (ts : List Trig) (k : ℕ) → behind ts (as_triggers task [] k) ≡ gives (row ts) k
unfolding behind
behind_none task ts k = ap (λ (q : Trigs). gives q k) (joined_none ts)

pub behind_begin : (o : Outcome Trigs) → behind [] o ≡ o
unfolding behind joined
behind_begin o = at o.answer o.next
  where
    at : (a : Answer Trigs) (k : ℕ) → after a k (λ us k. gives us k) ≡ record { answer = a; next = k }
    at (Ok us) k = refl
    at (Err kind) k = refl

-- the triggers from a place on
from_place : (task : TaskNo) (ts : List Trig) (vs : List Value) (n : ℕ) (v : Value) (k : ℕ) → n < length vs → v ≡ get_or vs n v
    → behind ts (as_triggers task (drop n vs) k) ≡ behind ts (as_triggers task (v ∷ drop (n + 1) vs) k)
from_place task ts vs n v k h is =
    rw add-one (ap (λ (l : List Value). behind ts (as_triggers task l k)) (drop-cons vs n v h ∙ ap (λ (x : Value). x ∷ drop (suc n) vs) (sym is)))

pub triggers_step : (task : TaskNo) (ts : List Trig) (vs : List Value) (n : ℕ) (v : Value) (k j : ℕ) (t : Trig) (whole : Outcome Trigs)
    → n < length vs → v ≡ get_or vs n v → behind ts (as_triggers task (drop n vs) k) ≡ whole → as_trigger task v k ≡ gives t j
    → behind (ts ++ t ∷ []) (as_triggers task (drop (n + 1) vs) j) ≡ whole
triggers_step task ts vs n v k j t whole h is w e =
    sym (behind_step task ts v (drop (n + 1) vs) k j t e) ∙ (sym (from_place task ts vs n v k h is) ∙ w)

pub triggers_fault : (task : TaskNo) (ts : List Trig) (vs : List Value) (n : ℕ) (v : Value) (k j : ℕ) (fault : OperationFault) (whole : Outcome Trigs)
    → n < length vs → v ≡ get_or vs n v → behind ts (as_triggers task (drop n vs) k) ≡ whole → EndsByFault fault j (as_trigger task v k)
    → EndsByFault fault j whole
triggers_fault task ts vs n v k j (faults.Raised kind) whole h is w e =
    sym w ∙ (from_place task ts vs n v k h is ∙ behind_fault task ts v (drop (n + 1) vs) k j kind e)
triggers_fault task ts vs n v k j faults.OutOfMemory whole h is w e = tt

pub triggers_end : (task : TaskNo) (ts : List Trig) (vs : List Value) (n k : ℕ) (whole : Outcome Trigs)
    → length vs ≤ n → behind ts (as_triggers task (drop n vs) k) ≡ whole → whole ≡ gives (row ts) k
triggers_end task ts vs n k whole h w =
    sym w ∙ (ap (λ (l : List Value). behind ts (as_triggers task l k)) (drop_all n vs h) ∙ behind_none task ts k)

-- ---- the next number on the way is no higher than that of the whole

same : (k : ℕ) → k ≤ k
same k = omega arith

pub rest_within : (task : TaskNo) (ts : List Trig) (vs : List Value) (k : ℕ) (whole : Outcome Trigs) → behind ts (as_triggers task vs k) ≡ whole → k ≤ whole.next
unfolding behind
rest_within task ts vs k whole w =
    subst (λ (o : Outcome Trigs). k ≤ o.next) w
    (bind_rises (as_triggers task vs k) k (λ us i. gives (joined ts us) i) (all_rise task vs k) (λ us i. same i))

pub one_within : (task : TaskNo) (ts : List Trig) (vs : List Value) (n : ℕ) (v : Value) (k : ℕ) (whole : Outcome Trigs)
    → n < length vs → v ≡ get_or vs n v → behind ts (as_triggers task (drop n vs) k) ≡ whole → (as_trigger task v k).next ≤ whole.next
unfolding behind
one_within task ts vs n v k whole h is w =
    let rest = drop (n + 1) vs in
    let o = as_trigger task v k in
    let f : Trig → ℕ → Outcome Trigs = λ t j. bind (as_triggers task rest j) (λ us i. gives (Then t us) i) in
    let one : o.next ≤ (bind o f).next =
    bind_rises o o.next f (same o.next) (λ t j. bind_rises (as_triggers task rest j) j (λ us i. gives (Then t us) i) (all_rise task rest j) (λ us i. same i)) in
    let all : o.next ≤ (behind ts (bind o f)).next = bind_rises (bind o f) o.next (λ us i. gives (joined ts us) i) one (λ us i. same i) in
    subst (λ (p : Outcome Trigs). o.next ≤ p.next) (sym (from_place task ts vs n v k h is) ∙ w) all
