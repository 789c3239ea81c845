-- Where memory runs out in a call, and with which next number.
use Rattle.std.proofs.Common.{◌≡◌, ℕ, ◌≤◌, Bool, true, false, if◌then◌else◌, Ok, ap, refl, arith, List}
use Rattle.std.specs.Prelude.{Result, is_ok, IsTrue}
use Rattle.std.specs.List.{list_all}
use Rattle.py_syntax.specs.declared.expression.Function.{Function}
use Rattle.py_syntax.specs.declared.expression.Function.TheVariants as function
use Rattle.py_syntax.specs.declared.fault_kind.FaultKind.TheVariants.{TypeError}
use Rattle.py_value.specs.Answer.{Answer}
use Rattle.py_value.specs.Trigger.{Trigs, Form}
use Rattle.py_value.specs.declared.trigger.Trigs.{Trigs as Made}
use Rattle.py_value.specs.declared.trigger.TaskNo.{TaskNo}
use Rattle.py_value.specs.declared.value.Value.{Value}
use Rattle.py_evaluate.specs.declared.attribute.fault.OperationFault.{OperationFault}
use Rattle.py_evaluate.specs.Attribute.Gives.{IfWant}
use Rattle.py_evaluate.specs.Attribute.Outcome.{Outcome, refuses, lift}
use Rattle.py_evaluate.proofs.AttributeLemmas.Want.{want_map, wants}
use Rattle.py_evaluate.specs.Function.Functions.{MayWant, argument, takes_memory}
use Rattle.py_evaluate.specs.Function.Making.{is_waitable, as_triggers, parts, several}

-- all other functions take none
pub others : (f : Function) → (f ≡ function.Str → ⊥) → (f ≡ function.First → ⊥) → (f ≡ function.Combine → ⊥) → takes_memory f ≡ false
others function.Str a b c = absurd (a refl)
others function.First a b c = absurd (b refl)
others function.Combine a b c = absurd (c refl)
others _ a b c = refl

-- a text makes no trigger
pub text_wants : (result : Result Value OperationFault) (vs : List Value) (answer : Answer Value) (k : ℕ)
    → IfWant result (IsTrue (is_ok (argument vs 0))) → IfWant result (MayWant function.Str vs k k (lift answer k))
text_wants result vs answer k w =
    want_map result (IsTrue (is_ok (argument vs 0))) (MayWant function.Str vs k k (lift answer k)) (λ t. record { takes = t; from = omega arith; to = omega arith }) w

-- of an argument that is given
pub given_wants : (result : Result Value OperationFault) (vs : List Value) (v : Value) → argument vs 0 ≡ Ok v → IfWant result (IsTrue (is_ok (argument vs 0)))
given_wants result vs v e = wants result (IsTrue (is_ok (argument vs 0))) (ap is_ok e)

chosen : (t : Bool) (o p : Outcome Trigs) (j : ℕ) → t ≡ true → j ≤ o.next → j ≤ (if t then o else p).next
chosen true o p j h w = w
chosen false o p j h w = absurd cc

-- the kinds of arguments come first
pub parts_want : (result : Result Made OperationFault) (task : TaskNo) (vs : List Value) (k j : ℕ) → list_all is_waitable vs ≡ true
    → IfWant result (j ≤ (as_triggers task vs k).next) → IfWant result (IsTrue (list_all is_waitable vs) × (j ≤ (parts task vs k).next))
parts_want result task vs k j h w =
    want_map result (j ≤ (as_triggers task vs k).next) (IsTrue (list_all is_waitable vs) × (j ≤ (parts task vs k).next))
    (λ t. (h, chosen (list_all is_waitable vs) (as_triggers task vs k) (refuses TypeError k) j h t)) w

-- what `First` and `Combine` leave on the way
abbrev pub SeveralWant : TaskNo → (Trigs → Form) → List Value → ℕ → ℕ → Type 0
SeveralWant task form vs k j = IsTrue (list_all is_waitable vs) × (j ≤ (several task form vs k).next)

pub first_wants : (result : Result Value OperationFault) (task : TaskNo) (form : Trigs → Form) (vs : List Value) (k j : ℕ) → k ≤ j
    → IfWant result (SeveralWant task form vs k j) → IfWant result (MayWant function.First vs k j (several task form vs k))
first_wants result task form vs k j h w =
    want_map result (SeveralWant task form vs k j) (MayWant function.First vs k j (several task form vs k)) (λ t. record { takes = t.0; from = h; to = t.1 }) w

pub combine_wants : (result : Result Value OperationFault) (task : TaskNo) (form : Trigs → Form) (vs : List Value) (k j : ℕ) → k ≤ j
    → IfWant result (SeveralWant task form vs k j) → IfWant result (MayWant function.Combine vs k j (several task form vs k))
combine_wants result task form vs k j h w =
    want_map result (SeveralWant task form vs k j) (MayWant function.Combine vs k j (several task form vs k)) (λ t. record { takes = t.0; from = h; to = t.1 }) w
