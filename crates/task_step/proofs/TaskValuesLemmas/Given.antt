-- What parameters are given.
use Rattle.std.proofs.Common.{◌≡◌, ℕ, suc, zero, ◌+◌, ◌<◌, ◌≤◌, Bool, true, false, List, [], ◌∷◌, ◌++◌, length, drop, map, Option, Some, None, refl, ap, sym, ◌∙◌, add-one, append_assoc, append-nil, arith}
use Rattle.std.specs.Prelude.{◌==◌, if◌then◌else◌, cond}
use Rattle.std.specs.List.{find}
use Rattle.std.proofs.lemmas.List.{drop_all}
use Rattle.py_value.specs.declared.value.Value.{Value}
use Rattle.py_value.specs.declared.value.Value.TheVariants.{Absent}
use Rattle.test_meaning.specs.Body.Views.{view_operand}
use Rattle.test_meaning.specs.declared.body.call.Operand.{Operand}
use Rattle.rig_model.specs.Task.Calls as calls
use Rattle.task_step.specs.TaskValues.Arguments.{argument_in, arguments_in}
use Rattle.task_step.specs.declared.task_values.operands.Argument.{Argument}

abbrev pub value_or : Value → Option Argument → Value
value_or other None = other
value_or other (Some x) = x.value

one_found : (t : Bool) (n : ℕ) (other : Value) (x : Argument) (xs : List Argument) → calls.argument n other (arguments_in xs) ≡ value_or other (find (λ (y : Argument). y.parameter == n) xs)
    → (if t then x.value else calls.argument n other (arguments_in xs)) ≡ value_or other (cond t (Some x) (find (λ (y : Argument). y.parameter == n) xs))
one_found true n other x xs e = refl
one_found false n other x xs e = e

-- a parameter is given the first argument that is for it
pub found : (n : ℕ) (other : Value) (xs : List Argument) → calls.argument n other (arguments_in xs) ≡ value_or other (find (λ (y : Argument). y.parameter == n) xs)
found n other [] = refl
found n other (x ∷ xs) = one_found (x.parameter == n) n other x xs (found n other xs)

pub arguments_more : (xs : List Argument) (x : Argument) → arguments_in (xs ++ x ∷ []) ≡ arguments_in xs ++ argument_in x ∷ []
arguments_more [] x = refl
arguments_more (y ∷ ys) x = ap (λ (q : List calls.Argument). argument_in y ∷ q) (arguments_more ys x)

-- ---- all parameters, from one on

abbrev pub from_parameter : List Operand → ℕ → List Argument → List Value
from_parameter os n xs = calls.arguments n (map view_operand (drop n os)) (arguments_in xs)

first_argument : (os : List Operand) (i n : ℕ) (xs : List calls.Argument) → i < length os
    → calls.arguments n (map view_operand (drop i os)) xs ≡ calls.argument n Absent xs ∷ calls.arguments (suc n) (map view_operand (drop (suc i) os)) xs
first_argument [] i n xs h = absurd (omega arith)
first_argument (o ∷ os) zero n xs h = refl
first_argument (o ∷ os) (suc i) n xs h = first_argument os i n xs (omega arith)

pub arguments_step : (os : List Operand) (n : ℕ) (xs : List Argument) (vs : List Value) (v : Value) (whole : List Value) → n < length os
    → vs ++ from_parameter os n xs ≡ whole → v ≡ calls.argument n Absent (arguments_in xs) → (vs ++ v ∷ []) ++ from_parameter os (n + 1) xs ≡ whole
arguments_step os n xs vs v whole h w e =
    rw add-one (append_assoc vs (v ∷ []) (from_parameter os (suc n) xs)
    ∙ (ap (λ (u : Value). vs ++ u ∷ from_parameter os (suc n) xs) e ∙ (sym (ap (λ (q : List Value). vs ++ q) (first_argument os n n (arguments_in xs) h)) ∙ w)))

pub arguments_end : (os : List Operand) (n : ℕ) (xs : List Argument) (vs : List Value) (whole : List Value) → length os ≤ n
    → vs ++ from_parameter os n xs ≡ whole → vs ≡ whole
arguments_end os n xs vs whole h w =
    sym (append-nil vs) ∙ (sym (ap (λ (l : List Operand). vs ++ calls.arguments n (map view_operand l) (arguments_in xs)) (drop_all n os h)) ∙ w)
