-- A time that isn't refused can be waited for, and so can half a clock's period.
use Rattle.std.proofs.Common.{◌≡◌, ℕ, ◌*◌, ◌≤◌, Bool, true, false, Ok, Err, nat_lt, if◌then◌else◌, refl, arith}
use Rattle.std.specs.Prelude.{◌/◌, ◌%◌, ◌==◌, pos, negsuc, IfOk}
use Rattle.std.proofs.lemmas.Bool.Decides.{nat_tests}
use Rattle.std.proofs.Math.Nat.{div-add-mod}
use Rattle.py_syntax.specs.declared.fault_kind.FaultKind.TheVariants.{OverflowError, TypeError, ValueError}
use Rattle.py_value.specs.Answer.{Answer, and_then}
use Rattle.py_value.specs.Limits.{step_limit}
use Rattle.py_value.specs.Trigger.{AreSteps}
use Rattle.py_value.specs.declared.value.Value.{Value}
use Rattle.py_value.specs.Operator.Number.{Number, known, unknown, none, number_of}
use Rattle.py_value.specs.Time.Times.{whole_steps, not_late, exact_steps, steps_of, half_of, half_steps}

positive : (n : ℕ) (t : Bool) → nat_lt 0 n ≡ t → IfOk (if t then Ok n else Err ValueError) (λ s. 1 ≤ s)
positive n true e = grind arith
positive n false e = tt

whole_some : (step_fs fs : ℕ) → IfOk (whole_steps step_fs fs) (λ s. 1 ≤ s)
whole_some step_fs fs = at ((fs % step_fs) == 0)
  where
    at : (t : Bool) → IfOk (if t then (if nat_lt 0 (fs / step_fs) then Ok (fs / step_fs) else Err ValueError) else Err ValueError) (λ s. 1 ≤ s)
    at true = positive (fs / step_fs) (nat_lt 0 (fs / step_fs)) refl
    at false = tt

exact_some : (step_fs : ℕ) (n : Number) (unit : Answer ℕ) → IfOk (exact_steps step_fs n unit) (λ s. 1 ≤ s)
exact_some step_fs none unit = tt
exact_some step_fs unknown (Err TypeError) = tt
exact_some step_fs unknown (Err _) = tt
exact_some step_fs unknown (Ok fs) = tt
exact_some step_fs (known z) (Err TypeError) = tt
exact_some step_fs (known (negsuc n)) (Err _) = tt
exact_some step_fs (known (negsuc n)) (Ok fs) = tt
exact_some step_fs (known (pos n)) (Err _) = tt
exact_some step_fs (known (pos n)) (Ok fs) = whole_some step_fs (n * fs)

late : (n : ℕ) (t : Bool) → nat_lt step_limit n ≡ t → 1 ≤ n → IfOk (if t then Err OverflowError else Ok n) AreSteps
late n true e h = tt
late n false e h = let k : n ≤ step_limit = grind arith in (h, k)

in_time : (a : Answer ℕ) → IfOk a (λ s. 1 ≤ s) → IfOk (and_then a not_late) AreSteps
in_time (Ok n) h = late n (nat_lt step_limit n) refl h
in_time (Err kind) h = tt

pub steps_sound : (step_fs : ℕ) (time : Value) (unit : Answer ℕ) → IfOk (steps_of step_fs time unit) AreSteps
steps_sound step_fs time unit = in_time (exact_steps step_fs (number_of time) unit) (exact_some step_fs (number_of time) unit)

half_in_time : (n : ℕ) → n % 2 ≡ 0 → 1 ≤ n → n ≤ step_limit → AreSteps (n / 2)
half_in_time n even h k =
    let parts = div-add-mod n 2 in
    let some : 1 ≤ n / 2 = omega (arith, even, h, parts) in
    let few : n / 2 ≤ step_limit = omega (arith, k, parts) in
    (some, few)

half_late : (n : ℕ) (t : Bool) → nat_lt step_limit n ≡ t → n % 2 ≡ 0 → 1 ≤ n → IfOk (and_then (if t then Err OverflowError else Ok n) (λ m. Ok (m / 2))) AreSteps
half_late n true e even h = tt
half_late n false e even h = let k : n ≤ step_limit = grind arith in half_in_time n even h k

halved : (n : ℕ) (t : Bool) → ((n % 2) == 0) ≡ t → 1 ≤ n → IfOk (if t then and_then (not_late n) (λ m. Ok (m / 2)) else Err ValueError) AreSteps
halved n true e h = let even : n % 2 ≡ 0 = grind (arith, nat_tests) in half_late n (nat_lt step_limit n) refl even h
halved n false e h = tt

half_sound_of : (a : Answer ℕ) → IfOk a (λ s. 1 ≤ s) → IfOk (and_then a half_of) AreSteps
half_sound_of (Ok n) h = halved n ((n % 2) == 0) refl h
half_sound_of (Err kind) h = tt

pub half_sound : (step_fs : ℕ) (period : Value) (unit : Answer ℕ) → IfOk (half_steps step_fs period unit) AreSteps
half_sound step_fs period unit = half_sound_of (exact_steps step_fs (number_of period) unit) (exact_some step_fs (number_of period) unit)
