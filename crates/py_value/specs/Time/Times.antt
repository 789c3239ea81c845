-- Times in steps, and the time in a unit (cocotb 1.8, `Timer`, `Clock` and `get_sim_time`).
use Rattle.std.specs.Prelude.{ℕ, ◌*◌, ◌/◌, ◌%◌, ◌^◌, ◌==◌, nat_lt, if◌then◌else◌, List, codes, Option, Some, None, Ok, Err, pos, negsuc}
use Rattle.std.specs.Str.{bytes_eq}
use Rattle.py_syntax.specs.declared.fault_kind.FaultKind.TheVariants.{TypeError, ValueError, OverflowError}
use Rattle.py_value.specs.Integer.Integer.{held}
use Rattle.py_value.specs.Answer.{Answer, and_then}
use Rattle.py_value.specs.Limits.{step_limit}
use Rattle.py_value.specs.declared.value.Value.{Value}
use Rattle.py_value.specs.declared.value.Value.TheVariants.{Text}
use Rattle.py_value.specs.Operator.Number.{Number, known, unknown, none, number_of, whole}

-- the femtoseconds of a unit, where a step has so many
abbrev pub unit_fs : ℕ → List ℕ → Option ℕ
unit_fs step_fs u =
    if bytes_eq u (codes "step") then Some step_fs
    else (if bytes_eq u (codes "fs") then Some 1
    else (if bytes_eq u (codes "ps") then Some (10 ^ 3)
    else (if bytes_eq u (codes "ns") then Some (10 ^ 6)
    else (if bytes_eq u (codes "us") then Some (10 ^ 9)
    else (if bytes_eq u (codes "ms") then Some (10 ^ 12)
    else (if bytes_eq u (codes "sec") then Some (10 ^ 15)
    else None))))))

abbrev pub known_unit : Option ℕ → Answer ℕ
known_unit (Some fs) = Ok fs
known_unit None = Err ValueError

-- the unit that a value names
abbrev pub unit_of : ℕ → Value → Answer ℕ
unit_of step_fs (Text u) = known_unit (unit_fs step_fs u)
unit_of step_fs _ = Err TypeError

-- so many femtoseconds as steps: a whole number of them, at least one
abbrev pub whole_steps : ℕ → ℕ → Answer ℕ
whole_steps step_fs fs = if (fs % step_fs) == 0 then (if nat_lt 0 (fs / step_fs) then Ok (fs / step_fs) else Err ValueError) else Err ValueError

-- no longer than the longest wait
abbrev pub not_late : ℕ → Answer ℕ
not_late steps = if nat_lt step_limit steps then Err OverflowError else Ok steps

-- a time by its number and its unit: faults of kinds come first
abbrev pub exact_steps : ℕ → Number → Answer ℕ → Answer ℕ
exact_steps step_fs none unit = Err TypeError
exact_steps step_fs n (Err TypeError) = Err TypeError
exact_steps step_fs unknown unit = Err ValueError
exact_steps step_fs (known (negsuc n)) unit = Err ValueError
exact_steps step_fs (known (pos n)) unit = and_then unit (λ fs. whole_steps step_fs (n * fs))

-- a time in a unit, which has so many femtoseconds or is refused
abbrev pub steps_of : ℕ → Value → Answer ℕ → Answer ℕ
steps_of step_fs time unit = and_then (exact_steps step_fs (number_of time) unit) not_late

-- half a clock's period, which is even
abbrev pub half_of : ℕ → Answer ℕ
half_of steps = if (steps % 2) == 0 then and_then (not_late steps) (λ n. Ok (n / 2)) else Err ValueError

abbrev pub half_steps : ℕ → Value → Answer ℕ → Answer ℕ
half_steps step_fs period unit = and_then (exact_steps step_fs (number_of period) unit) half_of

-- a time of so many femtoseconds in a unit that has so many
abbrev pub in_unit : ℕ → ℕ → Answer Value
in_unit fs unit = if (fs % unit) == 0 then whole (held (pos (fs / unit))) else Err ValueError

-- the time of so many steps in a unit
abbrev pub time_in : ℕ → ℕ → Answer ℕ → Answer Value
time_in step_fs now unit = and_then unit (in_unit (now * step_fs))
