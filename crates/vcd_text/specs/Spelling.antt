-- How a VCD text spells the step of time, signals and their values (IEEE 1364-2005, clauses 18.2.1 to 18.2.3).
use Rattle.std.specs.Prelude.{ℕ, zero, suc, ◌+◌, ◌*◌, ◌/◌, ◌%◌, ◌^◌, ◌==◌, ◌||◌, nat_lt, Bool, List, [], ◌∷◌, ◌++◌, codes, Option, None, Some, if◌then◌else◌, length}
use Rattle.std.specs.Fmt.{decimal}
use Rattle.std.specs.Option.{option_or}

-- a line of a text, with its line feed
abbrev pub line : List ℕ → List ℕ
line text = text ++ 10 ∷ []

-- ---- the step of time (clause 18.2.3, `$timescale`)

-- a unit of time: its length in femtoseconds, and its name
pub record TimeUnit : Type 0 where
  pub femtoseconds : ℕ
  pub name : List ℕ

-- the units, the greatest first
abbrev pub time_units : List TimeUnit
time_units =
    record { femtoseconds = 10 ^ 15; name = codes "s" }
    ∷ record { femtoseconds = 10 ^ 12; name = codes "ms" }
    ∷ record { femtoseconds = 10 ^ 9; name = codes "us" }
    ∷ record { femtoseconds = 10 ^ 6; name = codes "ns" }
    ∷ record { femtoseconds = 10 ^ 3; name = codes "ps" }
    ∷ record { femtoseconds = 1; name = codes "fs" }
    ∷ []

-- a step that is 1, 10 or 100 of the unit, as it is spelled
abbrev pub step_in : ℕ → TimeUnit → Option (List ℕ)
step_in step unit =
    if step == unit.femtoseconds then Some (codes "1 " ++ unit.name)
    else (if step == 10 * unit.femtoseconds then Some (codes "10 " ++ unit.name)
    else (if step == 100 * unit.femtoseconds then Some (codes "100 " ++ unit.name) else None))

abbrev pub step_among : ℕ → List TimeUnit → Option (List ℕ)
step_among step [] = None
step_among step (unit ∷ units) = option_or (step_in step unit) (step_among step units)

-- a step of so many femtoseconds, by the greatest unit of which it is 1, 10 or 100; none where there is no such unit
abbrev pub spelled_step : ℕ → Option (List ℕ)
spelled_step step = step_among step time_units

-- ---- codes of signals (clause 18.2.1)

-- the digits of a number in base 94, the lowest first, each as the byte 33 on from it, where so many digits suffice
abbrev pub code_digits : ℕ → ℕ → List ℕ
code_digits zero number = []
code_digits (suc digits) number = (33 + number % 94) ∷ (if nat_lt number 94 then [] else code_digits digits (number / 94))

-- the code of a signal, by its number
abbrev pub code : ℕ → List ℕ
code signal = code_digits (suc signal) signal

-- ---- values (clause 18.2.2)

-- a digit as it is written: 0, 1, x or z
abbrev pub is_digit : ℕ → Bool
is_digit byte = (byte == 48) || (byte == 49) || (byte == 120) || (byte == 122)

-- one digit, or a vector with a blank behind it; the digits are written the highest first
abbrev pub value_front : List ℕ → List ℕ
value_front digits = if length digits == 1 then digits else codes "b" ++ digits ++ codes " "

-- the line after which a signal has these digits
abbrev pub value_line : ℕ → List ℕ → List ℕ
value_line signal digits = line (value_front digits ++ code signal)

-- the line that tells the time of those behind it, in steps
abbrev pub time_line : ℕ → List ℕ
time_line time = line (codes "#" ++ decimal time)
