-- How many triggers a row has.
use Rattle.std.proofs.Common.{◌≡◌, List, [], ◌∷◌, length, refl, arith}
use Rattle.py_value.specs.Trigger.{Trig, row}
use Rattle.value_tests.specs.Expressions.Printed.{count}

pub count_row : (ts : List Trig) → count (row ts) ≡ length ts
count_row [] = refl
count_row (t ∷ ts) = omega (arith, count_row ts)
