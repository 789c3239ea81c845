-- What the operators give. Clauses are those of IEEE 1364-2005.
use Rattle.std.specs.Prelude.{List, map, length, replicate}
use Rattle.four_value.specs.declared.Digit.{Digit}
use Rattle.four_value.specs.declared.Digit.TheVariants.{Zero, One, X, Z}
use Rattle.four_value.specs.Vector.{map2, and_digit, or_digit, xor_digit, not_digit, merge_digit, add, sub, mul, div, rem, less, equal, case_equal, reduce, shl, shr}
use Rattle.gpi.specs.declared.operators.Unary.{Unary}
use Rattle.gpi.specs.declared.operators.Unary.TheVariants.{Plus, Minus, Invert}
use Rattle.gpi.specs.declared.operators.Arith.{Arith}
use Rattle.gpi.specs.declared.operators.Arith.TheVariants.{And, Or, Xor, Xnor, Add, Sub, Mul, Div, Rem}
use Rattle.gpi.specs.declared.operators.Compare.{Compare}
use Rattle.gpi.specs.declared.operators.Compare.TheVariants.{Equal, Differ, CaseEqual, CaseDiffer, Less, AtMost, Above, AtLeast}
use Rattle.gpi.specs.declared.operators.Logic.{Logic}
use Rattle.gpi.specs.declared.operators.Logic.TheVariants.{Both, Either}
use Rattle.gpi.specs.declared.operators.Reduce.{Reduce}
use Rattle.gpi.specs.declared.operators.Reduce.TheVariants.{All, Any, Parity, NotAll, NotAny, NotParity, Not}
use Rattle.gpi.specs.declared.operators.Shift.{Shift}
use Rattle.gpi.specs.declared.operators.Shift.TheVariants.{Up, Down}

-- the truth of a vector: 1 where a digit is 1, 0 where all are 0, else x
abbrev pub truth : List Digit → Digit
truth xs = reduce or_digit Zero xs

-- the zero of a vector's width
abbrev pub zero_like : List Digit → List Digit
zero_like xs = replicate (length xs) Zero

-- `+` is arithmetic too, so that an unknown digit gives all x
abbrev pub unary_value : Unary → List Digit → List Digit
unary_value Plus xs = add (zero_like xs) xs
unary_value Minus xs = sub (zero_like xs) xs
unary_value Invert xs = map not_digit xs

abbrev pub arith_value : Arith → List Digit → List Digit → List Digit
arith_value And xs ys = map2 and_digit xs ys
arith_value Or xs ys = map2 or_digit xs ys
arith_value Xor xs ys = map2 xor_digit xs ys
arith_value Xnor xs ys = map not_digit (map2 xor_digit xs ys)
arith_value Add xs ys = add xs ys
arith_value Sub xs ys = sub xs ys
arith_value Mul xs ys = mul xs ys
arith_value Div xs ys = div xs ys
arith_value Rem xs ys = rem xs ys

abbrev pub compare_value : Compare → List Digit → List Digit → Digit
compare_value Equal xs ys = equal xs ys
compare_value Differ xs ys = not_digit (equal xs ys)
compare_value CaseEqual xs ys = case_equal xs ys
compare_value CaseDiffer xs ys = not_digit (case_equal xs ys)
compare_value Less xs ys = less xs ys
compare_value AtMost xs ys = not_digit (less ys xs)
compare_value Above xs ys = less ys xs
compare_value AtLeast xs ys = not_digit (less xs ys)

abbrev pub logic_value : Logic → List Digit → List Digit → Digit
logic_value Both xs ys = and_digit (truth xs) (truth ys)
logic_value Either xs ys = or_digit (truth xs) (truth ys)

abbrev pub reduce_value : Reduce → List Digit → Digit
reduce_value All xs = reduce and_digit One xs
reduce_value Any xs = reduce or_digit Zero xs
reduce_value Parity xs = reduce xor_digit Zero xs
reduce_value NotAll xs = not_digit (reduce and_digit One xs)
reduce_value NotAny xs = not_digit (reduce or_digit Zero xs)
reduce_value NotParity xs = not_digit (reduce xor_digit Zero xs)
reduce_value Not xs = not_digit (truth xs)

abbrev pub shift_value : Shift → List Digit → List Digit → List Digit
shift_value Up xs ys = shl xs ys
shift_value Down xs ys = shr xs ys

-- the branch of `?:` by the truth of its condition
abbrev pub choose : Digit → List Digit → List Digit → List Digit
choose One xs ys = xs
choose Zero xs ys = ys
choose X xs ys = map2 merge_digit xs ys
choose Z xs ys = map2 merge_digit xs ys
