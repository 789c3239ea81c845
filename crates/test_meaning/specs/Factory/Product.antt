-- The cases of a factory (cocotb 1.8, `TestFactory.generate_tests`).
use Rattle.std.specs.Prelude.{ℕ, ◌*◌, ◌/◌, ◌%◌, slice_index_or, List, [], ◌∷◌, length, map}
use Rattle.std.specs.List.{flat_map}
use Rattle.py_syntax.specs.declared.constant.Const.{Const}
use Rattle.py_syntax.specs.declared.constant.Const.TheVariants as constant

-- an option, and the values that it takes
pub record Choice : Type 0 where
  pub name : List ℕ
  pub values : List Const

-- an option's value in a case
pub record Chosen : Type 0 where
  pub name : List ℕ
  pub value : Const

abbrev pub with_first : List ℕ → List (List Chosen) → Const → List (List Chosen)
with_first n rest c = map (λ cs. record { name = n; value = c } ∷ cs) rest

-- every choice of one value for each option; the first option changes slowest
abbrev pub product : List Choice → List (List Chosen)
product [] = [] ∷ []
product (o ∷ os) = flat_map (with_first o.name (product os)) o.values

-- how many there are
abbrev pub case_count : List Choice → ℕ
case_count [] = 1
case_count (o ∷ os) = length o.values * case_count os

-- how many there are at most
abbrev pub case_limit : ℕ
case_limit = 65536

-- the case of this number, from 0: its digits, of which the last option's is the last
abbrev pub case_at : List Choice → ℕ → List Chosen
case_at [] i = []
case_at (o ∷ os) i =
    record { name = o.name; value = slice_index_or o.values (i / case_count os) constant.Absent } ∷ case_at os (i % case_count os)
