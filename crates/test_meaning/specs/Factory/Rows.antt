-- A means of proof: worked factories, by which the definition of their cases is tried.
use Rattle.std.specs.Prelude.{◌≡◌, ℕ, List, [], ◌∷◌, slice_get, Some, codes, pos}
use Rattle.py_syntax.specs.declared.constant.Const.{Const}
use Rattle.py_syntax.specs.declared.constant.Const.TheVariants as constant
use Rattle.test_meaning.specs.Factory.Product.{Choice, Chosen, product, case_count}

abbrev pub whole : ℕ → Const
whole n = constant.Whole (pos n)

abbrev pub x : List Const → Choice
x cs = record { name = codes "x"; values = cs }

abbrev pub y : List Const → Choice
y cs = record { name = codes "y"; values = cs }

-- x of [0, 1], and y of [0, 1, 2]
abbrev pub worked : List Choice
worked = x (whole 0 ∷ whole 1 ∷ []) ∷ y (whole 0 ∷ whole 1 ∷ whole 2 ∷ []) ∷ []

-- these two values
abbrev pub case_of : ℕ → ℕ → List Chosen
case_of m n = record { name = codes "x"; value = whole m } ∷ record { name = codes "y"; value = whole n } ∷ []

-- The worked factory has these six cases, of which number 3 has x = 1 and y = 0. Without an option there is one case, and none where a list
-- is empty.
abbrev pub Worked_rows : Type 0
Worked_rows =
    (case_count worked ≡ 6) × (slice_get (product worked) 3 ≡ Some (case_of 1 0))
    × (product worked ≡ case_of 0 0 ∷ case_of 0 1 ∷ case_of 0 2 ∷ case_of 1 0 ∷ case_of 1 1 ∷ case_of 1 2 ∷ [])
    × (case_count [] ≡ 1) × (product [] ≡ [] ∷ [])
    × (case_count (x (whole 0 ∷ whole 1 ∷ []) ∷ y [] ∷ []) ≡ 0) × (product (x (whole 0 ∷ whole 1 ∷ []) ∷ y [] ∷ []) ≡ [])
    × (product (x [] ∷ y (whole 0 ∷ []) ∷ []) ≡ [])
