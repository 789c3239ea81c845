-- A means of proof: the code's options and cases, for the proofs of the check of a tests file.
use Rattle.std.specs.Prelude.{ℕ, List, map}
use Rattle.std.specs.declared.vec.Vec.{Vec}
use Rattle.py_syntax.specs.declared.constant.Const.{Const}
use Rattle.test_meaning.specs.Factory.Product.{Choice, Chosen}

abbrev pub choice : {Z : Type 0} → List ℕ × Vec Const Z → Choice
choice o = record { name = o.0; values = o.1.items }

abbrev pub choices : {Z : Type 0} → List (List ℕ × Vec Const Z) → List Choice
choices os = map choice os

abbrev pub chosen : List ℕ × Const → Chosen
chosen c = record { name = c.0; value = c.1 }
