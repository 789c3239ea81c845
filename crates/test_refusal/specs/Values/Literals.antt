-- A means of proof: the literals that constants of a module stand for, for the proofs of the check of a tests file.
use Rattle.std.specs.Prelude.{◌≡◌, ℕ, List, Option, None, Some, slice_get, option_and_then, option_map}
use Rattle.py_syntax.specs.BlockTrees.{ModuleItem, LineAt}
use Rattle.py_syntax.specs.ModuleTrees.{Constant}
use Rattle.py_syntax.specs.declared.constant.Const.{Const}
use Rattle.name_table.specs.Places.{first_place}
use Rattle.test_meaning.specs.Rules.File.{Fixed, file_of, fixed_of}
use Rattle.test_meaning.specs.Rules.Names.{Name}

-- what an item gives to a constant: a literal, or a name
abbrev pub literal_of : ModuleItem → Option Const
literal_of (LineAt l (Constant n c)) = Some c
literal_of _ = None

abbrev pub literal_at : List ModuleItem → ℕ → Option Const
literal_at xs i = option_and_then literal_of (slice_get xs i)

-- the value of a constant, where there is one
abbrev pub fixed_literal : Option Fixed → Option (Option Const)
fixed_literal k = option_map (λ (k : Fixed). Some k.value) k

-- each constant has a place, at which its value is the literal; what is no constant has none
abbrev pub AreLiteralPlaces : List ModuleItem → List (List ℕ × ℕ) → Type 0
AreLiteralPlaces xs places = (n : Name) → option_map (literal_at xs) (first_place places n) ≡ fixed_literal (fixed_of (file_of xs).constants n)
