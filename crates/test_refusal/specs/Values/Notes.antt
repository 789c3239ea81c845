-- A means of proof: what is known of a constant's place, once one item more was looked at.
use Rattle.std.specs.Prelude.{ℕ, Option, None, Some}
use Rattle.py_syntax.specs.BlockTrees.{ModuleItem, LineAt}
use Rattle.py_syntax.specs.ModuleTrees.{Constant}
use Rattle.py_syntax.specs.declared.constant.Const.{Const}
use Rattle.py_syntax.specs.declared.constant.Const.TheVariants as constant
use Rattle.name_table.specs.Places.{Places, noted}

abbrev pub or_place : ℕ → Option ℕ → ℕ
or_place i None = i
or_place i (Some j) = j

-- the place of the literal that a constant stands for, which the item of this place defines
abbrev pub place_of : Places → Const → ℕ → ℕ
place_of s (constant.Named n) i = or_place i (s n)
place_of s c i = i

abbrev pub noted_constant : ModuleItem → ℕ → Places → Places
noted_constant (LineAt l (Constant n c)) i s = noted n (place_of s c i) s
noted_constant x i s = s
