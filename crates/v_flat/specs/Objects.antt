-- Nets, registers and memories, and what selects from them (IEEE 1364-2005, clauses 4.2, 4.9 and 5.2).
use Rattle.std.specs.Prelude.{ℕ, Option, None, Some, if◌then◌else◌}
use Rattle.gpi.specs.declared.selects.Range.{Range}
use Rattle.gpi.specs.declared.selects.Words.{Words}
use Rattle.gpi.specs.declared.selects.Order.TheVariants.{Falling, Rising}
use Rattle.v_flat.specs.declared.scope.meaning.Bounds.{Bounds}
use Rattle.v_flat.specs.declared.scope.meaning.Meaning.{Meaning}
use Rattle.v_flat.specs.declared.scope.meaning.Meaning.TheVariants.{Constant, Object, Later}
use Rattle.v_flat.specs.Scope.Scope.{width_of, low_of, is_falling}

abbrev pub range_of : Bounds → Range
range_of b = record { low = low_of b; order = if is_falling b then Falling else Rising }

-- how many signals an object has
abbrev pub count_of : Option Bounds → ℕ
count_of None = 1
count_of (Some b) = width_of b

-- the words of a memory, from their first signal on
abbrev pub words_of : ℕ → Bounds → Words
words_of first b = record { first = record { 0 = first }; low = low_of b; count = width_of b }

-- what a name with selects can be
pub data Nature : Type 0 where
  Unknown : Nature
  NoConstant : Nature
  Vector : Bounds → Nature
  -- the range of a word's digits
  Memory : Bounds → Nature

abbrev pub nature_of_object : Option Bounds → Bounds → Nature
nature_of_object None b = Vector b
nature_of_object (Some w) b = Memory b

abbrev pub nature_of : Option Meaning → Nature
nature_of None = Unknown
nature_of (Some Later) = NoConstant
nature_of (Some (Constant ds b)) = Vector b
nature_of (Some (Object o)) = nature_of_object o.words o.bounds
