-- What names mean in an instance (IEEE 1364-2005, clause 4.11).
use Rattle.std.specs.Prelude.{ℕ, ◌+◌, ◌-◌, List, [], ◌∷◌, Option, None, Some, Bool, min, if◌then◌else◌, nat_le, bytes_eq}
use Rattle.std.specs.Option.{option_or}
use Rattle.v_flat.specs.declared.scope.meaning.Bounds.{Bounds}
use Rattle.v_flat.specs.declared.scope.meaning.Meaning.{Meaning}

-- how many indices lie between two, both counted
abbrev pub span : ℕ → ℕ → ℕ
span a b = if nat_le a b then (b - a) + 1 else (a - b) + 1

abbrev pub width_of : Bounds → ℕ
width_of b = span b.left b.right

abbrev pub low_of : Bounds → ℕ
low_of b = min b.left b.right

-- equal bounds count as falling
abbrev pub is_falling : Bounds → Bool
is_falling b = nat_le b.right b.left

-- the range of a vector that has none
abbrev pub plain : ℕ → Bounds
plain w = record { left = w - 1; right = 0 }

-- what each name means; none where it is not declared
abbrev pub Scope : Type 0
Scope = List ℕ → Option Meaning

abbrev pub find : List ℕ → Scope → Option Meaning
find n s = s n

-- no name means anything
abbrev pub nothing : Scope
nothing n = None

-- one name means this, whatever it meant before
abbrev pub named : List ℕ → Meaning → Scope → Scope
named k x s n = if bytes_eq n k then Some x else s n

-- a declared name means this; a name that isn't declared stays so
abbrev pub renamed_from : Option Meaning → List ℕ → Meaning → Scope → Scope
renamed_from None k x s = s
renamed_from (Some old) k x s = named k x s

abbrev pub renamed : List ℕ → Meaning → Scope → Scope
renamed k x s = renamed_from (find k s) k x s

-- the first scope counts, and the second where a name isn't declared in the first
abbrev pub before : Scope → Scope → Scope
before s t n = option_or (s n) (t n)

-- what each name means by a list of names with their meanings
abbrev pub means : List (List ℕ × Meaning) → Scope
means [] = nothing
means (e ∷ es) = named e.0 e.1 (means es)
