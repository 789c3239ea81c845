-- A means of proof: the names of a scope with their meanings, by the entries that are kept of them.
use Rattle.std.specs.Prelude.{ℕ, List, [], ◌∷◌}
use Rattle.v_flat.specs.declared.scope.meaning.Meaning.{Meaning}

abbrev pub entries_of : {K : Type 0} → (K → List ℕ) → List (K × Meaning) → List (List ℕ × Meaning)
entries_of items [] = []
entries_of items (e ∷ es) = (items e.0, e.1) ∷ entries_of items es
