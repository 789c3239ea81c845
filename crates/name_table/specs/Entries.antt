-- A means of proof: names with their places, by the entries that are kept of them.
use Rattle.std.specs.Prelude.{ℕ, List, [], ◌∷◌}

abbrev pub entries_of : {K : Type 0} → (K → List ℕ) → List (K × ℕ) → List (List ℕ × ℕ)
entries_of items [] = []
entries_of items (e ∷ es) = (items e.0, e.1) ∷ entries_of items es
