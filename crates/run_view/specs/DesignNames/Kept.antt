-- A means of proof: names with what they mean, by the entries that are kept of them.
use Rattle.std.specs.Prelude.{ℕ, List, map}
use Rattle.gpi.specs.declared.design.Spot.{Spot}

abbrev pub names_kept : {K : Type 0} → (K → List ℕ) → List (K × Spot) → List (List ℕ × Spot)
names_kept {K} items es = map (λ (e : K × Spot). (items e.0, e.1)) es
