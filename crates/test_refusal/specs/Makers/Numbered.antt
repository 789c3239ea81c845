-- A means of proof: names with numbers.
use Rattle.std.specs.Prelude.{◌≡◌, ◌<◌, ℕ, List, Some}
use Rattle.name_table.specs.Places.{first_place}
use Rattle.test_meaning.specs.Rules.Names.{Name}

-- each number is below this one, and no two names have the same
pub record AreNumbers (numbers : List (List ℕ × ℕ)) (count : ℕ) : Type 0 where
  pub below : (n : Name) (i : ℕ) → first_place numbers n ≡ Some i → i < count
  pub apart : (n m : Name) (i : ℕ) → first_place numbers n ≡ Some i → first_place numbers m ≡ Some i → n ≡ m
