-- A means of proof: what a table of names and a list of marks say of parameters and arguments.
use Rattle.std.specs.Prelude.{◌≡◌, ◌<◌, ◌+◌, ◌&&◌, ℕ, nat_lt, Bool, false, List, length, Option, Some, None, slice_index_or}
use Rattle.std.specs.List.{list_all}
use Rattle.py_syntax.specs.declared.module.Parameter.{Parameter}
use Rattle.name_table.specs.Places.{first_place}
use Rattle.test_meaning.specs.Rules.Rules.{index_of, is_in, differ}

-- what was found, or so many and more
abbrev pub found_or : ℕ → Option ℕ → ℕ → ℕ
found_or i (Some k) more = k
found_or i None more = i + more

-- the table has the number of the first parameter of each name
pub record AreNumbers (ps : List Parameter) (names : List (List ℕ × ℕ)) : Type 0 where
  pub numbers : (n : List ℕ) → index_of n ps ≡ found_or (length ps) (first_place names n) 0

-- the marks are at the parameters of these numbers
pub record AreMarks (n : ℕ) (ks : List ℕ) (given : List Bool) : Type 0 where
  pub long : length given ≡ n
  pub marks : (j : ℕ) → j < n → slice_index_or given j false ≡ is_in j ks

-- each is the number of a parameter, and no two are the same
abbrev pub are_all_fresh : ℕ → List ℕ → Bool
are_all_fresh n ks = list_all (λ k. nat_lt k n) ks && differ ks
