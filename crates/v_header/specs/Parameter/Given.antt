-- A means of proof: the values that an instance gives to parameters, by their names as the code keeps them, for the proofs of elaboration.
use Rattle.std.specs.Prelude.{◌≡◌, ℕ, List, [], ◌∷◌, Option, None, Some, bytes_eq, if◌then◌else◌}
use Rattle.four_value.specs.declared.Digit.{Digit}
use Rattle.v_flat.specs.Declarations.{Given}

-- the value that is given to a name
abbrev pub find_given : List ℕ → List Given → Option (List Digit)
find_given n [] = None
find_given n (g ∷ gs) = if bytes_eq g.name n then Some g.value else find_given n gs

-- both give the same values to the same names
abbrev pub GiveTheSame : List Given → List Given → Type 0
GiveTheSame xs ys = (n : List ℕ) → find_given n xs ≡ find_given n ys

-- the entries of a table
abbrev pub given_in : {K : Type 0} → (K → List ℕ) → List (K × List Digit) → List Given
given_in items [] = []
given_in items (e ∷ es) = record { name = items e.0; value = e.1 } ∷ given_in items es
