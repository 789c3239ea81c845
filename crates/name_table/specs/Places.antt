-- A means of proof: the first place of each name, for the proofs of the check of a tests file.
use Rattle.std.specs.Prelude.{ℕ, List, [], ◌∷◌, Option, None, Some, if◌then◌else◌, bytes_eq}
use Rattle.std.specs.Option.{option_or}

-- which place each name has; none where none is noted
abbrev pub Places : Type 0
Places = List ℕ → Option ℕ

-- no name has a place
abbrev pub nowhere : Places
nowhere n = None

-- a name has this place too, which counts where it had none
abbrev pub noted : List ℕ → ℕ → Places → Places
noted k x s n = option_or (s n) (if bytes_eq n k then Some x else None)

-- the places by a list of names with their places
abbrev pub first_place : List (List ℕ × ℕ) → Places
first_place [] n = None
first_place (e ∷ es) n = if bytes_eq n e.0 then Some e.1 else first_place es n
