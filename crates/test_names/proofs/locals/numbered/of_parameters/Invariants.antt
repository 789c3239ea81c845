-- The parameters so far have their places.
use Rattle.std.proofs.Common.{◌≡◌, ℕ, List, take}
use Rattle.std.specs.List.{position_from}
use Rattle.std.specs.Str.{bytes_eq}
use Rattle.name_table.specs.Places.{first_place}
use Rattle.test_meaning.specs.Rules.Uses.{parameter_names}
use Rattle.test_names.proofs.locals.numbered.of_parameters.Given as goal

abbrev pub invariant-loop-place : goal.invariant-loop-place
invariant-loop-place l =
    (l.names ≡ parameter_names (take l.place l.parameters))
    × ((n : List ℕ) → first_place l.places n ≡ position_from (bytes_eq n) 0 (parameter_names (take l.place l.parameters)))
