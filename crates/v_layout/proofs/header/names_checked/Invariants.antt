-- The names that are left, and those that were seen.
use Rattle.std.proofs.Common.{◌≡◌, ℕ, List, [], drop}
use Rattle.v_flat.specs.Declarations.{names_checked}
use Rattle.v_layout.specs.Place.{place_in}
use Rattle.v_layout.proofs.Loops.{Saw}
use Rattle.v_layout.proofs.header.names_checked.Given as goal

abbrev pub invariant-loop-at : goal.invariant-loop-at
invariant-loop-at l =
    (seen : List (List ℕ)) × (Saw l.seen seen × (names_checked (place_in l.place) seen (drop l.at l.names) ≡ names_checked (place_in l.place) [] l.names))
