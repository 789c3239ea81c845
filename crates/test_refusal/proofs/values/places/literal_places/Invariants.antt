-- The places of the constants so far.
use Rattle.name_table.specs.Places.{first_place}
use Rattle.test_refusal.proofs.ValuesLemmas.Standing.{StandSoFar}
use Rattle.test_refusal.proofs.values.places.literal_places.Given as goal

abbrev pub invariant-loop-place : goal.invariant-loop-place
invariant-loop-place l = StandSoFar l.items l.place (first_place l.places)
