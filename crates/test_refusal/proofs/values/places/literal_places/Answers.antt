-- One item more is noted.
use Rattle.name_table.specs.Places.{first_place}
use Rattle.test_refusal.proofs.ValuesLemmas.Standing.{all_stand, item_stands, none_yet}
use Rattle.test_refusal.proofs.values.places.literal_places.Goals as goal

pub loop-place-init : goal.loop-place-init
loop-place-init c = none_yet c.args.items.now (first_place c.new-places.result) c.new-places.ensures

pub loop-place-preserved : goal.loop-place-preserved
loop-place-preserved c =
    item_stands c.args.items.now c.loop-place.place c.index-items-place.result (first_place c.loop-place.places) (first_place c.in_ok-places.places) c.loop-place-test.true
    c.index-items-place.is (λ n. c.in_ok-places.ensures n) c.loop-place.invariant

pub returns : goal.returns
returns c = all_stand c.args.items.now c.loop-place.place (first_place c.loop-place.places) c.loop-place-test.false c.loop-place.invariant
