-- The tests above, and those at the item.
use Rattle.std.proofs.Common.{arith}
use Rattle.test_refusal.specs.Places.{file_of_whole, place_of}
use Rattle.test_refusal.proofs.Parts.{tests_summed}
use Rattle.test_refusal.proofs.Scopes.{tested_at}
use Rattle.test_refusal.proofs.step.tests_so_far.Goals as goal

pub overflow_add-seen : goal.overflow_add-seen
overflow_add-seen c =
    let e = c.requires.seen.tests in
    let d = c.tests_at.ensures (file_of_whole c.args.place.now.whole.now) (place_of c.args.place.now).above c.requires.seen.makers (tested_at c.args.place.now c.args.seen.now.is_decorated c.is_test-is_test.result c.requires.stands c.requires.seen.decorated c.is_test-is_test.ensures) in
    omega (arith, e, d)

pub returns : goal.returns
returns c =
    tests_summed (file_of_whole c.args.place.now.whole.now) (place_of c.args.place.now).above (place_of c.args.place.now).item c.args.seen.now.tests c.tests_at.result _ c.requires.seen.tests
    (c.tests_at.ensures (file_of_whole c.args.place.now.whole.now) (place_of c.args.place.now).above c.requires.seen.makers (tested_at c.args.place.now c.args.seen.now.is_decorated c.is_test-is_test.result c.requires.stands c.requires.seen.decorated c.is_test-is_test.ensures)) c.cut.ensures
