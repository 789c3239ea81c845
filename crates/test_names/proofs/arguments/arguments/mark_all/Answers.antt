-- The argument before those that are marked.
use Rattle.std.proofs.Common.{◌-◌, arith, length}
use Rattle.test_names.proofs.ArgumentsLemmas.Marked.{none_marked, all_more}
use Rattle.test_names.proofs.arguments.arguments.mark_all.Goals as goal

pub back-init : goal.back-init
back-init c =
    let m = none_marked c.args.parameters.now c.args.arguments.now (length c.args.arguments.now) c.args.given.now (omega arith) c.requires.unmarked in
    record { within = omega arith; fresh = m.0; marks = m.1 }

pub back-preserved : goal.back-preserved
back-preserved c =
    let m = all_more c.args.parameters.now c.args.arguments.now c.back.number (c.back.number - 1) c.place_of-place.result c.index-arguments-number.result
    c.back.given c.mark-fresh.new.given c.both-all_fresh.result c.mark-fresh.result c.back.all_fresh (omega (arith, c.back-test.true))
    (omega (arith, c.back.invariant.within, c.back-test.true)) c.index-arguments-number.is c.place_of-place.ensures c.mark-fresh.ensures.length
    c.mark-fresh.ensures.fresh c.mark-fresh.ensures.marked c.both-all_fresh.ensures c.back.invariant.fresh c.back.invariant.marks in
    record { within = omega (arith, c.back.invariant.within); fresh = m.0; marks = m.1 }
