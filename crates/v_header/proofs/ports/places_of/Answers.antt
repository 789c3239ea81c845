-- One port more.
use Rattle.v_header.proofs.Places.{all_placed, none_placed, one_placed}
use Rattle.v_header.proofs.ports.places_of.Goals as goal

pub loop-at-init : goal.loop-at-init
loop-at-init c = none_placed c.args.list.now c.new-places.result (λ n i. c.new-places.ensures i n)

pub loop-at-preserved : goal.loop-at-preserved
loop-at-preserved c =
    one_placed c.args.list.now c.loop-at.at _ c.loop-at.places c.note.new.self c.loop-at-test.true c.loop-at.invariant c.in_ok-note.ensures.ok

pub returns : goal.returns
returns c = all_placed c.args.list.now c.loop-at.at c.loop-at.places c.loop-at-test.false c.loop-at.invariant
