-- One name more.
use Rattle.v_layout.specs.Place.{place_in}
use Rattle.v_layout.proofs.DeclareTurns.{name_turn}
use Rattle.v_layout.proofs.lines.declare_all.Goals as goal

pub loop-name-preserved : goal.loop-name-preserved
loop-name-preserved c =
    name_turn (place_in c.args.place.now) c.args.declared c.args.names.now c.loop-name.name-index c.name-item.result c.loop-name.found c.in_ok-found.found _
    c.requires.words c.loop-name-test.true c.name-item.is c.in_ok-found.ensures c.loop-name.invariant
