-- One register more.
use Rattle.v_layout.specs.Place.{place_in}
use Rattle.v_layout.proofs.DeclareTurns.{register_turn}
use Rattle.v_layout.proofs.lines.declare_registers.Goals as goal

pub loop-register-preserved : goal.loop-register-preserved
loop-register-preserved c =
    register_turn (place_in c.args.place.now) c.args.bounds c.args.registers.now c.loop-register.register-index c.register-item.result c.loop-register.found c.in_ok-found.found _
    c.loop-register-test.true c.register-item.is c.in_ok-found.ensures c.loop-register.invariant
