-- One net more.
use Rattle.std.proofs.Common.{None, Some, refl}
use Rattle.v_layout.specs.declared.details.Declared.{Declared}
use Rattle.v_layout.specs.declared.details.Sort.TheVariants as sort
use Rattle.v_layout.specs.Place.{place_in}
use Rattle.v_layout.proofs.DeclareTurns.{net_turn}
use Rattle.v_layout.proofs.lines.declare_nets.Goals as goal

pub loop-net-preserved : goal.loop-net-preserved
loop-net-preserved c =
    let d : Declared = record { direction = None; sort = Some sort.Wire; bounds = c.args.bounds; words = None } in
    net_turn (place_in c.args.place.now) d c.args.nets.now c.loop-net.net-index c.net-item.result c.loop-net.found c.in_ok-found.found _
    refl c.loop-net-test.true c.net-item.is c.in_ok-found.ensures c.loop-net.invariant
