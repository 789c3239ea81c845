-- The first declaration of a name.
use Rattle.v_layout.specs.Place.{place_in}
use Rattle.v_layout.proofs.Steps.{first_named}
use Rattle.v_layout.proofs.change.first.Goals as goal

pub returns : goal.returns
returns c =
    first_named c.args.name.now c.args.declared (place_in c.args.place.now) c.args.at c.args.so_far.now c.has_room-has_room.result c.may_be-may_be.result c.wants.result c.wants-2.result
    c.has_room-has_room.ensures c.may_be-may_be.ensures c.wants.ensures c.wants-2.ensures
