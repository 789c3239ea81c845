-- A name that has a place is a port's.
use Rattle.std.proofs.Common.{◌∙◌}
use Rattle.v_header.proofs.Places.{is_there}
use Rattle.v_header.proofs.ports.Ports.contains.Goals as goal

pub returns : goal.returns
returns c =
    c.is_some.ensures
    ∙ is_there c.args.name.now c.self.inside.list.items c.args.self.now c.self.inside.places c.find.result c.self.invariant c.self.view_is c.find.ensures
