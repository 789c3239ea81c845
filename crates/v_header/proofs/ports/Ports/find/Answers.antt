-- The port at the name's place.
use Rattle.std.proofs.Common.{◌∙◌}
use Rattle.v_header.proofs.Places.{found_nowhere, found_there}
use Rattle.v_header.proofs.ports.Ports.find.Goals as goal

pub returns-in-Some : goal.returns-in-Some
returns-in-Some c =
    c.get.ensures
    ∙ found_there c.args.name.now c.self.inside.list.items c.args.self.now c.self.inside.places c.find.result c.self.invariant c.self.view_is c.find.ensures c.in-Some.place c.in-Some.is

pub returns-in-None : goal.returns-in-None
returns-in-None c =
    found_nowhere c.args.name.now c.self.inside.list.items c.args.self.now c.self.inside.places c.find.result c.self.invariant c.self.view_is c.find.ensures c.in-None.is
