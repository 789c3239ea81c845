-- What is found of a name is put in its place.
use Rattle.std.proofs.Common.{rules, ◌≡◌}
use Rattle.v_layout.specs.Place.{place_in}
use Rattle.v_layout.proofs.Steps.{declared_ok}
use Rattle.v_layout.proofs.change.declare.Goals as goal

pub returns : goal.returns
returns c =
    let same : c.bytes-bytes.result.now ≡ c.args.name.now.name = search rules in
    declared_ok c.bytes-bytes.result.now c.args.name.now.name c.args.declared (place_in c.args.place.now) c.args.name.now.at c.args.so_far c.found-found.result c.with.result
    same c.found-found.ensures.is c.with.ensures
