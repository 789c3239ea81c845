-- The names, one after another.
use Rattle.std.proofs.Common.{map}
use Rattle.v_flat.specs.Scope.Scope.{means}
use Rattle.v_header.specs.Names.{and_later}
use Rattle.v_header.proofs.LaterNames.{name_turn, names_done}
use Rattle.v_header.proofs.names.declare_names.Goals as goal

pub loop-part-preserved : goal.loop-part-preserved
loop-part-preserved g c =
    let name = g.T.Declares.name in
    let tree = g.T.Declares.tree in
    name_turn name tree c.args.parts.now c.loop-part.part-index (and_later (map name (map tree c.args.parts.now)) (means c.args.scope.now))
    c.part-item.result c.name.result.now (means c.loop-part.scope) (means c.declare.new.self)
    c.loop-part-test.true c.part-item.is c.name.ensures c.in_ok-declare.ensures.ok c.loop-part.invariant

pub returns : goal.returns
returns g c =
    let name = g.T.Declares.name in
    let tree = g.T.Declares.tree in
    names_done name tree c.args.parts.now c.loop-part.part-index (and_later (map name (map tree c.args.parts.now)) (means c.args.scope.now))
    (means c.loop-part.scope) c.loop-part-test.false c.loop-part.invariant
