-- The joint of a port.
use Rattle.std.proofs.Common.{rules, ◌≡◌, Some}
use Rattle.v_syntax.specs.ExpressionTrees.{view}
use Rattle.v_flat.specs.Scope.Scope.{means}
use Rattle.v_header.specs.Ports.{port_in}
use Rattle.v_elab.specs.Connect.Found.{value_in}
use Rattle.v_elab.proofs.ConnectLemmas.One.{port_connects}
use Rattle.v_elab.proofs.connect.connection.to_port.Goals as goal

pub returns-in_ok-found-in-Some-clause-ok : goal.returns-in_ok-found-in-Some-clause-ok
returns-in_ok-found-in-Some-clause-ok c =
    let v = value_in c.args.connection.now.value in
    let e = view c.in-Some.value.now in
    let is : v ≡ Some e = search rules in
    let n = c.in_ok-name-in-Some.name.items in
    let named : n ≡ (port_in c.args.port).name = search rules in
    port_connects (means c.args.scope.now) c.args.connection.now.place c.args.connection.now.name (port_in c.args.port) v e n c.args.driven.now c.joined.new.driven
    c.in_ok-found-in-Some.found c.args.joints.now.items c.add.new.joints.items c.add.result is named c.in_ok-found-in-Some.ensures.ok c.add.ensures
