-- A connection behind others.
use Rattle.std.proofs.Common.{option_map, sym, subst}
use Rattle.v_flat.specs.declared.scope.found.Found.{Found}
use Rattle.v_flat.specs.Scope.Scope.{means}
use Rattle.v_header.specs.Ports.{port_in}
use Rattle.v_elab.specs.Connect.Found.{Goes, behind, connected, value_in}
use Rattle.v_flat.specs.Scope.Found.{and_then}
use Rattle.v_elab.proofs.ConnectLemmas.One.{then_sound, then_noted}
use Rattle.v_elab.proofs.connect.connection.then_connect.Goals as goal

pub returns-in_ok-connect-in-Sound-clause-ok : goal.returns-in_ok-connect-in-Sound-clause-ok
returns-in_ok-connect-in-Sound-clause-ok c =
    let s = means c.args.scope.now in
    let q = c.args.connection.now.place in
    let p = c.args.connection.now.name in
    let o = option_map port_in c.args.port in
    let v = value_in c.args.connection.now.value in
    let x = c.args.driven.now in
    let js = c.args.joints.now.items in
    λ ps a l k. then_sound s q p o v tt x c.connect.new.driven js c.connect.new.joints.items c.in_ok-connect-in-Sound.field-0 c.in_ok-connect-in-Sound.ensures.ok ps a l
    (subst (λ (f : Found (Unit {0})). Goes s ps a f js x) c.in-Sound.is k)

pub returns-in_ok-connect-in-Noted-clause-ok : goal.returns-in_ok-connect-in-Noted-clause-ok
returns-in_ok-connect-in-Noted-clause-ok c =
    let s = means c.args.scope.now in
    let q = c.args.connection.now.place in
    let p = c.args.connection.now.name in
    let o = option_map port_in c.args.port in
    let v = value_in c.args.connection.now.value in
    let x = c.args.driven.now in
    let y = c.connect-in-Noted.new.driven in
    let js = c.args.joints.now.items in
    let ks = c.connect-in-Noted.new.joints.items in
    λ ps a l k. subst (λ (f : Found (Unit {0})). Goes s ps (and_then a (behind (connected q p s o v))) f ks y) (sym c.noted.ensures)
    (then_noted s q p o v c.in-Noted.fault tt x y js ks c.in_ok-connect-in-Noted.field-0 c.in_ok-connect-in-Noted.ensures.ok ps a l
    (subst (λ (f : Found (Unit {0})). Goes s ps a f js x) c.in-Noted.is k))
