-- A connection before those behind it.
use Rattle.std.proofs.Common.{rules, ◌≡◌, ◌≤◌, List, [], map, length, Bool, drop, ap, ◌∙◌, arith}
use Rattle.std.proofs.lemmas.Grind.{common_steps}
use Rattle.std.proofs.lemmas.List.{length-map}
use Rattle.v_syntax.specs.SourceTrees.{view_connection}
use Rattle.v_flat.specs.Scope.Scope.{means}
use Rattle.v_header.specs.Names.{texts}
use Rattle.v_header.proofs.GivenLemmas.Uses.{uses_length, named_at, none_named, all_named}
use Rattle.v_header.proofs.given.named.named.Goals as goal

pub loop-at-init : goal.loop-at-init
loop-at-init c = none_named (means c.args.scope.now) c.args.connections.now (drop (length c.args.connections.now) c.in_ok-is_first.is_first.items) c.none.result c.none.ensures

pub index-requires : goal.index-requires
index-requires c =
    let e : length c.in_ok-is_first.is_first.items ≡ length c.args.connections.now =
    ap (λ (us : List Bool). length us) c.in_ok-is_first.ensures ∙ uses_length (texts c.args.names.now) [] (map view_connection c.args.connections.now) ∙ length-map c.args.connections.now view_connection in
    let some : 1 ≤ c.loop-at.at = search rules in
    let inside : c.loop-at.at ≤ length c.args.connections.now = search rules in
    grind (arith, common_steps, e, some, inside)

pub loop-at-preserved : goal.loop-at-preserved
loop-at-preserved c =
    let e : length c.in_ok-is_first.is_first.items ≡ length c.args.connections.now =
    ap (λ (us : List Bool). length us) c.in_ok-is_first.ensures ∙ uses_length (texts c.args.names.now) [] (map view_connection c.args.connections.now) ∙ length-map c.args.connections.now view_connection in
    let some : 1 ≤ c.loop-at.at = search rules in
    let inside : c.loop-at.at ≤ length c.args.connections.now = search rules in
    named_at (means c.args.scope.now) c.args.connections.now c.in_ok-is_first.is_first.items c.loop-at.at c.index-connections-at.result c.index.result.now c.loop-at.found c.in_ok-more.more
    c.wants-found.result some inside e c.index-connections-at.is c.index.ensures c.loop-at.invariant c.in_ok-more.ensures c.wants-found.ensures

pub returns : goal.returns
returns c = all_named (means c.args.scope.now) (texts c.args.names.now) c.args.connections.now c.in_ok-is_first.is_first.items c.loop-at.at c.loop-at.found c.in_ok-is_first.ensures
    c.loop-at-test.false c.loop-at.invariant
