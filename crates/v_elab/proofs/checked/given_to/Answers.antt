-- What was found in the connections, with what else is broken.
use Rattle.std.proofs.Common.{◌+◌, ◌&&◌, nat_le, is_none, refl, ap, ◌∙◌}
use Rattle.name_table.specs.Places.{first_place}
use Rattle.v_syntax.specs.SourceTrees.{view_module}
use Rattle.v_flat.specs.Scope.Limits.{most_parts}
use Rattle.v_flat.specs.Scope.Scope.{means}
use Rattle.v_elab.proofs.Checks.{checks_broken, checks_ok}
use Rattle.v_elab.proofs.Fresh.{fresh_as}
use Rattle.v_elab.proofs.checked.given_to.Goals as goal

pub returns-in-Ok : goal.returns-in-Ok
returns-in-Ok c =
    let x = c.args.walked.now in
    checks_ok c.args.inner.now (view_module c.args.module.now) x c.in_ok-ports.ports c.in_ok-count.count c.is_fresh-is_fresh.result c.is_room-has_room.result c.in_ok-found.found
    c.wants-named.result c.wants.result c.connected.new.driven c.ended.result c.in_ok-ports.ensures c.in_ok-count.ensures
    (c.is_room-has_room.ensures ∙ ap (λ k. nat_le (k + c.in_ok-count.count) most_parts) c.len.ensures)
    (λ s h. fresh_as s x c.args.inner.now.name.now.name c.is_fresh-is_fresh.result h
    (c.is_fresh-is_fresh.ensures ∙ ap (λ n. is_none (means x.state.scope n) && is_none (first_place x.instances n)) c.bytes.ensures))
    c.in_ok-found.ensures c.wants-named.ensures c.wants.ensures c.ended.ensures c.in-Ok.given c.in-Ok.joints (record { given = c.in-Ok.given; joints = c.in-Ok.joints })
    (record { state = record { scope = x.state.scope; parts = x.state.parts; driven = c.connected.new.driven; children = x.state.children }; instances = x.instances })
    c.in-Ok.is refl refl (record { scope = refl; parts = refl; children = refl; instances = refl }) refl

pub returns : goal.returns
returns c =
    let x = c.args.walked.now in
    checks_broken c.args.inner.now (view_module c.args.module.now) x c.in_ok-ports.ports c.in_ok-count.count c.is_fresh-is_fresh.result c.is_room-has_room.result c.in_ok-found.found
    c.wants-named.result c.wants.result c.connected.new.driven c.ended.result c.in_ok-ports.ensures c.in_ok-count.ensures
    (c.is_room-has_room.ensures ∙ ap (λ k. nat_le (k + c.in_ok-count.count) most_parts) c.len.ensures)
    (λ s h. fresh_as s x c.args.inner.now.name.now.name c.is_fresh-is_fresh.result h
    (c.is_fresh-is_fresh.ensures ∙ ap (λ n. is_none (means x.state.scope n) && is_none (first_place x.instances n)) c.bytes.ensures))
    c.in_ok-found.ensures c.wants-named.ensures c.wants.ensures c.ended.ensures c.in-Err.fault c.in-Err.is
