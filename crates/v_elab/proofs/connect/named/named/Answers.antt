-- One connection more.
use Rattle.std.proofs.Common.{rules, ◌≡◌, ℕ, List, [], ◌∷◌, map, Option, option_map, is_some, None, if◌then◌else◌, refl, ap, subst}
use Rattle.name_table.specs.Places.{first_place, noted}
use Rattle.v_syntax.specs.ExpressionTrees.{view}
use Rattle.v_syntax.specs.SourceTrees.{view_connection}
use Rattle.v_flat.specs.Scope.Scope.{means}
use Rattle.v_flat.specs.Headers.{find_port}
use Rattle.v_flat.specs.Design.{named_joints}
use Rattle.v_header.specs.Ports.{port_in}
use Rattle.v_process.proofs.AssignLemmas.Grown.{grown_on}
use Rattle.v_process.proofs.OutputsLemmas.Walked.{same_grown}
use Rattle.v_elab.specs.Connect.Found.{value_in}
use Rattle.v_elab.proofs.ConnectLemmas.Steps.{seen_too, so_far_none, named_left, named_next, named_end}
use Rattle.v_elab.proofs.connect.named.named.Goals as goal

pub loop-at-init : goal.loop-at-init
loop-at-init c =
    let s = means c.args.scope.now in
    let x = c.args.driven.now in (
      [],
      (
        (λ n. ap (λ (p : List ℕ → Option ℕ). is_some (p n)) c.new-seen.ensures),
        (
          (λ ds k. so_far_none s c.args.ports.now (named_left s c.args.connections.now c.args.ports.now [] 0) ds c.new-joints.result.items x c.new-joints.ensures.items k),
          same_grown x x (λ ds k. k),
        ),
      ),
    )

pub loop-at-preserved : goal.loop-at-preserved
loop-at-preserved c =
    let s = means c.args.scope.now in
    let cs = c.args.connections.now in
    let ps = c.args.ports.now in
    let j = c.loop-at.at in
    let d = c.index-connections-at.result in
    let n = c.bytes-name.result.now in
    let seen = c.loop-at.invariant.0 in
    let o = option_map port_in c.unseen_port-port.result in
    let v = value_in c.as_ref.result in
    let same : n ≡ d.port.name = search rules in
    let given : v ≡ option_map view d.value = search rules in
    let x = c.args.driven.now in
    let y = c.loop-at.driven in
    let z = c.then_connect.new.driven in (
      d.port.name ∷ seen,
      (
        seen_too seen d.port.name j c.loop-at.seen c.note.new.self c.loop-at.invariant.1.0
            (subst (λ (m : List ℕ). (k : List ℕ) → first_place c.note.new.self k ≡ noted m j (first_place c.loop-at.seen) k) same c.in_ok-note.ensures.ok),
        (
          (λ ds k. named_next s cs ps seen c.loop-at.seen j d.at d.port.at d o v (named_joints s ps [] (map view_connection cs) ds) c.loop-at.found
              c.in_ok-found.found c.loop-at.joints.items c.then_connect.new.joints.items y z c.loop-at-test.true c.index-connections-at.is refl refl given c.loop-at.invariant.1.0
              (subst (λ (m : List ℕ). o ≡ (if is_some (first_place c.loop-at.seen m) then None else find_port m ps)) same c.unseen_port-port.ensures)
              c.in_ok-found.ensures.ok (c.loop-at.invariant.1.1.0 ds k)),
          grown_on x y z c.loop-at.invariant.1.1.1 c.in_ok-found.ensures.grows,
        ),
      ),
    )

pub returns-clause-ok : goal.returns-clause-ok
returns-clause-ok c =
    let s = means c.args.scope.now in
    let cs = c.args.connections.now in
    let ps = c.args.ports.now in
    λ ds k. named_end s cs ps c.loop-at.invariant.0 c.loop-at.at (named_joints s ps [] (map view_connection cs) ds) c.loop-at.found c.loop-at.joints.items c.together.result
    c.loop-at.driven c.loop-at-test.false (c.loop-at.invariant.1.1.0 ds k) c.together.ensures
