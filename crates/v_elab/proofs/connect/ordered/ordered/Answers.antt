-- One connection more.
use Rattle.std.proofs.Common.{map, option_map, Some, refl, sym}
use Rattle.v_syntax.specs.ExpressionTrees.{view}
use Rattle.v_flat.specs.Scope.Scope.{means}
use Rattle.v_flat.specs.Design.{ordered_joints}
use Rattle.v_header.specs.Ports.{port_in}
use Rattle.v_process.proofs.AssignLemmas.Grown.{grown_on}
use Rattle.v_process.proofs.OutputsLemmas.Walked.{same_grown}
use Rattle.v_elab.proofs.ConnectLemmas.Steps.{so_far_none, ordered_left, ordered_next, ordered_end}
use Rattle.v_elab.proofs.connect.ordered.ordered.Goals as goal

pub loop-at-init : goal.loop-at-init
loop-at-init c =
    let s = means c.args.scope.now in
    let x = c.args.driven.now in (
      (λ ds k. so_far_none s c.args.ports.now (ordered_left s c.args.values.now c.args.ports.now 0) ds c.new-joints.result.items x c.new-joints.ensures.items k),
      same_grown x x (λ ds k. k),
    )

pub loop-at-preserved : goal.loop-at-preserved
loop-at-preserved c =
    let s = means c.args.scope.now in
    let es = c.args.values.now in
    let ps = c.args.ports.now in
    let e = c.index-values-at.result in
    let q = c.first-place.result in
    let x = c.args.driven.now in
    let y = c.loop-at.driven in
    let z = c.then_connect.new.driven in (
      (λ ds k. ordered_next s es ps c.loop-at.at q q e (option_map port_in c.get-port.result) (Some (view e)) (ordered_joints s (map view es) ps ds) c.loop-at.found
          c.in_ok-found.found c.loop-at.joints.items c.then_connect.new.joints.items y z c.loop-at-test.true c.index-values-at.is c.first-place.ensures c.first-place.ensures refl
          (sym c.get-port.ensures) c.in_ok-found.ensures.ok (c.loop-at.invariant.0 ds k)),
      grown_on x y z c.loop-at.invariant.1 c.in_ok-found.ensures.grows,
    )

pub returns-clause-ok : goal.returns-clause-ok
returns-clause-ok c =
    let s = means c.args.scope.now in
    let es = c.args.values.now in
    let ps = c.args.ports.now in
    λ ds k. ordered_end s es ps c.loop-at.at (ordered_joints s (map view es) ps ds) c.loop-at.found c.loop-at.joints.items c.together.result c.loop-at.driven
    c.loop-at-test.false (c.loop-at.invariant.0 ds k) c.together.ensures
