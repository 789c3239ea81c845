-- A target, and an expression that spells none.
use Rattle.std.proofs.Common.{Option, subst}
use Rattle.v_syntax.specs.ExpressionTrees.{view}
use Rattle.v_flat.specs.declared.scope.found.Found.{Found}
use Rattle.v_flat.specs.Scope.Scope.{means}
use Rattle.v_flat.specs.Targets.{as_target}
use Rattle.v_process.specs.declared.target.checked.CheckedTarget.{CheckedTarget}
use Rattle.v_process.specs.Outputs.Outputs.{IsOutput}
use Rattle.v_elab.proofs.ConnectLemmas.One.{output_found, no_target_found}
use Rattle.v_elab.proofs.connect.joined.target.Goals as goal

pub returns-in-Some-clause-ok : goal.returns-in-Some-clause-ok
returns-in-Some-clause-ok c =
    let q = c.args.place in
    let s = means c.args.scope.now in
    let e = view c.args.expression.now in
    let x = c.args.driven.now in
    let y = c.output.new.driven in
    output_found q s e x y c.in-Some.found c.of_target.result
    (subst (λ (o : Option (Found CheckedTarget)). IsOutput q s (as_target e) x o y) c.in-Some.is c.in_ok-found.ensures.ok) c.of_target.ensures

pub returns-in_ok-value-in-None-clause-ok : goal.returns-in_ok-value-in-None-clause-ok
returns-in_ok-value-in-None-clause-ok c =
    let q = c.args.place in
    let s = means c.args.scope.now in
    let e = view c.args.expression.now in
    let x = c.args.driven.now in
    let y = c.output.new.driven in
    no_target_found q s e x y c.in_ok-value-in-None.field-0 c.lost.result
    (subst (λ (o : Option (Found CheckedTarget)). IsOutput q s (as_target e) x o y) c.in-None.is c.in_ok-found.ensures.ok)
    c.in_ok-value-in-None.ensures c.lost.ensures
