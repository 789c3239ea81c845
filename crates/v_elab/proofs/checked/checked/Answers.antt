-- What was found, beside the instance around it.
use Rattle.std.proofs.Common.{Result, subst}
use Rattle.v_flat.specs.declared.scope.rule.Broken.{Broken}
use Rattle.v_syntax.specs.SourceTrees.{view_module}
use Rattle.v_elab.specs.declared.outside.Outside.{Outside}
use Rattle.v_elab.specs.InnerSteps.{Checks, beside}
use Rattle.v_elab.proofs.checked.checked.Goals as goal

pub returns-in-Ok : goal.returns-in-Ok
returns-in-Ok c =
    subst (λ (r : Result Outside Broken). Checks c.args.inner.now (view_module c.args.module.now) c.args.walked (beside c.given_to.new.walked r)) c.in-Ok.is c.in_ok-outside.ensures

pub returns-in-Err : goal.returns-in-Err
returns-in-Err c =
    subst (λ (r : Result Outside Broken). Checks c.args.inner.now (view_module c.args.module.now) c.args.walked (beside c.given_to.new.walked r)) c.in-Err.is c.in_ok-outside.ensures
