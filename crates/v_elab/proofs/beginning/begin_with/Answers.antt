-- The parameters, and then the declarations.
use Rattle.std.proofs.lemmas.Result.{IfOk-weaker}
use Rattle.v_syntax.specs.SourceTrees.{view_module}
use Rattle.v_elab.specs.Begins.{Begins}
use Rattle.v_elab.specs.BeginSteps.{Declares}
use Rattle.v_elab.proofs.Declared.{begins_broken, begins_ok}
use Rattle.v_elab.proofs.beginning.begin_with.Goals as goal

pub returns-in-Ok : goal.returns-in-Ok
returns-in-Ok c =
    let m = view_module c.args.module.now in
    IfOk-weaker c.declared.result (Declares m c.args.path.now c.in-Ok.constants c.args.outside.joints.list.items c.args.parts) (Begins m c.args.path.now c.args.outside c.args.parts)
    (λ r h. begins_ok m c.args.path.now c.args.outside c.args.parts c.in_ok-constants.field-0 c.in-Ok.constants r c.in_ok-constants.ensures c.in-Ok.is h) c.declared.ensures

pub returns-in-Err : goal.returns-in-Err
returns-in-Err c =
    begins_broken (view_module c.args.module.now) c.args.path.now c.args.outside c.args.parts c.in_ok-constants.field-0 c.in-Err.fault c.in_ok-constants.ensures c.in-Err.is
