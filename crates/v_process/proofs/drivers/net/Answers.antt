-- A continuous assignment to a whole net, and which digits are driven then.
use Rattle.std.proofs.Common.{None, subst}
use Rattle.v_syntax.specs.ExpressionTrees.{TargetTree, view}
use Rattle.v_flat.specs.Scope.Scope.{means}
use Rattle.v_flat.specs.Design.{whole_of}
use Rattle.v_process.specs.Assign.Continuous.{IsContinuous}
use Rattle.v_process.proofs.Driving.{driver_result, grown_result}
use Rattle.v_process.proofs.drivers.net.Goals as goal

pub returns-clause-ok : goal.returns-clause-ok
returns-clause-ok c =
    driver_result (means c.args.scope.now) (whole_of c.args.name.now) (view c.args.value.now) c.args.wakes c.args.driven.now c.net_name.new.driven
    c.in_ok-target.target c.in_ok-value.value c.assigning.result
    (subst (λ (t : TargetTree). IsContinuous None (means c.args.scope.now) t c.args.driven.now c.in_ok-target.target c.net_name.new.driven) c.in_ok-operand.ensures
    c.in_ok-target.ensures.ok)
    c.in_ok-value.ensures c.assigning.ensures

pub returns-clause-err : goal.returns-clause-err
returns-clause-err c =
    grown_result (means c.args.scope.now) (whole_of c.args.name.now) c.args.driven.now c.net_name.new.driven c.in_ok-target.target c.assigning.result
    (subst (λ (t : TargetTree). IsContinuous None (means c.args.scope.now) t c.args.driven.now c.in_ok-target.target c.net_name.new.driven) c.in_ok-operand.ensures
    c.in_ok-target.ensures.ok)
