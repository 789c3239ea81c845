-- A continuous assignment, and which digits are driven then.
use Rattle.v_syntax.specs.ExpressionTrees.{view, view_target}
use Rattle.v_flat.specs.Scope.Scope.{means}
use Rattle.v_process.proofs.Driving.{driver_result, grown_result}
use Rattle.v_process.proofs.drivers.continuous.Goals as goal

pub returns-clause-ok : goal.returns-clause-ok
returns-clause-ok c =
    driver_result (means c.args.scope.now) (view_target c.args.target.now) (view c.args.value.now) c.args.wakes c.args.driven.now c.net_target.new.driven
    c.in_ok-target.target c.in_ok-value.value c.assigning.result c.in_ok-target.ensures.ok c.in_ok-value.ensures c.assigning.ensures

pub returns-clause-err : goal.returns-clause-err
returns-clause-err c =
    grown_result (means c.args.scope.now) (view_target c.args.target.now) c.args.driven.now c.net_target.new.driven c.in_ok-target.target c.assigning.result
    c.in_ok-target.ensures.ok
