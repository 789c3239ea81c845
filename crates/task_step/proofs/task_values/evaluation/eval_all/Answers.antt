use Rattle.std.proofs.Common.{◌∙◌, arith, map}
use Rattle.std.proofs.lemmas.Result.{err_from_is_err_and}
use Rattle.py_syntax.specs.ExpressionTrees.{view}
use Rattle.py_evaluate.specs.Gives.{scope}
use Rattle.rig_model.specs.Task.Moves.{eval_all}
use Rattle.task_step.proofs.TaskValuesLemmas.Rows.{all_row, behind_none, expression_value, row, row_step, row_fault, row_end, known_more}
use Rattle.task_step.proofs.task_values.evaluation.eval_all.Goals as goal

pub loop-e-init : goal.loop-e-init
loop-e-init g c =
    let s = scope c.args.task (g.N.Locals.names c.args.names.now) (g.V.Look.view c.args.view.now) in
    rw c.new-values.ensures.items record {
      whole = behind_none (row (expression_value s) c.args.es.now c.args.next.now) ∙ all_row s c.args.es.now c.args.next.now;
      known = tt;
      rises = omega arith;
    }

pub loop-e-preserved : goal.loop-e-preserved
loop-e-preserved g c =
    let s = scope c.args.task (g.N.Locals.names c.args.names.now) (g.V.Look.view c.args.view.now) in
    let before = c.loop-e.invariant.rises in
    let rises = c.in_ok-v.ensures.is.rises in
    rw c.in_ok-push.ensures.items record {
      whole = row_step (expression_value s) c.args.es.now c.loop-e.e-index c.e-item.result c.loop-e.values.items c.loop-e.next c.eval.new.next c.in_ok-v.v
          (eval_all s (map view c.args.es.now) c.args.next.now) c.loop-e-test.true c.e-item.is c.loop-e.invariant.whole c.in_ok-v.ensures.is.ends;
      known = known_more (g.V.Look.view c.args.view.now) c.loop-e.values.items c.in_ok-v.v c.loop-e.invariant.known c.in_ok-v.ensures.known;
      rises = omega (arith, before, rises);
    }

pub returns-in_err-v-clause-is : goal.returns-in_err-v-clause-is
returns-in_err-v-clause-is g c =
    let s = scope c.args.task (g.N.Locals.names c.args.names.now) (g.V.Look.view c.args.view.now) in
    let p = err_from_is_err_and c.from_residual.result c.from_residual.ensures.1 in
    let before = c.loop-e.invariant.rises in
    let rises = c.in_err-v.ensures.is.rises in
    rw (p.1, p.2) record {
      ends = row_fault (expression_value s) c.args.es.now c.loop-e.e-index c.e-item.result c.loop-e.values.items c.loop-e.next c.eval.new.next c.in_err-v.field-0.0
          (eval_all s (map view c.args.es.now) c.args.next.now) c.loop-e-test.true c.e-item.is c.loop-e.invariant.whole c.in_err-v.ensures.is.ends;
      rises = omega (arith, before, rises);
    }

pub returns-clause-is : goal.returns-clause-is
returns-clause-is g c =
    let s = scope c.args.task (g.N.Locals.names c.args.names.now) (g.V.Look.view c.args.view.now) in
    record {
      ends = row_end (expression_value s) c.args.es.now c.loop-e.e-index c.loop-e.values.items c.loop-e.next (eval_all s (map view c.args.es.now) c.args.next.now)
          c.loop-e-test.false c.loop-e.invariant.whole;
      rises = c.loop-e.invariant.rises;
    }
