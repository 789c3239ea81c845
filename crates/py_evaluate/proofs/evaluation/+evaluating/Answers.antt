use Rattle.std.proofs.Common.{rules, ◌≡◌, ◌≤◌, inl, inr, refl, arith}
use Rattle.std.proofs.lemmas.Result.{err_from_is_err_and}
use Rattle.py_syntax.specs.ExpressionTrees as tree
use Rattle.py_syntax.specs.declared.expression.Expression.TheViews.{the_lemmas}
use Rattle.py_evaluate.specs.Eval.{eval_row, eval_parts}
use Rattle.py_evaluate.specs.Gives.{scope}
use Rattle.py_evaluate.specs.Rows.{trees_of, parts_of, PartWants}
use Rattle.py_evaluate.specs.Wants.{Wants, RowWants, PartsWant}
use Rattle.py_evaluate.proofs.AttributeLemmas.Want.{wants, want_on}
use Rattle.py_evaluate.proofs.Steps.{row_trees, row_parts, behind_none, values_step, values_fault, values_end, known_more, argument_wants, others_want, part_wants, parts_want, text_step, text_fault, text_end}
use Rattle.py_evaluate.proofs.evaluation.+evaluating.Goals as goal

pub value_of-returns-in-FormatString : goal.value_of-returns-in-FormatString
value_of-returns-in-FormatString g t c =
    let e : tree.view c.args.e.now ≡ tree.FormatString (parts_of c.deref.result.now) = search (rules, the_lemmas, row_parts) in
    rw e c.format_string.ensures

pub value_of-returns-in-Call : goal.value_of-returns-in-Call
value_of-returns-in-Call g t c =
    let e : tree.view c.args.e.now ≡ tree.Call c.in-Call.function (trees_of c.deref-in-Call.result.now) = search (rules, the_lemmas, row_trees) in
    rw e c.call.ensures

pub values_of-loop-e-init : goal.values_of-loop-e-init
values_of-loop-e-init g t c =
    let s = scope c.args.task (g.N.Locals.names c.args.names.now) (g.V.Look.view c.args.view.now) in
    rw c.new-values.ensures.items (behind_none (eval_row s (trees_of c.args.arguments.now) c.args.next.now), tt, omega arith, λ j w. w)

pub values_of-returns-in_err-v-clause-ends : goal.values_of-returns-in_err-v-clause-ends
values_of-returns-in_err-v-clause-ends g t c =
    let s = scope c.args.task (g.N.Locals.names c.args.names.now) (g.V.Look.view c.args.view.now) in
    let whole = eval_row s (trees_of c.args.arguments.now) c.args.next.now in
    let p = err_from_is_err_and c.from_residual.result c.from_residual.ensures.1 in
    rw (p.1, p.2)
    (values_fault s c.args.arguments.now c.loop-e.e-index c.e-item.result c.loop-e.values.items c.loop-e.next c.value_of.new.next c.in_err-v.field-0.0 whole
    c.loop-e-test.true c.e-item.is c.loop-e.invariant.0 c.in_err-v.ensures.ends)

pub values_of-loop-e-preserved : goal.values_of-loop-e-preserved
values_of-loop-e-preserved g t c =
    let s = scope c.args.task (g.N.Locals.names c.args.names.now) (g.V.Look.view c.args.view.now) in
    let whole = eval_row s (trees_of c.args.arguments.now) c.args.next.now in
    let before = c.loop-e.invariant.2 in
    let rises = c.in_ok-v.ensures.rises in
    let risen : c.args.next.now ≤ c.value_of.new.next = omega (arith, before, rises) in
    rw c.in_ok-push.ensures.items (
      values_step s c.args.arguments.now c.loop-e.e-index c.e-item.result c.loop-e.values.items c.loop-e.next c.value_of.new.next c.in_ok-v.v whole
          c.loop-e-test.true c.e-item.is c.loop-e.invariant.0 c.in_ok-v.ensures.ends,
      known_more (g.V.Look.view c.args.view.now) c.loop-e.values.items c.in_ok-v.v c.loop-e.invariant.1 c.in_ok-v.ensures.known,
      risen,
      λ j w. c.loop-e.invariant.3 j
          (others_want s c.args.arguments.now c.loop-e.e-index c.e-item.result c.loop-e.next j c.in_ok-v.v c.value_of.new.next c.loop-e-test.true c.e-item.is
          c.in_ok-v.ensures.ends (inr w)),
    )

pub values_of-returns-in_err-v-clause-want : goal.values_of-returns-in_err-v-clause-want
values_of-returns-in_err-v-clause-want g t c =
    let s = scope c.args.task (g.N.Locals.names c.args.names.now) (g.V.Look.view c.args.view.now) in
    let p = err_from_is_err_and c.from_residual.result c.from_residual.ensures.1 in
    rw (p.1, p.2)
    (want_on c.in_err-v.field-0.0 (Wants s (tree.view c.e-item.result) c.loop-e.next c.value_of.new.next)
    (RowWants s (trees_of c.args.arguments.now) c.args.next.now c.value_of.new.next)
    (λ w. c.loop-e.invariant.3 c.value_of.new.next
    (argument_wants s c.args.arguments.now c.loop-e.e-index c.e-item.result c.loop-e.next c.value_of.new.next c.loop-e-test.true c.e-item.is (inl w)))
    c.in_err-v.ensures.want)

pub values_of-returns-in_err-push-clause-want : goal.values_of-returns-in_err-push-clause-want
values_of-returns-in_err-push-clause-want g t c =
    let s = scope c.args.task (g.N.Locals.names c.args.names.now) (g.V.Look.view c.args.view.now) in
    wants _ (RowWants s (trees_of c.args.arguments.now) c.args.next.now c.value_of.new.next)
    (c.loop-e.invariant.3 c.value_of.new.next
    (others_want s c.args.arguments.now c.loop-e.e-index c.e-item.result c.loop-e.next c.value_of.new.next c.in_ok-v.v c.value_of.new.next c.loop-e-test.true c.e-item.is
    c.in_ok-v.ensures.ends (inl refl)))

pub values_of-returns-clause-ends : goal.values_of-returns-clause-ends
values_of-returns-clause-ends g t c =
    let s = scope c.args.task (g.N.Locals.names c.args.names.now) (g.V.Look.view c.args.view.now) in
    values_end s c.args.arguments.now c.loop-e.e-index c.loop-e.values.items c.loop-e.next (eval_row s (trees_of c.args.arguments.now) c.args.next.now)
    c.loop-e-test.false c.loop-e.invariant.0

pub text_of-loop-part-init : goal.text_of-loop-part-init
text_of-loop-part-init g t c =
    let s = scope c.args.task (g.N.Locals.names c.args.names.now) (g.V.Look.view c.args.view.now) in
    rw c.new-text.ensures.items (behind_none (eval_parts s (parts_of c.args.parts.now) c.args.next.now), omega arith, λ j w. w)

pub text_of-returns-in_err-shown-clause-ends : goal.text_of-returns-in_err-shown-clause-ends
text_of-returns-in_err-shown-clause-ends g t c =
    let s = scope c.args.task (g.N.Locals.names c.args.names.now) (g.V.Look.view c.args.view.now) in
    let whole = eval_parts s (parts_of c.args.parts.now) c.args.next.now in
    let p = err_from_is_err_and c.from_residual.result c.from_residual.ensures.1 in
    rw (p.1, p.2)
    (text_fault s c.args.parts.now c.loop-part.part-index c.part-item.result c.loop-part.text.items c.loop-part.next c.part_text.new.next c.in_err-shown.field-0.0 whole
    c.loop-part-test.true c.part-item.is c.loop-part.invariant.0 c.in_err-shown.ensures.ends)

pub text_of-loop-part-preserved : goal.text_of-loop-part-preserved
text_of-loop-part-preserved g t c =
    let s = scope c.args.task (g.N.Locals.names c.args.names.now) (g.V.Look.view c.args.view.now) in
    let whole = eval_parts s (parts_of c.args.parts.now) c.args.next.now in
    let before = c.loop-part.invariant.1 in
    let rises = c.in_ok-shown.ensures.rises in
    let risen : c.args.next.now ≤ c.part_text.new.next = omega (arith, before, rises) in
    rw c.in_ok-extend_from_slice.ensures.items (
      rw c.bytes.ensures
          (text_step s c.args.parts.now c.loop-part.part-index c.part-item.result c.loop-part.text.items c.loop-part.next c.part_text.new.next c.in_ok-shown.shown whole
          c.loop-part-test.true c.part-item.is c.loop-part.invariant.0 c.in_ok-shown.ensures.ends),
      risen,
      λ j w. c.loop-part.invariant.2 j
          (parts_want s c.args.parts.now c.loop-part.part-index c.part-item.result c.loop-part.next j c.in_ok-shown.shown c.part_text.new.next c.loop-part-test.true c.part-item.is
          c.in_ok-shown.ensures.ends (inr w)),
    )

pub text_of-returns-in_err-shown-clause-want : goal.text_of-returns-in_err-shown-clause-want
text_of-returns-in_err-shown-clause-want g t c =
    let s = scope c.args.task (g.N.Locals.names c.args.names.now) (g.V.Look.view c.args.view.now) in
    let p = err_from_is_err_and c.from_residual.result c.from_residual.ensures.1 in
    rw (p.1, p.2)
    (want_on c.in_err-shown.field-0.0 (PartWants s c.part-item.result c.loop-part.next c.part_text.new.next)
    (PartsWant s (parts_of c.args.parts.now) c.args.next.now c.part_text.new.next)
    (λ w. c.loop-part.invariant.2 c.part_text.new.next
    (part_wants s c.args.parts.now c.loop-part.part-index c.part-item.result c.loop-part.next c.part_text.new.next c.loop-part-test.true c.part-item.is w))
    c.in_err-shown.ensures.want)

pub text_of-returns-in_err-extend_from_slice-clause-want : goal.text_of-returns-in_err-extend_from_slice-clause-want
text_of-returns-in_err-extend_from_slice-clause-want g t c =
    let s = scope c.args.task (g.N.Locals.names c.args.names.now) (g.V.Look.view c.args.view.now) in
    wants _ (PartsWant s (parts_of c.args.parts.now) c.args.next.now c.part_text.new.next)
    (c.loop-part.invariant.2 c.part_text.new.next
    (parts_want s c.args.parts.now c.loop-part.part-index c.part-item.result c.loop-part.next c.part_text.new.next c.in_ok-shown.shown c.part_text.new.next c.loop-part-test.true
    c.part-item.is c.in_ok-shown.ensures.ends (inl refl)))

pub text_of-returns-clause-ends : goal.text_of-returns-clause-ends
text_of-returns-clause-ends g t c =
    let s = scope c.args.task (g.N.Locals.names c.args.names.now) (g.V.Look.view c.args.view.now) in
    text_end s c.args.parts.now c.loop-part.part-index c.loop-part.text.items c.loop-part.next (eval_parts s (parts_of c.args.parts.now) c.args.next.now)
    c.loop-part-test.false c.loop-part.invariant.0
