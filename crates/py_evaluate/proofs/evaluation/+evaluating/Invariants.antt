use Rattle.std.proofs.Common.{◌≡◌, ℕ, ◌≤◌, ◌+◌, ◌*◌, drop}
use Rattle.std.specs.Prelude.{max}
use Rattle.py_syntax.proofs.expression.Expression.TheLaws.{the_size}
use Rattle.py_evaluate.specs.Attribute.Knows.{KnowsAll}
use Rattle.py_evaluate.specs.Eval.{eval_row, eval_parts}
use Rattle.py_evaluate.specs.Gives.{scope}
use Rattle.py_evaluate.specs.Rows.{trees_of, parts_of}
use Rattle.py_evaluate.specs.Wants.{RowWants, PartsWant}
use Rattle.py_evaluate.proofs.Steps.{behind}
use Rattle.py_evaluate.proofs.evaluation.+evaluating.Given as goal

abbrev pub decreases-value_of : goal.decreases-value_of
decreases-value_of g l = 3 * goal.size-value_of g l + 0

abbrev pub decreases-attribute_of : goal.decreases-attribute_of
decreases-attribute_of g l = 3 * goal.size-attribute_of g l + 1

abbrev pub decreases-method_call : goal.decreases-method_call
decreases-method_call g l = 3 * goal.size-method_call g l + 1

abbrev pub decreases-unary : goal.decreases-unary
decreases-unary g l = 3 * goal.size-unary g l + 1

abbrev pub decreases-call : goal.decreases-call
decreases-call g l = 3 * goal.size-call g l + 2

abbrev pub decreases-values_of : goal.decreases-values_of
decreases-values_of g l = 3 * goal.size-values_of g l + 1

abbrev pub decreases-format_string : goal.decreases-format_string
decreases-format_string g l = 3 * goal.size-format_string g l + 2

abbrev pub decreases-text_of : goal.decreases-text_of
decreases-text_of g l = 3 * goal.size-text_of g l + 1

abbrev pub decreases-part_text : goal.decreases-part_text
decreases-part_text g l = 3 * goal.size-part_text g l + 0

abbrev pub decreases-binary : goal.decreases-binary
decreases-binary g l = 3 * max (the_size l.left.now) (the_size l.right.now) + 1

abbrev pub decreases-choice : goal.decreases-choice
decreases-choice g l = 3 * max (the_size l.left.now) (the_size l.right.now) + 1

abbrev pub decreases-subscript : goal.decreases-subscript
decreases-subscript g l = 3 * max (the_size l.base.now) (the_size l.index.now) + 1

abbrev pub invariant-values_of-loop-e : goal.invariant-values_of-loop-e
invariant-values_of-loop-e g l =
    let s = scope l.task (g.N.Locals.names l.names) (g.V.Look.view l.view) in
    (behind l.values.items (eval_row s (trees_of (drop l.e-index l.arguments)) l.next) ≡ eval_row s (trees_of l.arguments) l.initial.next)
    × KnowsAll (g.V.Look.view l.view) l.values.items
    × (l.initial.next ≤ l.next)
    × ((j : ℕ) → RowWants s (trees_of (drop l.e-index l.arguments)) l.next j → RowWants s (trees_of l.arguments) l.initial.next j)

abbrev pub invariant-text_of-loop-part : goal.invariant-text_of-loop-part
invariant-text_of-loop-part g l =
    let s = scope l.task (g.N.Locals.names l.names) (g.V.Look.view l.view) in
    (behind l.text.items (eval_parts s (parts_of (drop l.part-index l.parts)) l.next) ≡ eval_parts s (parts_of l.parts) l.initial.next)
    × (l.initial.next ≤ l.next)
    × ((j : ℕ) → PartsWant s (parts_of (drop l.part-index l.parts)) l.next j → PartsWant s (parts_of l.parts) l.initial.next j)
