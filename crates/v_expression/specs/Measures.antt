-- A means of proof: what was read, with its height beside it, for the proofs of Verilog's parser.
use Rattle.std.specs.Prelude.{◌≡◌, ℕ, ◌≤◌}
use Rattle.v_syntax.specs.ExpressionTrees.{view, views, view_select, view_selects, height, select_height, selects_height, trees_height}
use Rattle.v_expression.specs.declared.measured.Measured.{Measured}
use Rattle.v_expression.specs.declared.measured.MeasuredSelect.{MeasuredSelect}
use Rattle.v_expression.specs.declared.measured.MeasuredSelects.{MeasuredSelects}
use Rattle.v_expression.specs.declared.measured.MeasuredParts.{MeasuredParts}

-- its height, at most n
abbrev pub IsMeasured : ℕ → Measured → Type 0
IsMeasured n m = (m.height ≡ height (view m.expression.value)) × (1 ≤ m.height) × (m.height ≤ n)

abbrev pub IsMeasuredSelect : ℕ → MeasuredSelect → Type 0
IsMeasuredSelect n m = (m.height ≡ select_height (view_select m.select.value)) × (1 ≤ m.height) × (m.height ≤ n)

abbrev pub IsMeasuredSelects : ℕ → MeasuredSelects → Type 0
IsMeasuredSelects n m = (m.height ≡ selects_height (view_selects m.selects.value)) × (1 ≤ m.height) × (m.height ≤ n)

abbrev pub IsMeasuredParts : ℕ → MeasuredParts → Type 0
IsMeasuredParts n m = (m.height ≡ trees_height (views m.parts.items)) × (1 ≤ m.height) × (m.height ≤ n)
