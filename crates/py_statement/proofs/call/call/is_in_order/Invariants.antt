use Rattle.std.proofs.Common.{◌≡◌, drop, map}
use Rattle.py_syntax.specs.StatementTrees.{view_argument}
use Rattle.py_syntax.specs.CallForms.{in_order, in_order_behind}
use Rattle.py_statement.proofs.call.call.is_in_order.Given as goal

abbrev pub invariant-loop-argument : goal.invariant-loop-argument
invariant-loop-argument l = in_order_behind l.named (map view_argument (drop l.argument-index l.list)) ≡ in_order (map view_argument l.list)
