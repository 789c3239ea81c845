use Rattle.std.proofs.Common.{◌≡◌, drop, map}
use Rattle.py_syntax.specs.StatementTrees.{view_argument}
use Rattle.py_statement.specs.Call.Reading.{are_placed}
use Rattle.py_statement.proofs.call.placed.are_placed.Given as goal

abbrev pub invariant-loop-argument : goal.invariant-loop-argument
invariant-loop-argument l = are_placed (map view_argument (drop l.argument-index l.list)) ≡ are_placed (map view_argument l.list)
