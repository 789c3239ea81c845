use Rattle.std.proofs.Common.{◌≡◌, [], drop, map}
use Rattle.py_syntax.specs.ExpressionTrees.{view}
use Rattle.py_statement.specs.Reading.{kinds_behind}
use Rattle.py_statement.proofs.header.kinds.Given as goal

abbrev pub invariant-loop-tree : goal.invariant-loop-tree
invariant-loop-tree l = kinds_behind l.all.items (map view (drop l.tree-index l.list)) ≡ kinds_behind [] (map view l.list)
