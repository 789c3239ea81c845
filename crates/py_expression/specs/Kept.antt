-- A means of proof: what the code keeps, without where it lies in memory, for the proofs of Python's parser.
use Rattle.std.specs.Prelude.{length}
use Rattle.py_syntax.specs.ExpressionTrees.{view}
use Rattle.py_expression.specs.Rows.{trees_of, parts_of}
use Rattle.py_expression.specs.Shown.{Shown, ShownTrees, ShownParts}
use Rattle.py_expression.specs.declared.measured.Measured.{Measured}
use Rattle.py_expression.specs.declared.arguments.FunctionArguments.{FunctionArguments}
use Rattle.py_expression.specs.declared.parts.Parts.{Parts}

abbrev pub measured : Measured → Shown
measured m = record { tree = view m.tree.value; height = m.height }

abbrev pub arguments_in : FunctionArguments → ShownTrees
arguments_in a = record { trees = trees_of a.trees.items; count = length a.trees.items; height = a.height }

abbrev pub parts_in : Parts → ShownParts
parts_in a = record { parts = parts_of a.parts.items; height = a.height }
