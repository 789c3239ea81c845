-- A means of proof: lists of the code's trees as lists of trees, for the proofs of Python's parser.
use Rattle.std.specs.Prelude.{List, [], ◌∷◌}
use Rattle.py_syntax.specs.ExpressionTrees.{Trees, NoTree, Then, Parts, NoPart, view, view_part}
use Rattle.py_syntax.specs.declared.expression.Expression.{Expression}
use Rattle.py_syntax.specs.declared.expression.FormatPart.{FormatPart}

abbrev pub trees_of : List Expression → Trees
trees_of [] = NoTree
trees_of (e ∷ es) = Then (view e) (trees_of es)

abbrev pub parts_of : List FormatPart → Parts
parts_of [] = NoPart
parts_of (p ∷ ps) = view_part p (parts_of ps)
