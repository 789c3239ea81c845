-- A means of proof: lists of the code's expressions, and of an f-string's parts.
use Rattle.std.specs.Prelude.{List, [], ◌∷◌, map}
use Rattle.py_syntax.specs.ExpressionTrees.{Tree, Trees, NoTree, Then, Parts, NoPart, view, view_part}
use Rattle.py_syntax.specs.declared.expression.Expression.{Expression}
use Rattle.py_syntax.specs.declared.expression.FormatPart.{FormatPart}

-- these trees, as the arguments of a call
abbrev pub row : List Tree → Trees
row [] = NoTree
row (e ∷ es) = Then e (row es)

abbrev pub trees_of : List Expression → Trees
trees_of es = row (map view es)

abbrev pub parts_of : List FormatPart → Parts
parts_of [] = NoPart
parts_of (p ∷ ps) = view_part p (parts_of ps)
