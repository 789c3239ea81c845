-- One element more at the end of a list of the code's trees.
use Rattle.std.proofs.Common.{◌≡◌, List, [], ◌∷◌, ◌++◌, refl, ap}
use Rattle.py_syntax.specs.ExpressionTrees.{Then, Parts, NoPart, view, view_part, view_row, view_parts}
use Rattle.py_syntax.specs.declared.expression.Expression.{Expression, Row_of-Expression, end_of-Expression, more_of-Expression, Row_of-FormatPart, end_of-FormatPart, more_of-FormatPart}
use Rattle.py_syntax.specs.declared.expression.Expression.TheBlock.{items-the_row-Expression, items-the_row-FormatPart}
use Rattle.py_syntax.specs.declared.expression.FormatPart.{FormatPart}
use Rattle.py_syntax.specs.declared.expression.FormatPart.TheVariants as part
use Rattle.py_expression.specs.Rows.{trees_of, parts_of}
use Rattle.py_expression.specs.Shown.{snoc, joined}

pub trees_of_more : (es : List Expression) (e : Expression) → trees_of (es ++ (e ∷ [])) ≡ snoc (trees_of es) (view e)
unfolding snoc
trees_of_more [] e = refl
trees_of_more (x ∷ es) e = ap (λ ts. Then (view x) ts) (trees_of_more es e)

view_part_joined : (p : FormatPart) (ps qs : Parts) → view_part p (joined ps qs) ≡ joined (view_part p ps) qs
unfolding joined
view_part_joined (part.Text t) ps qs = refl
view_part_joined (part.Formatted' p e) ps qs = refl

pub parts_of_more : (ps : List FormatPart) (p : FormatPart) → parts_of (ps ++ (p ∷ [])) ≡ joined (parts_of ps) (view_part p NoPart)
unfolding joined
parts_of_more [] p = refl
parts_of_more (x ∷ ps) p = rw (parts_of_more ps p) (view_part_joined x (parts_of ps) (view_part p NoPart))

pub row_trees : (n : _) (k : Row_of-Expression n) → view_row k ≡ trees_of (items-the_row-Expression n k)
row_trees n end_of-Expression = refl
row_trees n (more_of-Expression e rest) = ap (λ ts. Then (view e) ts) (row_trees _ rest)

pub row_parts : (n : _) (k : Row_of-FormatPart n) → view_parts k ≡ parts_of (items-the_row-FormatPart n k)
row_parts n end_of-FormatPart = refl
row_parts n (more_of-FormatPart p rest) = ap (λ ps. view_part p ps) (row_parts _ rest)
