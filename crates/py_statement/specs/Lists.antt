-- A means of proof: lists of a known length, as the code takes them apart.
use Rattle.std.specs.Prelude.{List, [], ◌∷◌, Option, Some, None}
use Rattle.py_syntax.specs.ExpressionTrees.{view}
use Rattle.py_syntax.specs.StatementTrees.{Span, Stop, StartStop, StartStopStep}
use Rattle.py_syntax.specs.declared.expression.Expression.{Expression}
use Rattle.py_statement.specs.declared.tree.Few.{Few}
use Rattle.py_statement.specs.declared.tree.Few.TheVariants as few

abbrev pub few_of : {A : Type 0} → List A → Option (Few A)
few_of (x ∷ []) = Some (few.One x)
few_of (x ∷ y ∷ []) = Some (few.Two x y)
few_of (x ∷ y ∷ z ∷ []) = Some (few.Three x y z)
few_of _ = None

abbrev pub span_in : Few Expression → Span
span_in (few.One x) = Stop (view x)
span_in (few.Two x y) = StartStop (view x) (view y)
span_in (few.Three x y z) = StartStopStep (view x) (view y) (view z)
