-- Lists of trees that are taken apart, and the same lists seen by a view.
use Rattle.std.proofs.Common.{◌≡◌, List, [], ◌∷◌, map, refl}
use Rattle.py_syntax.specs.ExpressionTrees.{view}
use Rattle.py_syntax.specs.StatementTrees.{optional}
use Rattle.py_syntax.specs.declared.expression.Expression.{Expression}
use Rattle.py_statement.specs.Reading.{first_of, range_of}
use Rattle.py_statement.specs.Lists.{few_of, span_in}

pub first_seen : {A B : Type 0} (see : A → B) (xs : List A) → first_of (map see xs) ≡ optional (λ x. (see x.0, map see x.1)) (first_of xs)
first_seen see [] = refl
first_seen see (x ∷ xs) = refl

pub range_seen : (xs : List Expression) → range_of (map view xs) ≡ optional span_in (few_of xs)
range_seen [] = refl
range_seen (x ∷ []) = refl
range_seen (x ∷ y ∷ []) = refl
range_seen (x ∷ y ∷ z ∷ []) = refl
range_seen (x ∷ y ∷ z ∷ w ∷ xs) = refl
