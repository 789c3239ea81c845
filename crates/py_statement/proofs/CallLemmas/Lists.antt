-- Lists of arguments and of their values.
use Rattle.std.proofs.Common.{◌≡◌, List, [], ◌∷◌, map, refl, ap}
use Rattle.py_syntax.specs.StatementTrees.{optional}
use Rattle.py_syntax.specs.ExpressionTrees.{view}
use Rattle.py_syntax.specs.StatementTrees.{view_argument}
use Rattle.py_syntax.specs.declared.call.Argument.{Argument}
use Rattle.py_statement.specs.Call.Reading.{values, one_of, two_of}

pub values_seen : (xs : List Argument) → map view (map (λ (x : Argument). x.value) xs) ≡ values (map view_argument xs)
values_seen [] = refl
values_seen (x ∷ xs) = ap (λ es. view x.value ∷ es) (values_seen xs)

pub one_seen : {A B : Type 0} (see : A → B) (xs : List A) → one_of (map see xs) ≡ optional see (one_of xs)
one_seen see [] = refl
one_seen see (x ∷ []) = refl
one_seen see (x ∷ y ∷ xs) = refl

pub two_seen : {A B : Type 0} (see : A → B) (xs : List A) → two_of (map see xs) ≡ optional (λ x. (see x.0, see x.1)) (two_of xs)
two_seen see [] = refl
two_seen see (x ∷ []) = refl
two_seen see (x ∷ y ∷ []) = refl
two_seen see (x ∷ y ∷ z ∷ zs) = refl
