-- A part before those behind it.
use Rattle.std.proofs.Common.{ℕ, ◌+◌, ◌<◌, List, length, drop, get_or, sym, ap, subst}
use Rattle.std.proofs.lemmas.List.{drop_more}
use Rattle.v_syntax.specs.declared.expression.Expression as code
use Rattle.v_syntax.specs.ExpressionTrees.{Trees, more, view, views}
use Rattle.v_flat.specs.declared.scope.found.Found.{Found}
use Rattle.v_flat.specs.Scope.Scope.{Scope}
use Rattle.v_check.specs.declared.parts.parts.Parts.{Parts}
use Rattle.v_check.specs.Parts.Parts.{AreChecked}

pub one_more : (s : Scope) (xs : List code.Expression) (i : ℕ) (d : code.Expression) (f : Found Parts) → i < length xs
    → AreChecked s (more (view (get_or xs i d)) (views (drop (i + 1) xs))) f → AreChecked s (views (drop i xs)) f
one_more s xs i d f h k = subst (λ (es : Trees). AreChecked s es f) (sym (ap (λ (ys : List code.Expression). views ys) (drop_more xs i d h))) k
