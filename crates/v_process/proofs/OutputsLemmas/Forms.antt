-- Expressions that spell targets, one before others.
use Rattle.std.proofs.Common.{◌≡◌, ℕ, ◌+◌, ◌<◌, List, length, drop, get_or, Option, Some, None, is_some, true, false, refl, sym, ap, ◌∙◌}
use Rattle.std.proofs.lemmas.List.{drop_more}
use Rattle.v_syntax.specs.declared.expression.Expression as code
use Rattle.v_syntax.specs.ExpressionTrees.{Trees, TargetTree, TargetTrees, more, view, views}
use Rattle.v_flat.specs.Targets.{as_target, as_targets, one_target, joined_target}

one_spelled : (t : Option TargetTree) (ts : Option TargetTrees) → is_some t ≡ true → is_some (one_target t ts) ≡ is_some ts
one_spelled (Some t) (Some ts) h = refl
one_spelled (Some t) None h = refl
one_spelled None ts h = cc

none_spelled : (t : Option TargetTree) (ts : Option TargetTrees) → is_some t ≡ false → is_some (one_target t ts) ≡ false
none_spelled (Some t) ts h = cc
none_spelled None ts h = refl

pub braces_spelled : (p : ℕ) (ts : Option TargetTrees) → is_some ts ≡ is_some (joined_target p ts)
braces_spelled p None = refl
braces_spelled p (Some ts) = refl

pub views_here : (es : List code.Expression) (i : ℕ) (e : code.Expression) → i < length es → e ≡ get_or es i e → views (drop i es) ≡ more (view e) (views (drop (i + 1) es))
views_here es i e l is =
    ap (λ (xs : List code.Expression). views xs) (drop_more es i e l) ∙ ap (λ (x : code.Expression). more (view x) (views (drop (i + 1) es))) (sym is)

pub spelled_here : (es : List code.Expression) (i : ℕ) (e : code.Expression) → i < length es → e ≡ get_or es i e → is_some (as_target (view e)) ≡ true
    → is_some (as_targets (views (drop i es))) ≡ is_some (as_targets (views (drop (i + 1) es)))
spelled_here es i e l is h =
    ap (λ (ts : Trees). is_some (as_targets ts)) (views_here es i e l is) ∙ one_spelled (as_target (view e)) (as_targets (views (drop (i + 1) es))) h

pub not_here : (es : List code.Expression) (i : ℕ) (e : code.Expression) → i < length es → e ≡ get_or es i e → is_some (as_target (view e)) ≡ false
    → is_some (as_targets (views (drop i es))) ≡ false
not_here es i e l is h =
    ap (λ (ts : Trees). is_some (as_targets ts)) (views_here es i e l is) ∙ none_spelled (as_target (view e)) (as_targets (views (drop (i + 1) es))) h
