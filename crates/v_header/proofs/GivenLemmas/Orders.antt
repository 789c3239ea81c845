-- Values in order, and what is left of them.
use Rattle.std.proofs.Common.{◌≡◌, ℕ, ◌+◌, ◌<◌, ◌≤◌, List, [], ◌∷◌, map, length, drop, get_or, min, nat_le, Bool, true, false, refl, sym, ap, ◌∙◌, subst, arith}
use Rattle.std.specs.Borrow.{Bor}
use Rattle.std.proofs.lemmas.List.{drop_all, drop_more}
use Rattle.std.proofs.lemmas.Bool.Decides.{nat_tests}
use Rattle.four_value.specs.declared.Digit.{Digit}
use Rattle.v_syntax.specs.declared.expression.Expression.{Expression}
use Rattle.v_syntax.specs.ExpressionTrees.{view}
use Rattle.v_flat.specs.declared.scope.found.Found.{Found}
use Rattle.v_flat.specs.Scope.Found.{each, both}
use Rattle.v_flat.specs.Scope.Scope.{Scope}
use Rattle.v_flat.specs.Checks.{constant_of}
use Rattle.v_flat.specs.Declarations.{Given}
use Rattle.v_flat.specs.Design.{one_more, ordered_given}
use Rattle.v_header.specs.Names.{texts}
use Rattle.v_header.specs.Given.Given.{given_values, FindsTheSame}
use Rattle.v_header.proofs.GivenLemmas.Added.{value_too}

-- what is left, from the element at i on
pub here : {A : Type 0} (xs : List A) (i : ℕ) (a : A) → i < length xs → a ≡ get_or xs i a → drop i xs ≡ a ∷ drop (i + 1) xs
here {A} xs i a h e = drop_more xs i a h ∙ ap (λ (x : A). x ∷ drop (i + 1) xs) (sym e)

-- those behind the first i
abbrev pub ordered_behind : Scope → List Expression → List (Bor (List ℕ)) → ℕ → Found (List Given)
ordered_behind s es ns i = ordered_given s (map view (drop i es)) (texts (drop i ns))

pub ordered_next : (s : Scope) (es : List Expression) (ns : List (Bor (List ℕ))) (i : ℕ) (e : Expression) (n : Bor (List ℕ)) (v : Found (List Digit)) (f g : Found (List Given))
    → drop i es ≡ e ∷ drop (i + 1) es → drop i ns ≡ n ∷ drop (i + 1) ns → v ≡ constant_of s (view e) → FindsTheSame (ordered_behind s es ns (i + 1)) f
    → FindsTheSame (each (one_more n.now) (both v f)) g → FindsTheSame (ordered_behind s es ns i) g
ordered_next s es ns i e n v f g a b k h m =
    subst (λ (xs : List Expression). FindsTheSame (ordered_given s (map view xs) (texts (drop i ns))) g) (sym a)
    (subst (λ (ys : List (Bor (List ℕ))). FindsTheSame (ordered_given s (map view (e ∷ drop (i + 1) es)) (texts ys)) g) (sym b)
    (value_too n.now (constant_of s (view e)) (ordered_behind s es ns (i + 1)) f g h
    (subst (λ (w : Found (List Digit)). FindsTheSame (each (one_more n.now) (both w f)) g) k m)))

-- where as many values have an open parameter as there are of the fewer, what is left of them
end_by : (s : Scope) (es : List Expression) (ns : List (Bor (List ℕ))) (k : ℕ) (b : Bool) → nat_le (length ns) (length es) ≡ b → k ≡ min (length es) (length ns)
    → ordered_given s (map view (drop (length ns) es)) [] ≡ ordered_behind s es ns k
end_by s es ns k true h e =
    let m : length ns ≤ k = grind (arith, nat_tests) in
    let q : length ns ≡ k = grind (arith, nat_tests) in
    ap (λ (n : ℕ). ordered_given s (map view (drop n es)) []) q
    ∙ ap (λ (xs : List (Bor (List ℕ))). ordered_given s (map view (drop k es)) (texts xs)) (sym (drop_all k ns m))
end_by s es ns k false h e =
    let m : length es ≤ k = grind (arith, nat_tests) in
    let q : length es ≤ length ns = grind (arith, nat_tests) in
    ap (λ (xs : List Expression). ordered_given s (map view xs) []) (drop_all (length ns) es q)
    ∙ ap (λ (xs : List Expression). ordered_given s (map view xs) (texts (drop k ns))) (sym (drop_all k es m))

pub ordered_end : (s : Scope) (es : List Expression) (ns : List (Bor (List ℕ))) (k : ℕ) (f : Found (List Given)) → k ≡ min (length es) (length ns)
    → f ≡ ordered_given s (map view (drop (length ns) es)) [] → FindsTheSame (ordered_behind s es ns k) f
ordered_end s es ns k f e h =
    ap (λ (x : Found (List Given)). each given_values x) (h ∙ end_by s es ns k (nat_le (length ns) (length es)) refl e)
