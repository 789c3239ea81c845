-- The operands that are written.
use Rattle.std.proofs.Common.{◌≡◌, ℕ, suc, ◌+◌, ◌<◌, Bool, Result, IfOk, Vec, Global, subst, List, [], ◌∷◌, ◌++◌, length, map, take, get_or, refl, sym, ap, ◌∙◌, arith}
use Rattle.std.proofs.lemmas.List.{map-append, take_more, length-map, length-take}
use Rattle.std.proofs.lemmas.Result.{IfOk-weaker}
use Rattle.py_syntax.specs.ExpressionTrees.{Tree, view}
use Rattle.py_syntax.specs.StatementTrees.{Argument, view_argument}
use Rattle.py_syntax.specs.declared.call.Argument as code
use Rattle.py_syntax.specs.declared.expression.Expression.{Expression}
use Rattle.py_syntax.specs.declared.module.Parameter.{Parameter}
use Rattle.test_names.specs.Arguments.Marks.{AreMarks}
use Rattle.test_meaning.specs.Body.BodyTrees.{Operand}
use Rattle.test_meaning.specs.Body.Views.{view_operand}
use Rattle.test_meaning.specs.declared.body.call.Operand as made
use Rattle.test_meaning.specs.Bodies.{Inside, tree_in, default_operands, given_operands, given_places, operands_in}
use Rattle.test_meaning.specs.Rules.Rules.{place_of, parameter_places}

-- one argument behind others
behind : (s : Inside) (ps : List Parameter) (k : ℕ) (xs : List Argument) (a : Argument)
    → given_operands s ps k (xs ++ (a ∷ []))
    ≡ given_operands s ps k xs ++ (record { parameter = place_of ps (k + length xs) a.name; value = tree_in s a.value } ∷ [])
behind s ps k [] a =
    let e : k ≡ k + 0 = omega arith in
    ap (λ (j : ℕ). record { parameter = place_of ps j a.name; value = tree_in s a.value } ∷ (let os : List Operand = [] in os)) e
behind s ps k (x ∷ xs) a =
    let e : suc k + length xs ≡ k + suc (length xs) = omega arith in
    let o : Operand = record { parameter = place_of ps k x.name; value = tree_in s x.value } in
    ap (λ (os : List Operand). o ∷ os)
    (behind s ps (suc k) xs a
    ∙ ap (λ (j : ℕ). given_operands s ps (suc k) xs ++ (record { parameter = place_of ps j a.name; value = tree_in s a.value } ∷ [])) e)

same_operand : (i j : ℕ) (d e : Tree) → i ≡ j → d ≡ e
    → (let o : Operand = record { parameter = i; value = d } in o) ≡ (let o : Operand = record { parameter = j; value = e } in o)
same_operand i j d e p q = rw (p, q) refl

-- one argument more
pub given_more : (s : Inside) (ps : List Parameter) (xs : List code.Argument) (os : List made.Operand) (i : ℕ) (x : code.Argument) (o : made.Operand)
    → i < length xs → x ≡ get_or xs i x → o.parameter ≡ place_of ps i x.name → view o.value ≡ tree_in s (view x.value)
    → map view_operand os ≡ given_operands s ps 0 (map view_argument (take i xs))
    → map view_operand (os ++ (o ∷ [])) ≡ given_operands s ps 0 (map view_argument (take (i + 1) xs))
given_more s ps xs os i x o h is p v same =
    let n : 0 + length (map view_argument (take i xs)) ≡ i = omega (arith, length-map (take i xs) view_argument, length-take i xs, h) in
    map-append view_operand os (o ∷ []) ∙ ap (λ (ps : List Operand). ps ++ (view_operand o ∷ [])) same
    ∙ ap (λ (q : Operand). given_operands s ps 0 (map view_argument (take i xs)) ++ (q ∷ []))
    (same_operand o.parameter (place_of ps (0 + length (map view_argument (take i xs))) x.name) (view o.value) (tree_in s (view x.value))
    (p ∙ ap (λ (j : ℕ). place_of ps j x.name) (sym n)) v)
    ∙ sym (behind s ps 0 (map view_argument (take i xs)) (view_argument x))
    ∙ ap (λ (ys : List Argument). given_operands s ps 0 ys) (sym (map-append view_argument (take i xs) (x ∷ [])))
    ∙ ap (λ (ys : List code.Argument). given_operands s ps 0 (map view_argument ys)) (ap (λ y. take i xs ++ (y ∷ [])) is ∙ sym (take_more xs i x h))

-- the parameters that they are for
pub for_places : (s : Inside) (ps : List Parameter) (k : ℕ) (xs : List Argument)
    → map (λ o. o.parameter) (given_operands s ps k xs) ≡ parameter_places ps k (map (λ a. a.name) xs)
for_places s ps k [] = refl
for_places s ps k (x ∷ xs) = ap (λ ks. place_of ps k x.name ∷ ks) (for_places s ps (suc k) xs)

pub seen_places : (os : List made.Operand) → map (λ o. o.parameter) os ≡ map (λ (o : Operand). o.parameter) (map view_operand os)
seen_places [] = refl
seen_places (o ∷ os) = ap (λ ks. o.parameter ∷ ks) (seen_places os)

-- all operands of a call
pub operands_done : {E : Type 0} (r : Result (Vec made.Operand Global) E) (s : Inside) (ps : List Parameter) (xs : List code.Argument) (written : List made.Operand)
    (given : List Bool) (n : ℕ) → n ≡ length ps → map view_operand written ≡ given_operands s ps 0 (map view_argument xs)
    → AreMarks n (map (λ o. o.parameter) written) given
    → IfOk r (λ all. (ks : List ℕ) → AreMarks (length ps) ks given → map view_operand all.items ≡ map view_operand written ++ default_operands s.file ks 0 ps)
    → IfOk r (λ all. map view_operand all.items ≡ operands_in s ps (map view_argument xs))
operands_done r s ps xs written given n count e marks h =
    let at : List Operand → List ℕ = λ os. map (λ o. o.parameter) os in
    let places : map (λ o. o.parameter) written ≡ given_places ps (map view_argument xs) =
    seen_places written ∙ ap at e ∙ for_places s ps 0 (map view_argument xs) in
    let marked : AreMarks (length ps) (given_places ps (map view_argument xs)) given =
    subst (λ (k : ℕ). AreMarks k (given_places ps (map view_argument xs)) given) count (subst (λ (ks : List ℕ). AreMarks n ks given) places marks) in
    IfOk-weaker r (λ all. (ks : List ℕ) → AreMarks (length ps) ks given → map view_operand all.items ≡ map view_operand written ++ default_operands s.file ks 0 ps)
    (λ all. map view_operand all.items ≡ operands_in s ps (map view_argument xs))
    (λ all step. step (given_places ps (map view_argument xs)) marked
    ∙ ap (λ (os : List Operand). os ++ default_operands s.file (given_places ps (map view_argument xs)) 0 ps) e) h

-- expressions with values in place of constants, as trees
pub in_row : (s : Inside) (es : List Expression) → map (λ e. tree_in s (view e)) es ≡ map (tree_in s) (map view es)
in_row s [] = refl
in_row s (e ∷ es) = ap (λ (ts : List Tree). tree_in s (view e) ∷ ts) (in_row s es)
