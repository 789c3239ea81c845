-- Expressions, in a row and as the parts of an f-string.
use Rattle.std.proofs.Common.{◌≡◌, ℕ, ◌+◌, ◌<◌, List, [], ◌∷◌, ◌++◌, length, map, take, get_or, refl, sym, ap, ◌∙◌}
use Rattle.std.proofs.lemmas.List.{map-append, take_more}
use Rattle.py_syntax.specs.ExpressionTrees.{Tree, Then, Parts, NoPart, TextThen, FormattedThen, view, view_part, view_row, view_parts}
use Rattle.py_syntax.specs.declared.expression.Expression.{Expression, Row_of-Expression, end_of-Expression, more_of-Expression, Row_of-FormatPart, end_of-FormatPart, more_of-FormatPart}
use Rattle.py_syntax.specs.declared.expression.Expression.TheBlock.{items-the_row-Expression, items-the_row-FormatPart}
use Rattle.py_syntax.specs.declared.expression.FormatPart.{FormatPart}
use Rattle.py_syntax.specs.declared.expression.FormatPart.TheVariants as part
use Rattle.test_functions.specs.Expressions.Rows.{row, trees_of, parts_of}
use Rattle.test_meaning.specs.Bodies.{Inside, tree_in, row_in, parts_in}

pub row_trees : (n : _) (k : Row_of-Expression n) → view_row k ≡ trees_of (items-the_row-Expression n k)
row_trees n end_of-Expression = refl
row_trees n (more_of-Expression e rest) = ap (λ ts. Then (view e) ts) (row_trees _ rest)

pub row_parts : (n : _) (k : Row_of-FormatPart n) → view_parts k ≡ parts_of (items-the_row-FormatPart n k)
row_parts n end_of-FormatPart = refl
row_parts n (more_of-FormatPart p rest) = ap (λ ps. view_part p ps) (row_parts _ rest)

-- a row of expressions with values in place of constants
pub row_made : (s : Inside) (es : List Expression) → row_in s (trees_of es) ≡ row (map (λ e. tree_in s (view e)) es)
row_made s [] = refl
row_made s (e ∷ es) = ap (λ ts. Then (tree_in s (view e)) ts) (row_made s es)

pub made_row : (s : Inside) (es ms : List Expression) → map view ms ≡ map (λ e. tree_in s (view e)) es → trees_of ms ≡ row_in s (trees_of es)
made_row s es ms h = ap (λ (ts : List Tree). row ts) h ∙ sym (row_made s es)

-- parts behind parts
abbrev joined : Parts → Parts → Parts
joined NoPart qs = qs
joined (TextThen t ps) qs = TextThen t (joined ps qs)
joined (FormattedThen e ps) qs = FormattedThen e (joined ps qs)

part_joined : (p : FormatPart) (ps qs : Parts) → view_part p (joined ps qs) ≡ joined (view_part p ps) qs
part_joined (part.Text t) ps qs = refl
part_joined (part.Formatted' p e) ps qs = refl

parts_joined : (ps : List FormatPart) (p : FormatPart) → parts_of (ps ++ (p ∷ [])) ≡ joined (parts_of ps) (view_part p NoPart)
parts_joined [] p = refl
parts_joined (x ∷ ps) p = ap (λ qs. view_part x qs) (parts_joined ps p) ∙ part_joined x (parts_of ps) (view_part p NoPart)

in_joined : (s : Inside) (ps qs : Parts) → parts_in s (joined ps qs) ≡ joined (parts_in s ps) (parts_in s qs)
in_joined s NoPart qs = refl
in_joined s (TextThen t ps) qs = ap (λ rs. TextThen t rs) (in_joined s ps qs)
in_joined s (FormattedThen e ps) qs = ap (λ rs. FormattedThen (tree_in s e) rs) (in_joined s ps qs)

behind_parts : (s : Inside) (ps ms : List FormatPart) (p m : FormatPart) → parts_of ms ≡ parts_in s (parts_of ps) → view_part m NoPart ≡ parts_in s (view_part p NoPart)
    → parts_of (ms ++ (m ∷ [])) ≡ parts_in s (parts_of (ps ++ (p ∷ [])))
behind_parts s ps ms p m h k =
    parts_joined ms m ∙ ap (λ qs. joined qs (view_part m NoPart)) h ∙ ap (λ qs. joined (parts_in s (parts_of ps)) qs) k
    ∙ sym (in_joined s (parts_of ps) (view_part p NoPart)) ∙ sym (ap (λ qs. parts_in s qs) (parts_joined ps p))

-- one element more of a list
taken : {A : Type 0} (xs : List A) (i : ℕ) (x : A) → i < length xs → x ≡ get_or xs i x → take i xs ++ (x ∷ []) ≡ take (i + 1) xs
taken xs i x h is = ap (λ y. take i xs ++ (y ∷ [])) is ∙ sym (take_more xs i x h)

-- one element more of a list that is made from another
pub more_made : {A B C : Type 0} (f : B → C) (g : A → C) (xs : List A) (ms : List B) (i : ℕ) (x : A) (m : B) → i < length xs → x ≡ get_or xs i x
    → map f ms ≡ map g (take i xs) → f m ≡ g x → map f (ms ++ (m ∷ [])) ≡ map g (take (i + 1) xs)
more_made f g xs ms i x m h is same one =
    map-append f ms (m ∷ []) ∙ ap (λ ys. ys ++ (f m ∷ [])) same ∙ ap (λ y. map g (take i xs) ++ (y ∷ [])) one
    ∙ sym (map-append g (take i xs) (x ∷ [])) ∙ ap (λ ys. map g ys) (taken xs i x h is)

-- one part more
pub more_parts : (s : Inside) (ps ms : List FormatPart) (i : ℕ) (p m : FormatPart) → i < length ps → p ≡ get_or ps i p
    → parts_of ms ≡ parts_in s (parts_of (take i ps)) → view_part m NoPart ≡ parts_in s (view_part p NoPart)
    → parts_of (ms ++ (m ∷ [])) ≡ parts_in s (parts_of (take (i + 1) ps))
more_parts s ps ms i p m h is same one =
    behind_parts s (take i ps) ms p m same one ∙ ap (λ qs. parts_in s (parts_of qs)) (taken ps i p h is)
