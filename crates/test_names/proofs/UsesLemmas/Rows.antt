-- The uses of a list of the code's trees, and of one more.
use Rattle.std.proofs.Common.{◌≡◌, ℕ, map, List, [], ◌∷◌, ◌++◌, refl, sym, ap, ◌∙◌}
use Rattle.std.proofs.lemmas.List.{append-nil}
use Rattle.std.specs.List.{flat_map}
use Rattle.py_syntax.specs.ExpressionTrees.{Parts, NoPart, view, view_part, view_row, view_parts}
use Rattle.py_syntax.specs.declared.expression.Expression.{Expression, Row_of-Expression, end_of-Expression, more_of-Expression, Row_of-FormatPart, end_of-FormatPart, more_of-FormatPart}
use Rattle.py_syntax.specs.declared.expression.Expression.TheBlock.{items-the_row-Expression, items-the_row-FormatPart}
use Rattle.py_syntax.specs.declared.expression.FormatPart.{FormatPart}
use Rattle.py_syntax.specs.declared.expression.FormatPart.TheVariants as part
use Rattle.py_syntax.specs.StatementTrees.{view_argument}
use Rattle.py_syntax.specs.declared.call.Argument as code
use Rattle.test_meaning.specs.Rules.Uses.{Use, Calls, argument_uses, tree_uses, row_uses, parts_uses}

pub row_of_uses : (n : _) (k : Row_of-Expression n) → row_uses (view_row k) ≡ flat_map (λ e. tree_uses (view e)) (items-the_row-Expression n k)
row_of_uses n end_of-Expression = refl
row_of_uses n (more_of-Expression e rest) = ap (λ (us : List Use). tree_uses (view e) ++ us) (row_of_uses _ rest)

part_and : (p : FormatPart) (us : List Use) (ps : Parts) → parts_uses ps ≡ us → parts_uses (view_part p ps) ≡ parts_uses (view_part p NoPart) ++ us
part_and (part.Text t) us ps e = e
part_and (part.Formatted' p e) us ps q =
    ap (λ (vs : List Use). tree_uses (view e) ++ vs) q ∙ ap (λ (vs : List Use). vs ++ us) (sym (append-nil (tree_uses (view e))))

pub parts_of_uses : (n : _) (k : Row_of-FormatPart n) → parts_uses (view_parts k) ≡ flat_map (λ p. parts_uses (view_part p NoPart)) (items-the_row-FormatPart n k)
parts_of_uses n end_of-FormatPart = refl
parts_of_uses n (more_of-FormatPart p rest) = part_and p _ (view_parts rest) (parts_of_uses _ rest)

-- the arguments of a call, as the code has them
pub argument_names : (xs : List code.Argument) → map (λ a. a.name) (map view_argument xs) ≡ map (λ a. a.name) xs
argument_names [] = refl
argument_names (x ∷ xs) = ap (λ ns. x.name ∷ ns) (argument_names xs)

pub argument_values : (xs : List code.Argument) → flat_map argument_uses (map view_argument xs) ≡ flat_map (λ a. tree_uses (view a.value)) xs
argument_values [] = refl
argument_values (x ∷ xs) = ap (λ (us : List Use). tree_uses (view x.value) ++ us) (argument_values xs)

pub values_of : (xs ys : List code.Argument) → ys ≡ xs → flat_map (λ a. tree_uses (view a.value)) ys ≡ flat_map argument_uses (map view_argument xs)
values_of xs ys e = ap (λ (zs : List code.Argument). flat_map (λ a. tree_uses (view a.value)) zs) e ∙ sym (argument_values xs)

pub function_uses : (n m : List ℕ) (xs ys : List code.Argument) → m ≡ n → ys ≡ xs
    → Calls m (map (λ a. a.name) ys) ∷ flat_map (λ a. tree_uses (view a.value)) ys
    ≡ Calls n (map (λ a. a.name) (map view_argument xs)) ∷ flat_map argument_uses (map view_argument xs)
function_uses n m xs ys q e =
    ap (λ (k : List ℕ). Calls k (map (λ a. a.name) ys) ∷ flat_map (λ a. tree_uses (view a.value)) ys) q
    ∙ ap (λ (zs : List code.Argument). Calls n (map (λ a. a.name) zs) ∷ flat_map (λ a. tree_uses (view a.value)) ys) e
    ∙ ap (λ ns. Calls n ns ∷ flat_map (λ a. tree_uses (view a.value)) ys) (sym (argument_names xs))
    ∙ ap (λ us. Calls n (map (λ a. a.name) (map view_argument xs)) ∷ us) (values_of xs ys e)

-- expressions, as trees
pub tree_values : (xs : List Expression) → flat_map tree_uses (map view xs) ≡ flat_map (λ e. tree_uses (view e)) xs
tree_values [] = refl
tree_values (x ∷ xs) = ap (λ (us : List Use). tree_uses (view x) ++ us) (tree_values xs)
