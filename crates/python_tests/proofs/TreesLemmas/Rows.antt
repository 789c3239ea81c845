-- The texts of a list of the code's trees, one behind the other.
use Rattle.std.proofs.Common.{◌≡◌, ℕ, map, List, [], ◌∷◌, ◌++◌, refl, sym, ap, ◌∙◌}
use Rattle.std.proofs.lemmas.List.{append-nil}
use Rattle.std.specs.List.{flat_map}
use Rattle.hex.specs.Hex.{encode_lower}
use Rattle.py_syntax.specs.ExpressionTrees.{Parts, NoPart, view, view_part, view_row, view_parts}
use Rattle.py_syntax.specs.declared.expression.Expression.{Row_of-Expression, end_of-Expression, more_of-Expression, Row_of-FormatPart, end_of-FormatPart, more_of-FormatPart}
use Rattle.py_syntax.specs.declared.expression.Expression.TheBlock.{items-the_row-Expression, items-the_row-FormatPart}
use Rattle.py_syntax.specs.declared.expression.FormatPart.{FormatPart}
use Rattle.py_syntax.specs.declared.expression.FormatPart.TheVariants as part
use Rattle.py_syntax.specs.BlockTrees.{view_item, view_block, block_of}
use Rattle.py_syntax.specs.declared.tree.BlockItem as code
use Rattle.py_syntax.specs.declared.tree.BlockItem.{Row_of-BlockItem, end_of-BlockItem, more_of-BlockItem}
use Rattle.py_syntax.specs.declared.tree.BlockItem.TheBlock.{items-the_row-BlockItem}
use Rattle.python_tests.specs.Trees.ModuleText.{block_text, item_text}
use Rattle.python_tests.specs.Trees.TreeText.{parts_text, row_text, tree_text}
use Rattle.python_tests.specs.Trees.CallText.{spaced_text}

pub row_of_texts : (n : _) (k : Row_of-Expression n) → row_text (view_row k) ≡ flat_map spaced_text (map view (items-the_row-Expression n k))
row_of_texts n end_of-Expression = refl
row_of_texts n (more_of-Expression e rest) = ap (λ (bs : List ℕ). spaced_text (view e) ++ bs) (row_of_texts _ rest)

part_and : (p : FormatPart) (bs : List ℕ) (ps : Parts) → parts_text ps ≡ bs → parts_text (view_part p ps) ≡ parts_text (view_part p NoPart) ++ bs
part_and (part.Text t) bs ps e =
    ap (λ (cs : List ℕ). encode_lower t ++ cs) e ∙ ap (λ (cs : List ℕ). cs ++ bs) (sym (append-nil (encode_lower t)))
part_and (part.Formatted' p e) bs ps q =
    ap (λ (cs : List ℕ). (123 ∷ (tree_text (view e) ++ 125 ∷ [])) ++ cs) q
    ∙ ap (λ (cs : List ℕ). cs ++ bs) (sym (append-nil (123 ∷ (tree_text (view e) ++ 125 ∷ []))))

pub parts_of_texts : (n : _) (k : Row_of-FormatPart n) → parts_text (view_parts k) ≡ flat_map (λ p. parts_text (view_part p NoPart)) (items-the_row-FormatPart n k)
parts_of_texts n end_of-FormatPart = refl
parts_of_texts n (more_of-FormatPart p rest) = part_and p _ (view_parts rest) (parts_of_texts _ rest)

-- the items of a block
pub row_of_items : (n : _) (k : Row_of-BlockItem n) → block_text (view_block k) ≡ flat_map (λ x. item_text (view_item x)) (items-the_row-BlockItem n k)
row_of_items n end_of-BlockItem = refl
row_of_items n (more_of-BlockItem x rest) = ap (λ (bs : List ℕ). item_text (view_item x) ++ bs) (row_of_items _ rest)

pub block_items : (xs : List code.BlockItem) → block_text (block_of xs) ≡ flat_map (λ x. item_text (view_item x)) xs
block_items [] = refl
block_items (x ∷ xs) = ap (λ (bs : List ℕ). item_text (view_item x) ++ bs) (block_items xs)
