-- Items and handlers that are kept with the last one first.
use Rattle.std.proofs.Common.{◌≡◌, ℕ, suc, ◌+◌, ◌<◌, List, [], ◌∷◌, ◌++◌, length, drop, get_or, Result, IfOk, reverse, refl, sym, ap, ◌∙◌, drop-cons, add-one}
use Rattle.std.proofs.lemmas.List.{reverse-append}
use Rattle.std.proofs.lemmas.Result.{IfOk-weaker}
use Rattle.py_syntax.specs.BlockTrees as syntax
use Rattle.py_syntax.specs.declared.tree.BlockItem as block_item
use Rattle.py_syntax.specs.declared.tree.BlockItem.{Row_of-BlockItem, end_of-BlockItem, more_of-BlockItem}
use Rattle.py_syntax.specs.declared.tree.BlockItem.TheBlock.{items-the_row-BlockItem}
use Rattle.py_syntax.specs.StatementTrees.{Header}
use Rattle.test_functions.specs.Blocks.Kept.{tail_in}
use Rattle.test_functions.specs.declared.blocks.tail.Tail as code
use Rattle.test_meaning.specs.Bodies.{Inside, Tail, block_in, clause_in, item_in}
use Rattle.test_meaning.specs.Body.BodyTrees.{Block, NoItem, Then}
use Rattle.test_meaning.specs.Body.Views.{view_item, view_row, view_branch_row, view_handler_row, view_branch, with_handler, block_of, else_of, handlers_of}
use Rattle.test_meaning.specs.declared.body.item.Item.{Row_of-Item, end_of-Item, more_of-Item, Row_of-Branch, end_of-Branch, more_of-Branch, Row_of-Handler, end_of-Handler, more_of-Handler}
use Rattle.test_meaning.specs.declared.body.item.Branch.TheBlock.{items-the_row-Item, items-the_row-Branch, items-the_row-Handler}

pub row_items : (n : _) (k : Row_of-Item n) → view_row k ≡ block_of (items-the_row-Item n k)
row_items n end_of-Item = refl
row_items n (more_of-Item x rest) = ap (λ b. Then (view_item x) b) (row_items _ rest)

pub row_branches : (n : _) (k : Row_of-Branch n) (other : Block) → view_branch_row k other ≡ else_of (items-the_row-Branch n k) other
row_branches n end_of-Branch other = refl
row_branches n (more_of-Branch b rest) other = ap (λ (c : Block). Then (view_branch b c) NoItem) (row_branches _ rest other)

pub row_handlers : (n : _) (k : Row_of-Handler n) → view_handler_row k ≡ handlers_of (items-the_row-Handler n k)
row_handlers n end_of-Handler = refl
row_handlers n (more_of-Handler h rest) = ap (λ hs. with_handler h hs) (row_handlers _ rest)

-- a block of the parser's
pub row_block : (n : _) (k : Row_of-BlockItem n) → syntax.view_block k ≡ syntax.block_of (items-the_row-BlockItem n k)
row_block n end_of-BlockItem = refl
row_block n (more_of-BlockItem x rest) = ap (λ b. syntax.Then (syntax.view_item x) b) (row_block _ rest)

-- one more in front of a list that is kept with its last one first
pub reverse_more : {A : Type 0} → (xs : List A) (x : A) → reverse (xs ++ (x ∷ [])) ≡ x ∷ reverse xs
reverse_more xs x = reverse-append xs (x ∷ [])

-- the item at a place, and those behind it
pub block_more : (s : Inside) (xs : List block_item.BlockItem) (i : ℕ) (x : block_item.BlockItem) → i < length xs → x ≡ get_or xs i x
    → item_in s (syntax.view_item x) (block_in s (syntax.block_of (drop (i + 1) xs))) ≡ block_in s (syntax.block_of (drop i xs))
block_more s xs i x h is =
    ap (λ (ys : List block_item.BlockItem). block_in s (syntax.block_of ys))
    (sym (drop-cons xs i x h ∙ ap (λ y. y ∷ drop (suc i) xs) (sym is) ∙ ap (λ j. x ∷ drop j xs) (sym (add-one i))))

-- a clause with its block, before what stands behind it
pub clause_done : {E : Type 0} (r : Result code.Tail E) (s : Inside) (x : syntax.BlockItem) (l : ℕ) (h : Header) (row inner : syntax.Block) (b : Block) (rest : Tail)
    → x ≡ syntax.ClauseAt l h row → row ≡ inner → b ≡ (block_in s inner).items → IfOk r (λ t. tail_in t ≡ clause_in s h b rest)
    → IfOk r (λ t. tail_in t ≡ item_in s x rest)
clause_done r s x l h row inner b rest e p q so =
    IfOk-weaker r (λ t. tail_in t ≡ clause_in s h b rest) (λ t. tail_in t ≡ item_in s x rest)
    (λ t is. is ∙ ap (λ (c : Block). clause_in s h c rest) (q ∙ ap (λ (a : syntax.Block). (block_in s a).items) (sym p))
    ∙ sym (ap (λ (y : syntax.BlockItem). item_in s y rest) e)) so
