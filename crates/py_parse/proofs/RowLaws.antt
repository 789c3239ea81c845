-- The items of a block, and one more at the end of a list that is read from its end.
use Rattle.std.proofs.Common.{ℕ, Bool, true, false, ◌≡◌, List, [], ◌∷◌, ◌++◌, refl, ap}
use Rattle.std.proofs.lemmas.List.{reverse-append}
use Rattle.std.specs.Prelude.{reverse, if◌then◌else◌}
use Rattle.py_syntax.specs.BlockTrees.{BlockItem, Block, NoItem, Then, view_item, view_block, block_of}
use Rattle.py_parse.specs.Nesting.{PartialBlock, innermost, outer, is_at, block_with, block_at, blocks_around, with_item}
use Rattle.py_syntax.specs.declared.tree.BlockItem.{Row_of-BlockItem, end_of-BlockItem, more_of-BlockItem}
use Rattle.py_syntax.specs.declared.tree.BlockItem.TheBlock.{items-the_row-BlockItem}

pub row_block : (n : _) (k : Row_of-BlockItem n) → view_block k ≡ block_of (items-the_row-BlockItem n k)
row_block n end_of-BlockItem = refl
row_block n (more_of-BlockItem x rest) = ap (λ b. Then (view_item x) b) (row_block _ rest)

pub reverse_more : {A : Type 0} → (xs : List A) (x : A) → reverse (xs ++ (x ∷ [])) ≡ x ∷ reverse xs
reverse_more xs x = reverse-append xs (x ∷ [])

either : (here : Bool) (d : ℕ) (x : BlockItem) (b : Block) (ls ms : List PartialBlock)
    → (if here then block_with d x b ∷ ls else block_with d x NoItem ∷ ms) ≡ block_with d x (if here then b else NoItem) ∷ (if here then ls else ms)
either true d x b ls ms = refl
either false d x b ls ms = refl

pub with_item_parts : (d : ℕ) (x : BlockItem) (ls : List PartialBlock) → with_item d x ls ≡ block_with d x (block_at d ls) ∷ blocks_around d ls
with_item_parts d x ls = either (is_at d ls) d x (innermost ls) (outer ls) ls
