-- Blocks, handlers and each `elif` as they stand in the file.
use Rattle.std.proofs.Common.{◌≡◌, refl, ap}
use Rattle.test_meaning.specs.Body.BodyTrees.{Block, NoItem, Then}
use Rattle.test_meaning.specs.Body.Views.{block_of, else_of, handlers_of, view_branch, view_branch_row, view_handler_row, view_item, view_row, with_handler}
use Rattle.test_meaning.specs.declared.body.item.Item.{Row_of-Item, end_of-Item, more_of-Item, Row_of-Branch, end_of-Branch, more_of-Branch, Row_of-Handler, end_of-Handler, more_of-Handler}
use Rattle.test_meaning.specs.declared.body.item.Branch.TheBlock.{items-the_row-Item, items-the_row-Branch, items-the_row-Handler}

pub row_items : (n : _) (k : Row_of-Item n) → view_row k ≡ block_of (items-the_row-Item n k)
row_items n end_of-Item = refl
row_items n (more_of-Item x rest) = ap (λ b. Then (view_item x) b) (row_items _ rest)

pub row_branches : (n : _) (k : Row_of-Branch n) (other : Block) → view_branch_row k other ≡ else_of (items-the_row-Branch n k) other
row_branches n end_of-Branch other = refl
row_branches n (more_of-Branch b rest) other = ap (λ (c : Block). Then (view_branch b c) NoItem) (row_branches _ rest other)

pub row_handlers : (n : _) (k : Row_of-Handler n) → view_handler_row k ≡ handlers_of (items-the_row-Handler n k)
row_handlers n end_of-Handler = refl
row_handlers n (more_of-Handler h rest) = ap (λ hs. with_handler h hs) (row_handlers _ rest)
