-- A means of proof: the tree of a module as its lines give it, the last line first.
use Rattle.std.specs.Prelude.{ℕ, Bool, false, ◌==◌, nat_lt, List, [], ◌∷◌, if◌then◌else◌}
use Rattle.py_syntax.specs.ModuleTrees.{Import, FromImport, Constant, Test, Factory, AddOption, GenerateTests, Function}
use Rattle.py_syntax.specs.StatementTrees.{Simple, Heads}
use Rattle.py_syntax.specs.Outline.{Content, Docstring, InModule, InBody, Placed}
use Rattle.py_syntax.specs.BlockTrees.{BlockItem, DocstringAt, StatementAt, ClauseAt, Block, NoItem, Then, ModuleItem, TextAt, LineAt, FunctionAt}

-- a block whose last lines have been read, and in how many blocks its lines stand
pub record PartialBlock : Type 0 where
  pub depth : ℕ
  pub block : Block

abbrev pub no_blocks : List PartialBlock
no_blocks = []

-- whether the innermost block is deeper
abbrev pub is_deeper : ℕ → List PartialBlock → Bool
is_deeper d [] = false
is_deeper d (l ∷ ls) = nat_lt d l.depth

-- whether it stands in so many
abbrev pub is_at : ℕ → List PartialBlock → Bool
is_at d [] = false
is_at d (l ∷ ls) = l.depth == d

abbrev pub innermost : List PartialBlock → Block
innermost [] = NoItem
innermost (l ∷ ls) = l.block

abbrev pub outer : List PartialBlock → List PartialBlock
outer [] = []
outer (l ∷ ls) = ls

-- the block of a line that stands in so many blocks
abbrev pub block_under : ℕ → List PartialBlock → Block
block_under d ls = if is_deeper d ls then innermost ls else NoItem

abbrev pub blocks_over : ℕ → List PartialBlock → List PartialBlock
blocks_over d ls = if is_deeper d ls then outer ls else ls

abbrev pub block_with : ℕ → BlockItem → Block → PartialBlock
block_with d x b = record { depth = d; block = Then x b }

-- the block that stands in so many, if the innermost does
abbrev pub block_at : ℕ → List PartialBlock → Block
block_at d ls = if is_at d ls then innermost ls else NoItem

abbrev pub blocks_around : ℕ → List PartialBlock → List PartialBlock
blocks_around d ls = if is_at d ls then outer ls else ls

abbrev pub with_item : ℕ → BlockItem → List PartialBlock → List PartialBlock
with_item d x ls = if is_at d ls then block_with d x (innermost ls) ∷ outer ls else block_with d x NoItem ∷ ls

-- a line of a block, with the block that it heads
unfoldable pub item_of : ℕ → Content → Block → BlockItem
item_of n Docstring b = DocstringAt n
item_of n (InBody (Simple s)) b = StatementAt n s
item_of n (InBody (Heads h)) b = ClauseAt n h b
item_of n (InModule l) b = DocstringAt n

-- a line of a module, with the block that it heads
unfoldable pub module_item_of : ℕ → Content → Block → ModuleItem
module_item_of n Docstring b = TextAt n
module_item_of n (InBody l) b = TextAt n
module_item_of n (InModule (Import m)) b = LineAt n (Import m)
module_item_of n (InModule (FromImport ms ns)) b = LineAt n (FromImport ms ns)
module_item_of n (InModule (Constant m c)) b = LineAt n (Constant m c)
module_item_of n (InModule (Test ss)) b = LineAt n (Test ss)
module_item_of n (InModule (Factory m f)) b = LineAt n (Factory m f)
module_item_of n (InModule (AddOption m o cs)) b = LineAt n (AddOption m o cs)
module_item_of n (InModule (GenerateTests m p q)) b = LineAt n (GenerateTests m p q)
module_item_of n (InModule (Function f ps)) b = FunctionAt n f ps b

-- what was made of the lines behind a place: what stands in the module, and the blocks that have been read in part, the innermost first
pub record Nest : Type 0 where
  pub items : List ModuleItem
  pub blocks : List PartialBlock

abbrev pub nothing : Nest
nothing = record { items = []; blocks = [] }

-- with one line more before
unfoldable pub add : Placed → Nest → Nest
add p nest =
    if p.depth == 0 then record { items = module_item_of p.number p.content (block_under 0 nest.blocks) ∷ nest.items; blocks = blocks_over 0 nest.blocks }
    else record { items = nest.items; blocks = with_item p.depth (item_of p.number p.content (block_under p.depth nest.blocks)) (blocks_over p.depth nest.blocks) }

abbrev pub all_from : List Placed → Nest → Nest
all_from [] nest = nest
all_from (p ∷ ps) nest = add p (all_from ps nest)

unfoldable pub module_of : List Placed → List ModuleItem
module_of ps = (all_from ps nothing).items
