-- Modules and blocks as trees, without where they lie in memory (the language reference, 8 and 9.2).
use Rattle.std.specs.Prelude.{ℕ, List, [], ◌∷◌, map}
use Rattle.py_syntax.specs.ModuleTrees.{ModuleLine, view_module_line}
use Rattle.py_syntax.specs.StatementTrees.{Statement, Header, view_statement, view_header}
use Rattle.py_syntax.specs.declared.module.Parameter.{Parameter}
use Rattle.py_syntax.specs.declared.tree.BlockItem as code
use Rattle.py_syntax.specs.declared.tree.BlockItem.{Row_of-BlockItem, end_of-BlockItem, more_of-BlockItem}
use Rattle.py_syntax.specs.declared.tree.BlockItem.TheVariants as item
use Rattle.py_syntax.specs.declared.tree.ModuleItem as part
use Rattle.py_syntax.specs.declared.tree.ModuleItem.TheVariants as part_value
use Rattle.py_syntax.specs.declared.tree.Module.{Module}

-- What stands in a block, each with the number of its line: a docstring, a statement of one line, or a header with its block.
mutual
  pub data BlockItem : Type 0 where
    DocstringAt : ℕ → BlockItem
    StatementAt : ℕ → Statement → BlockItem
    ClauseAt : ℕ → Header → Block → BlockItem

  pub data Block : Type 0 where
    NoItem : Block
    Then : BlockItem → Block → Block

-- What stands in a module: a docstring, a line, or a function with its name, its parameters and its block.
pub data ModuleItem : Type 0 where
  TextAt : ℕ → ModuleItem
  LineAt : ℕ → ModuleLine → ModuleItem
  FunctionAt : ℕ → List ℕ → List Parameter → Block → ModuleItem

abbrev mutual
  pub view_item : code.BlockItem → BlockItem
  view_item (item.Docstring n) = DocstringAt n.0
  view_item (item.Statement n s) = StatementAt n.0 (view_statement s)
  view_item (item.Clause' n h shape all) = ClauseAt n.0 (view_header h) (view_block all)

  pub view_block : {m : _} → Row_of-BlockItem m → Block
  view_block end_of-BlockItem = NoItem
  view_block (more_of-BlockItem x rest) = Then (view_item x) (view_block rest)

abbrev pub block_of : List code.BlockItem → Block
block_of [] = NoItem
block_of (x ∷ xs) = Then (view_item x) (block_of xs)

abbrev pub view_module_item : part.ModuleItem → ModuleItem
view_module_item (part_value.Docstring n) = TextAt n.0
view_module_item (part_value.Line n l) = LineAt n.0 (view_module_line l)
view_module_item (part_value.Function n f ps b) = FunctionAt n.0 f ps.items (block_of b.items)

abbrev pub view_module : Module → List ModuleItem
view_module m = map view_module_item m.items.items
