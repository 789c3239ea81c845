-- Which logical lines a module spells (the language reference, 2.1.8 and 8).
use Rattle.std.specs.Prelude.{◌≡◌, ℕ, suc, Bool, true, false, List, [], ◌∷◌, ◌++◌}
use Rattle.py_syntax.specs.Line.{Line}
use Rattle.py_syntax.specs.ModuleTrees.{ModuleLine, Import, FromImport, Constant, Test, Factory, AddOption, GenerateTests, Function}
use Rattle.py_syntax.specs.StatementTrees.{Simple, Heads}
use Rattle.py_syntax.specs.Outline.{Content, Docstring, InModule, InBody, Placed, SpellsOutline, at_start, AreWithinLimits}
use Rattle.py_syntax.specs.BlockTrees.{BlockItem, DocstringAt, StatementAt, ClauseAt, Block, NoItem, Then, ModuleItem, TextAt, LineAt, FunctionAt}

abbrev pub placed : ℕ → ℕ → Content → Placed
placed depth number content = record { depth = depth; number = number; content = content }

-- The lines of a block that stands in so many blocks: a header's block stands behind it, one level deeper.
unfoldable mutual
  pub block_lines : ℕ → Block → List Placed
  block_lines d NoItem = []
  block_lines d (Then x b) = item_lines d x ++ block_lines d b

  pub item_lines : ℕ → BlockItem → List Placed
  item_lines d (DocstringAt n) = placed d n Docstring ∷ []
  item_lines d (StatementAt n s) = placed d n (InBody (Simple s)) ∷ []
  item_lines d (ClauseAt n h b) = placed d n (InBody (Heads h)) ∷ block_lines (suc d) b

unfoldable pub module_item_lines : ModuleItem → List Placed
module_item_lines (TextAt n) = placed 0 n Docstring ∷ []
module_item_lines (LineAt n l) = placed 0 n (InModule l) ∷ []
module_item_lines (FunctionAt n f ps b) = placed 0 n (InModule (Function f ps)) ∷ block_lines 1 b

-- all lines of a module
unfoldable pub module_lines : List ModuleItem → List Placed
module_lines [] = []
module_lines (x ∷ xs) = module_item_lines x ++ module_lines xs

abbrev pub is_function : ModuleLine → Bool
is_function (Import n) = false
is_function (FromImport ms ns) = false
is_function (Constant n c) = false
is_function (Test ss) = false
is_function (Factory n f) = false
is_function (AddOption n o cs) = false
is_function (GenerateTests n p q) = false
is_function (Function n ps) = true

-- A function's header stands before its block alone.
abbrev pub IsItem : ModuleItem → Type 0
IsItem (TextAt n) = Unit {0}
IsItem (LineAt n l) = is_function l ≡ false
IsItem (FunctionAt n f ps b) = Unit {0}

abbrev pub AreItems : List ModuleItem → Type 0
AreItems [] = Unit {0}
AreItems (x ∷ xs) = IsItem x × AreItems xs

-- A module spells the lines in which its own stand in their places.
abbrev pub SpellsModule : List ModuleItem → List Line → Type 0
SpellsModule m ls = AreItems m × SpellsOutline at_start (module_lines m) ls

-- at most 32 blocks around a line, and a height of at most 64
abbrev pub IsWithinLimits : List ModuleItem → Type 0
IsWithinLimits m = AreWithinLimits (module_lines m)
