-- A means of proof: blocks and modules as texts, for the test program of Python's texts.
use Rattle.std.specs.Prelude.{ℕ, List, [], ◌∷◌, ◌++◌, Option, None, Some, codes}
use Rattle.std.specs.List.{concat, flat_map}
use Rattle.py_syntax.specs.BlockTrees.{BlockItem, DocstringAt, StatementAt, ClauseAt, Block, NoItem, Then, ModuleItem, TextAt, LineAt, FunctionAt}
use Rattle.py_syntax.specs.ModuleTrees.{ModuleLine}
use Rattle.py_syntax.specs.ModuleTrees as line
use Rattle.py_syntax.specs.declared.constant.Const.{Const}
use Rattle.py_syntax.specs.declared.module.Parameter.{Parameter}
use Rattle.py_syntax.specs.declared.module.Setting.{Setting}
use Rattle.python_tests.specs.Trees.TreeText.{constant_text, pair_text, quoted_text}
use Rattle.python_tests.specs.Trees.CallText.{member_call}
use Rattle.python_tests.specs.Trees.StatementText.{alone, constants_text, header_text, statement_text}

-- ---- blocks

abbrev mutual
  -- an item of a block, behind a space; a docstring says nothing
  pub item_text : BlockItem → List ℕ
  item_text (DocstringAt n) = []
  item_text (StatementAt n s) = codes " " ++ statement_text s
  item_text (ClauseAt n h b) = concat (codes " " ∷ header_text h ∷ block_text b ∷ codes ")" ∷ [])

  pub block_text : Block → List ℕ
  block_text NoItem = []
  block_text (Then x b) = item_text x ++ block_text b

-- ---- lines of a module

abbrev pub spaced_name : List ℕ → List ℕ
spaced_name name = codes " " ++ name

-- `=` and a default, if there is one
abbrev pub default_text : Option Const → List ℕ
default_text None = []
default_text (Some c) = codes "=" ++ constant_text c

-- a parameter behind a space
abbrev pub parameter_text : Parameter → List ℕ
parameter_text p = concat (codes " " ∷ p.name ∷ default_text p.default ∷ [])

-- an option of a test behind a space
abbrev pub setting_text : Setting → List ℕ
setting_text s = concat (codes " " ∷ s.name ∷ codes "=" ∷ constant_text s.value ∷ [])

-- a text behind such a word, if there is one
abbrev pub affix_text : List ℕ → Option (List ℕ) → List ℕ
affix_text word None = []
affix_text word (Some text) = word ++ quoted_text text

-- a call that makes the factory of a function
abbrev pub factory_call : List ℕ → List ℕ
factory_call function = concat (codes "(call TestFactory " ∷ function ∷ codes ")" ∷ [])

abbrev pub line_text : ModuleLine → List ℕ
line_text (line.Import n) = concat (codes "(import " ∷ n ∷ codes ")" ∷ [])
line_text (line.FromImport ms ns) = concat (codes "(from" ∷ flat_map spaced_name ms ∷ codes " import" ∷ flat_map spaced_name ns ∷ codes ")" ∷ [])
line_text (line.Constant n c) = pair_text (codes "=") n (constant_text c)
line_text (line.Test ss) = concat (codes "(decorator (call (. cocotb test)" ∷ flat_map setting_text ss ∷ codes "))" ∷ [])
line_text (line.Factory n f) = pair_text (codes "=") n (factory_call f)
line_text (line.AddOption n o cs) =
    alone (member_call n (codes "add_option") (concat (codes " " ∷ quoted_text o ∷ codes " " ∷ constants_text cs ∷ [])))
line_text (line.GenerateTests n p q) =
    alone (member_call n (codes "generate_tests") (concat (affix_text (codes " prefix=") p ∷ affix_text (codes " postfix=") q ∷ [])))
line_text (line.Function n ps) = concat (codes "(header " ∷ n ∷ flat_map parameter_text ps ∷ codes ")" ∷ [])

-- ---- modules

abbrev pub function_text : List ℕ → List Parameter → Block → List ℕ
function_text n ps b = concat (codes "(def " ∷ n ∷ codes " (parameters" ∷ flat_map parameter_text ps ∷ codes ")" ∷ block_text b ∷ codes ")" ∷ [])

-- an item of a module, behind a space; a docstring says nothing
abbrev pub module_item_text : ModuleItem → List ℕ
module_item_text (TextAt n) = []
module_item_text (LineAt n l) = codes " " ++ line_text l
module_item_text (FunctionAt n f ps b) = codes " " ++ function_text f ps b

abbrev pub module_text : List ModuleItem → List ℕ
module_text items = concat (codes "(module" ∷ flat_map module_item_text items ∷ codes ")" ∷ [])
