-- Trees of the lines of a module, without where they lie in memory (the language reference, 7 and 8).
use Rattle.std.specs.Prelude.{ℕ, List, Option}
use Rattle.py_syntax.specs.declared.constant.Const.{Const}
use Rattle.py_syntax.specs.declared.module.Parameter.{Parameter}
use Rattle.py_syntax.specs.declared.module.Setting.{Setting}
use Rattle.py_syntax.specs.declared.module.ModuleLine as line
use Rattle.py_syntax.specs.declared.module.ModuleLine.TheVariants as line_value

pub data ModuleLine : Type 0 where
  Import : List ℕ → ModuleLine
  FromImport : List (List ℕ) → List (List ℕ) → ModuleLine
  Constant : List ℕ → Const → ModuleLine
  Test : List Setting → ModuleLine
  Factory : List ℕ → List ℕ → ModuleLine
  AddOption : List ℕ → List ℕ → List Const → ModuleLine
  GenerateTests : List ℕ → Option (List ℕ) → Option (List ℕ) → ModuleLine
  Function : List ℕ → List Parameter → ModuleLine

abbrev pub view_module_line : line.ModuleLine → ModuleLine
view_module_line (line_value.Import n) = Import n
view_module_line (line_value.FromImport ms ns) = FromImport ms.items ns.items
view_module_line (line_value.Constant n c) = Constant n c
view_module_line (line_value.Test ss) = Test ss.items
view_module_line (line_value.Factory n f) = Factory n f
view_module_line (line_value.AddOption n o cs) = AddOption n o cs.items
view_module_line (line_value.GenerateTests n p q) = GenerateTests n p q
view_module_line (line_value.Function n ps) = Function n ps.items
