-- Which texts are tests files (the Python language reference; cocotb 1.8), and by which rule, and on which line, another one is refused.
use Rattle.std.specs.Prelude.{◌≡◌, ◌⊎◌, ℕ, ◌≤◌, ◌<◌, List, length, None, Some, Ok, Err}
use Rattle.port_io.specs.Limits.{most_bytes}
use Rattle.py_syntax.specs.BlockTrees.{ModuleItem}
use Rattle.py_syntax.specs.Line.{Line, physical_line}
use Rattle.py_syntax.specs.Logical.{broken_on, first_broken, lines_of}
use Rattle.py_syntax.specs.Modules.{IsWithinLimits, SpellsModule}
use Rattle.py_syntax.specs.Outline.{Refusal, Refused, at_start, bad_line, no_block, too_deep}
use Rattle.py_syntax.specs.Places.{first_place}
use Rattle.py_syntax.specs.Spelled.{IsSpelled}
use Rattle.py_syntax.specs.declared.piece.LineRule.{LineRule}
use Rattle.py_syntax.specs.declared.piece.LineRule.TheVariants as lines
use Rattle.py_syntax.specs.declared.piece.Piece.{Piece}
use Rattle.test_meaning.specs.Body.BodyTrees.{TestFile}
use Rattle.test_meaning.specs.Check.{check}
use Rattle.test_meaning.specs.declared.rules.rule.FileRule.{FileRule}
use Rattle.test_file.specs.declared.text.rule.TestsRule.{TestsRule}
use Rattle.test_file.specs.declared.text.rule.TestsRule.TheVariants as rule
use Rattle.test_file.specs.declared.text.fault.TestsRefusal.{TestsRefusal}
use Rattle.test_file.specs.declared.text.fault.TestsRefusal.TheVariants as refusal

-- ---- the logical lines of a text

-- The text breaks no rule of lines: the pieces that spell it make these logical lines.
pub record HasLines (text : List ℕ) (lines : List Line) : Type 0 where
  pub pieces : List Piece
  pub spells : IsSpelled first_place pieces text
  pub breaks_none : first_broken pieces ≡ None
  pub are : lines ≡ lines_of pieces

-- The text breaks this rule of lines first, on this line.
pub record BreaksLines (text : List ℕ) (r : LineRule) (line : ℕ) : Type 0 where
  pub pieces : List Piece
  pub spells : IsSpelled first_place pieces text
  pub breaks : first_broken pieces ≡ Some (broken_on line r)

-- ---- the module of a text

-- The text's logical lines are those of this module, within 32 blocks and a height of 64.
pub record IsModuleOf (text : List ℕ) (items : List ModuleItem) : Type 0 where
  pub lines : List Line
  pub has : HasLines text lines
  pub spells : SpellsModule items lines
  pub is_within : IsWithinLimits items

-- The text has logical lines, and this is the first of them that has no form in its place, has no block, or is over a limit.
pub record BreaksForm (text : List ℕ) (r : Refusal) : Type 0 where
  pub lines : List Line
  pub has : HasLines text lines
  pub refused : Refused at_start lines r

-- ---- tests files

-- The text's module breaks no rule of a file, and stands for these functions and tests.
pub record IsTests (text : List ℕ) (file : TestFile) : Type 0 where
  pub short : length text ≤ most_bytes
  pub items : List ModuleItem
  pub is_module : IsModuleOf text items
  pub is : check items ≡ Ok file

-- The text's module breaks this rule of a file first, on this line.
pub record BreaksFile (text : List ℕ) (r : FileRule) (line : ℕ) : Type 0 where
  pub items : List ModuleItem
  pub is_module : IsModuleOf text items
  pub is : check items ≡ Err (record { rule = r; line = physical_line line })

-- ---- refusals

-- The text breaks this rule first, on this line.
abbrev pub BreaksAt : TestsRule → List ℕ → ℕ → Type 0
BreaksAt rule.Tab text line = BreaksLines text lines.Tab line
BreaksAt rule.Dedent text line = BreaksLines text lines.Dedent line
BreaksAt rule.UnclosedText text line = BreaksLines text lines.UnclosedText line
BreaksAt rule.BadByte text line = BreaksLines text lines.BadByte line
BreaksAt rule.BadLine text line = BreaksForm text (bad_line line)
BreaksAt rule.NoBlock text line = BreaksForm text (no_block line)
BreaksAt rule.TooDeep text line = BreaksForm text (too_deep line)
BreaksAt (rule.File r) text line = BreaksFile text r line

-- The text is no tests file, for this reason.
abbrev pub IsRefused : TestsRefusal → List ℕ → Type 0
IsRefused refusal.TooLong text = most_bytes < length text
IsRefused (refusal.Broken r line) text = (length text ≤ most_bytes) × BreaksAt r text line

-- The text stands for a tests file, or is refused.
abbrev pub HasAnswer : List ℕ → Type 0
HasAnswer text = ((file : TestFile) × IsTests text file) ⊎ ((refusal : TestsRefusal) × IsRefused refusal text)
