-- A means of proof: what the answer for a text shows, for the test program of checks.
use Rattle.std.specs.Prelude.{◌≡◌, ◌⊎◌, ℕ, ◌<◌, ◌≤◌, List, ◌++◌, length, Result, Ok, Err, codes}
use Rattle.std.specs.Fmt.{decimal}
use Rattle.port_io.specs.Limits.{most_bytes}
use Rattle.py_syntax.specs.BlockTrees.{ModuleItem}
use Rattle.py_syntax.specs.Line.{Line}
use Rattle.py_syntax.specs.Modules.{SpellsModule, IsWithinLimits}
use Rattle.py_syntax.specs.Outline.{Refusal, bad_line, no_block, too_deep, Refused, at_start}
use Rattle.py_syntax.specs.declared.piece.Broken.{Broken}
use Rattle.py_syntax.specs.declared.piece.LineRule.{LineRule}
use Rattle.py_syntax.specs.declared.piece.LineRule.TheVariants as rule
use Rattle.py_lex.specs.Answer.{IsAnswered, fault_of}
use Rattle.table_rows.specs.Rows.{part_at, written}
use Rattle.test_meaning.specs.Body.BodyTrees.{TestFile}
use Rattle.test_meaning.specs.Check.{check}
use Rattle.test_meaning.specs.declared.rules.rule.FileRule.{FileRule}
use Rattle.test_meaning.specs.declared.rules.rule.FileRule.TheVariants as file_rule
use Rattle.test_meaning.specs.declared.rules.rule.Refusal as file
use Rattle.check_tests.specs.Files.{file_text}

-- a rule by its name, with the number of the line that breaks it in brackets
abbrev pub at_line : List ℕ → ℕ → List ℕ
at_line name line = name ++ codes "(" ++ decimal line ++ codes ")"

-- ---- rules of a file

abbrev pub file_rule_name : FileRule → List ℕ
file_rule_name file_rule.UnknownImport = codes "UnknownImport"
file_rule_name file_rule.UnknownName = codes "UnknownName"
file_rule_name file_rule.Misplaced = codes "Misplaced"
file_rule_name file_rule.DuplicateName = codes "DuplicateName"
file_rule_name file_rule.BadOption = codes "BadOption"
file_rule_name file_rule.TooManyCases = codes "TooManyCases"
file_rule_name file_rule.NoTests = codes "NoTests"

-- an accepted file, or the first line that breaks a rule
abbrev pub checked_text : Result TestFile file.Refusal → List ℕ
checked_text (Ok f) = file_text f
checked_text (Err r) = at_line (file_rule_name r.rule) r.line.0

-- A module that the lines spell, within the limits, and what the check of it answers.
pub record ShowsChecked (lines : List Line) (text : List ℕ) : Type 0 where
  pub items : List ModuleItem
  pub spells : SpellsModule items lines
  pub is_within : IsWithinLimits items
  pub shows : text ≡ checked_text (check items)

-- ---- rules of trees

abbrev pub refusal_text : Refusal → List ℕ
refusal_text (bad_line n) = at_line (codes "BadLine") n
refusal_text (no_block n) = at_line (codes "NoBlock") n
refusal_text (too_deep n) = at_line (codes "TooDeep") n

-- The rule that the lines break first, which are no module.
pub record ShowsRefusal (lines : List Line) (text : List ℕ) : Type 0 where
  pub refusal : Refusal
  pub is_refused : Refused at_start lines refusal
  pub shows : text ≡ refusal_text refusal

abbrev pub ShowsLines : List Line → List ℕ → Type 0
ShowsLines lines text = ShowsChecked lines text ⊎ ShowsRefusal lines text

-- ---- rules of lines

abbrev pub line_rule_name : LineRule → List ℕ
line_rule_name rule.Tab = codes "Tab"
line_rule_name rule.Dedent = codes "Dedent"
line_rule_name rule.UnclosedText = codes "UnclosedText"
line_rule_name rule.BadByte = codes "BadByte"

abbrev pub broken_text : Broken → List ℕ
broken_text broken = at_line (line_rule_name broken.rule) broken.line.0

-- The logical lines of a text, and what they are.
pub record ShowsLogical (source text : List ℕ) : Type 0 where
  pub lines : List Line
  pub are_lines : IsAnswered source (Ok lines)
  pub shows : ShowsLines lines text

-- The rule that a text breaks first, which has no logical lines.
pub record ShowsBroken (source text : List ℕ) : Type 0 where
  pub broken : Broken
  pub is_broken : IsAnswered source (Err (fault_of broken))
  pub shows : text ≡ broken_text broken

abbrev pub ShowsText : List ℕ → List ℕ → Type 0
ShowsText source text = ShowsLogical source text ⊎ ShowsBroken source text

-- ---- rows

-- A text that isn't too long is read.
pub record ShowsSource (source text : List ℕ) : Type 0 where
  pub short : length source ≤ most_bytes → ShowsText source text
  pub long : most_bytes < length source → text ≡ codes "too long"

-- A row's name, and what is shown of its text. The row is parted by a tab: the name and the text.
pub record ShowsRow (row out : List ℕ) : Type 0 where
  pub shown : List ℕ
  pub is_shown : ShowsSource (written (part_at 1 row)) shown
  pub is_out : out ≡ part_at 0 row ++ codes ": " ++ shown
