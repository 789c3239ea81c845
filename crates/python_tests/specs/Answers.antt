-- A means of proof: what is asked of a text, and what the answer shows, for the test program of Python's texts.
use Rattle.std.specs.Prelude.{◌≡◌, ◌⊎◌, ℕ, ◌<◌, ◌≤◌, List, ◌++◌, length, Option, None, Some, Ok, Err, codes, if◌then◌else◌}
use Rattle.std.specs.List.{flat_map}
use Rattle.std.specs.Str.{bytes_eq}
use Rattle.std.specs.Fmt.{decimal}
use Rattle.port_io.specs.Limits.{most_bytes}
use Rattle.py_syntax.specs.Line.{Line}
use Rattle.py_syntax.specs.BlockTrees.{ModuleItem}
use Rattle.py_syntax.specs.Modules.{SpellsModule, IsWithinLimits}
use Rattle.py_syntax.specs.Outline.{Refusal, bad_line, no_block, too_deep, Refused, at_start}
use Rattle.py_syntax.specs.declared.piece.LineRule.{LineRule}
use Rattle.py_syntax.specs.declared.piece.LineRule.TheVariants as rule
use Rattle.py_syntax.specs.declared.piece.Broken.{Broken}
use Rattle.py_lex.specs.Answer.{IsAnswered, fault_of}
use Rattle.python_tests.specs.Trees.ModuleText.{module_text}
use Rattle.table_rows.specs.Rows.{part_at, written}
use Rattle.python_tests.specs.declared.answer.Asked.{Asked}
use Rattle.python_tests.specs.declared.answer.Asked.TheVariants as asked
use Rattle.python_tests.specs.Row.{repeated}
use Rattle.python_tests.specs.Shown.{lines_text, start_text}

-- what a word asks, if anything
abbrev pub asked_by : List ℕ → Option Asked
asked_by word =
    if bytes_eq word (codes "lines") then Some asked.Lines
    else (if bytes_eq word (codes "starts") then Some asked.Starts
    else (if bytes_eq word (codes "tree") then Some asked.Tree
    else (if bytes_eq word (codes "read") then Some asked.Read
    else (if bytes_eq word (codes "repeat") then Some asked.Repeat else None))))

-- the text that a row asks about
abbrev pub source_of : Asked → List ℕ → List ℕ
source_of asked.Lines row = written (part_at 2 row)
source_of asked.Starts row = written (part_at 2 row)
source_of asked.Tree row = written (part_at 2 row)
source_of asked.Read row = written (part_at 2 row)
source_of asked.Repeat row = repeated row

-- a rule by its name, with the number of the line that breaks it in brackets
abbrev pub at_line : List ℕ → ℕ → List ℕ
at_line name line = name ++ codes "(" ++ decimal line ++ codes ")"

-- a rule of lines by its name
abbrev pub rule_name : LineRule → List ℕ
rule_name rule.Tab = codes "Tab"
rule_name rule.Dedent = codes "Dedent"
rule_name rule.UnclosedText = codes "UnclosedText"
rule_name rule.BadByte = codes "BadByte"

abbrev pub broken_text : Broken → List ℕ
broken_text broken = at_line (rule_name broken.rule) broken.line.0

abbrev pub refusal_text : Refusal → List ℕ
refusal_text (bad_line n) = at_line (codes "BadLine") n
refusal_text (no_block n) = at_line (codes "NoBlock") n
refusal_text (too_deep n) = at_line (codes "TooDeep") n

-- the text of a module where it is asked for, else that there is a tree
abbrev pub shown_module : Asked → List ModuleItem → List ℕ
shown_module asked.Lines items = codes "a tree"
shown_module asked.Starts items = codes "a tree"
shown_module asked.Tree items = module_text items
shown_module asked.Read items = codes "a tree"
shown_module asked.Repeat items = codes "a tree"

-- A module that the lines spell, within the limits.
pub record ShowsTree (a : Asked) (lines : List Line) (text : List ℕ) : Type 0 where
  pub items : List ModuleItem
  pub spells : SpellsModule items lines
  pub is_within : IsWithinLimits items
  pub shows : text ≡ shown_module a items

-- The rule that the lines break first.
pub record ShowsRefusal (lines : List Line) (text : List ℕ) : Type 0 where
  pub refusal : Refusal
  pub is_refused : Refused at_start lines refusal
  pub shows : text ≡ refusal_text refusal

abbrev pub ShowsParsed : Asked → List Line → List ℕ → Type 0
ShowsParsed a lines text = ShowsTree a lines text ⊎ ShowsRefusal lines text

abbrev pub ShowsLines : Asked → List Line → List ℕ → Type 0
ShowsLines asked.Lines lines text = text ≡ lines_text lines
ShowsLines asked.Starts lines text = text ≡ flat_map start_text lines
ShowsLines asked.Tree lines text = ShowsParsed asked.Tree lines text
ShowsLines asked.Read lines text = ShowsParsed asked.Read lines text
ShowsLines asked.Repeat lines text = ShowsParsed asked.Repeat lines text

-- The logical lines of a text, as they are or as a module.
pub record ShowsLogical (a : Asked) (source text : List ℕ) : Type 0 where
  pub lines : List Line
  pub are_lines : IsAnswered source (Ok lines)
  pub shows : ShowsLines a lines text

-- The rule of lines that a text breaks first.
pub record ShowsBroken (source text : List ℕ) : Type 0 where
  pub broken : Broken
  pub is_broken : IsAnswered source (Err (fault_of broken))
  pub shows : text ≡ broken_text broken

abbrev pub ShowsText : Asked → List ℕ → List ℕ → Type 0
ShowsText a source text = ShowsLogical a source text ⊎ ShowsBroken source text

-- A text that isn't too long is read.
pub record ShowsSource (a : Asked) (source text : List ℕ) : Type 0 where
  pub short : length source ≤ most_bytes → ShowsText a source text
  pub long : most_bytes < length source → text ≡ codes "too long"

abbrev pub ShowsAsked : Option Asked → List ℕ → List ℕ → Type 0
ShowsAsked None row text = text ≡ codes "not asked"
ShowsAsked (Some a) row text = ShowsSource a (source_of a row) text

-- A row's rule, and what is shown of its text. The row is parted by tabs: what is asked, the rule and the text.
pub record ShowsRow (row out : List ℕ) : Type 0 where
  pub shown : List ℕ
  pub is_shown : ShowsAsked (asked_by (part_at 0 row)) row shown
  pub is_out : out ≡ part_at 1 row ++ codes ": " ++ shown
