-- A means of proof: what the lines of a text are, and what is answered where it breaks a rule, for the proofs of Python's lexer.
use Rattle.std.specs.Prelude.{◌≡◌, ℕ, List, None, Some, Result, Ok, Err}
use Rattle.py_syntax.specs.Line.{Line}
use Rattle.py_syntax.specs.Places.{first_place}
use Rattle.py_syntax.specs.Spelled.{IsSpelled}
use Rattle.py_syntax.specs.Logical.{lines_of, first_broken, broken_on}
use Rattle.py_syntax.specs.declared.piece.Piece.{Piece}
use Rattle.py_syntax.specs.declared.piece.LineRule.{LineRule}
use Rattle.py_syntax.specs.declared.piece.LineRule.TheVariants as rule
use Rattle.py_syntax.specs.declared.piece.Broken.{Broken}
use Rattle.py_lex.specs.declared.fault.LineFault.{LineFault}
use Rattle.py_lex.specs.declared.fault.LineFault.TheVariants as fault

abbrev pub fault_by : LineRule → ℕ → LineFault
fault_by rule.Tab n = fault.Tab n
fault_by rule.Dedent n = fault.Dedent n
fault_by rule.UnclosedText n = fault.UnclosedText n
fault_by rule.BadByte n = fault.BadByte n

abbrev pub fault_of : Broken → LineFault
fault_of b = fault_by b.rule b.line.0

-- Of a text that these pieces spell: its lines if no rule is broken, else the fault of the first broken rule. Memory may
-- always run out.
abbrev pub Answers : List Piece → Result (List Line) LineFault → Type 0
Answers ps (Ok lines) = (first_broken ps ≡ None) × (lines ≡ lines_of ps)
Answers ps (Err (fault.Tab n)) = first_broken ps ≡ Some (broken_on n rule.Tab)
Answers ps (Err (fault.Dedent n)) = first_broken ps ≡ Some (broken_on n rule.Dedent)
Answers ps (Err (fault.UnclosedText n)) = first_broken ps ≡ Some (broken_on n rule.UnclosedText)
Answers ps (Err (fault.BadByte n)) = first_broken ps ≡ Some (broken_on n rule.BadByte)
Answers ps (Err fault.OutOfMemory) = Unit {0}

-- Some pieces spell the text, and these have this answer.
abbrev pub IsAnswered : List ℕ → Result (List Line) LineFault → Type 0
IsAnswered text (Err fault.OutOfMemory) = Unit {0}
IsAnswered text answer = (ps : List Piece) × IsSpelled first_place ps text × Answers ps answer
