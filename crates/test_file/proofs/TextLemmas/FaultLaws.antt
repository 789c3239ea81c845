-- What the parts tell of a text.
use Rattle.std.proofs.Common.{◌≡◌, ℕ, List, Some, Ok, Err, subst}
use Rattle.py_syntax.specs.BlockTrees.{ModuleItem}
use Rattle.py_syntax.specs.Line.{Line, physical_line}
use Rattle.py_syntax.specs.Logical.{broken_on, first_broken}
use Rattle.py_syntax.specs.Places.{first_place}
use Rattle.py_syntax.specs.Spelled.{IsSpelled}
use Rattle.py_syntax.specs.declared.piece.LineRule.{LineRule}
use Rattle.py_syntax.specs.declared.piece.Piece.{Piece}
use Rattle.py_lex.specs.Answer.{IsAnswered}
use Rattle.test_file.specs.Checks.{Checks}
use Rattle.test_file.specs.declared.fault.FileFault.{FileFault}
use Rattle.test_file.specs.declared.fault.FileFault.TheVariants as fault
use Rattle.test_meaning.specs.Check.{check}
use Rattle.test_meaning.specs.declared.rules.rule.FileRule.{FileRule}
use Rattle.test_file.specs.Text.Tests.{BreaksLines, HasLines}

pub read_lines : (text : List ℕ) (ls : List Line) → IsAnswered text (Ok ls) → HasLines text ls
read_lines text ls (ps, spells, answer) = record { pieces = ps; spells = spells; breaks_none = answer.0; are = answer.1 }

pub broken_lines : (l : LineRule) (n : ℕ) (text : List ℕ) → ((ps : List Piece) × IsSpelled first_place ps text × (first_broken ps ≡ Some (broken_on n l)))
    → BreaksLines text l n
broken_lines l n text (ps, spells, breaks) = record { pieces = ps; spells = spells; breaks = breaks }

pub broken_file : (xs : List ModuleItem) (f : FileFault) (r : FileRule) (n : ℕ) → Checks xs (Err f) → f ≡ fault.Rule r n
    → check xs ≡ Err (record { rule = r; line = physical_line n })
broken_file xs f r n h e = subst (λ (g : FileFault). Checks xs (Err g)) e h
