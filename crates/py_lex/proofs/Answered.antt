-- What is read of a text is what its pieces have.
use Rattle.std.proofs.Common.{◌≡◌, ℕ, List, [], None, Some, Result, Ok, Err, refl, sym, subst, ap, ◌∙◌, append-nil}
use Rattle.py_syntax.specs.Line.{Line}
use Rattle.py_syntax.specs.Places.{first_place}
use Rattle.py_syntax.specs.Found.{IsMadeOf}
use Rattle.py_syntax.specs.Spelled.{IsSpelled}
use Rattle.py_syntax.proofs.Stands.{spelled}
use Rattle.py_syntax.proofs.Once.{spelled_once}
use Rattle.py_syntax.specs.Logical.{lines_of, first_broken, broken_on}
use Rattle.py_syntax.specs.declared.piece.Piece.{Piece}
use Rattle.py_syntax.specs.declared.piece.LineRule.{LineRule}
use Rattle.py_syntax.specs.declared.piece.LineRule.TheVariants as rule
use Rattle.py_syntax.specs.declared.piece.Broken.{Broken}
use Rattle.py_lex.specs.declared.fault.LineFault.{LineFault}
use Rattle.py_lex.specs.Scan.{State, lines_in, broken_in, HasRead}
use Rattle.py_lex.specs.Answer.{Answers, IsAnswered, fault_of, fault_by}
use Rattle.py_lex.proofs.Laws.{read_lines, read_broken}

made_of_read : (text : List ℕ) (s : State) → (h : HasRead text [] s) → IsMadeOf first_place text h.pieces
made_of_read text s h = subst (λ (ps : List Piece). IsMadeOf first_place text ps) (append-nil h.pieces) (h.made [] refl)

lines_of_read : (text : List ℕ) (s : State) → (h : HasRead text [] s) → lines_in s ≡ lines_of h.pieces
lines_of_read text s h = ap lines_in h.state ∙ read_lines h.pieces

broken_of_read : (text : List ℕ) (s : State) → (h : HasRead text [] s) → broken_in s ≡ first_broken h.pieces
broken_of_read text s h = ap broken_in h.state ∙ read_broken h.pieces

fault_answers : (ps : List Piece) (n : ℕ) (r : LineRule) → first_broken ps ≡ Some (broken_on n r) → Answers ps (Err (fault_by r n))
fault_answers ps n rule.Tab e = e
fault_answers ps n rule.Dedent e = e
fault_answers ps n rule.UnclosedText e = e
fault_answers ps n rule.BadByte e = e

spelled_of_read : (text : List ℕ) (s : State) → (h : HasRead text [] s) → IsSpelled first_place h.pieces text
spelled_of_read text s h = spelled first_place text h.pieces tt (made_of_read text s h)

-- any text's answer is that of all its pieces, where it is that of some
pub for_all : (text : List ℕ) (r : Result (List Line) LineFault) (ps : List Piece) → IsSpelled first_place ps text → Answers ps r
    → (qs : List Piece) → IsSpelled first_place qs text → Answers qs r
for_all text r ps m a qs n = subst (λ (xs : List Piece). Answers xs r) (spelled_once first_place text ps qs m n) a

pub lines_answer : (text : List ℕ) (s : State) (ls : List Line) → HasRead text [] s → ls ≡ lines_in s → None ≡ broken_in s
    → (ps : List Piece) × IsSpelled first_place ps text × Answers ps (Ok ls)
lines_answer text s ls h e b = (h.pieces, spelled_of_read text s h, (sym (broken_of_read text s h) ∙ sym b, e ∙ lines_of_read text s h))

pub fault_answer : (text : List ℕ) (s : State) (b : Broken) → HasRead text [] s → Some b ≡ broken_in s
    → (ps : List Piece) × IsSpelled first_place ps text × Answers ps (Err (fault_of b))
fault_answer text s b h e = (h.pieces, spelled_of_read text s h, fault_answers h.pieces b.line.0 b.rule (sym (broken_of_read text s h) ∙ sym e))

pub is_answered : (text : List ℕ) (b : Broken) → ((ps : List Piece) × IsSpelled first_place ps text × Answers ps (Err (fault_of b))) → IsAnswered text (Err (fault_of b))
is_answered text b h = go b.rule b.line.0 h
  where
    go : (r : LineRule) (n : ℕ) → ((ps : List Piece) × IsSpelled first_place ps text × Answers ps (Err (fault_by r n))) → IsAnswered text (Err (fault_by r n))
    go rule.Tab n h = h
    go rule.Dedent n h = h
    go rule.UnclosedText n h = h
    go rule.BadByte n h = h
