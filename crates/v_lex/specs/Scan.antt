-- A means of proof: a text from its front on, as the code goes over it. `Row` says what it means.
use Rattle.std.specs.Prelude.{ℕ, zero, suc, ◌+◌, ◌-◌, List, [], ◌∷◌, ◌++◌, length, unwrap_or}
use Rattle.v_lex.specs.declared.directive.BrokenRule.{BrokenRule}
use Rattle.v_lex.specs.Pieces.{piece_at}
use Rattle.v_lex.specs.Lexing.{State, Scan, Lexed, is_taken, with_content, after_content, left_open, start, nanosecond, at_modules}

-- A text from a place on, whose first bytes may still belong to the piece before it.
unfoldable pub scan_from : State → ℕ → ℕ → List ℕ → Scan
scan_from s place inside [] = record { tokens = []; places = []; units = []; faults = left_open s.conditionals; last = s }
scan_from s place (suc inside) (b ∷ bs) = scan_from s (place + 1) inside bs
scan_from s place zero (b ∷ bs) =
    let p = piece_at (is_taken s.conditionals) (b ∷ bs) in
    with_content s place p.content (scan_from (after_content s place p.content) (place + 1) (p.size - 1) bs)

unfoldable pub scan_of : List ℕ → Scan
scan_of text = scan_from start 0 0 text

-- the rules that a text breaks
unfoldable pub faults_of : List ℕ → List BrokenRule
faults_of text = (scan_of text).faults

unfoldable pub lexed : List ℕ → Lexed
lexed text =
    record {
      tokens = (scan_of text).tokens;
      places = (scan_of text).places ++ length text ∷ [];
      units = at_modules (scan_of text).tokens (scan_of text).units;
      unit = (scan_of text).last.unit;
      step = unwrap_or (scan_of text).last.step nanosecond;
    }
