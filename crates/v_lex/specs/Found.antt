-- A means of proof: what was found before a place, and with what is found from there on.
use Rattle.std.specs.Prelude.{ℕ, List, [], ◌++◌, Option, None}
use Rattle.v_syntax.specs.declared.token.Token.{Token}
use Rattle.v_lex.specs.declared.directive.BrokenRule.{BrokenRule}
use Rattle.v_lex.specs.Lexing.{Scan, State, earlier, earliest, at_modules}
use Rattle.v_lex.specs.Scan.{scan_from}
use Rattle.v_lex.specs.declared.scanner.Found.{Found}

-- tokens, places, the units at each `module`, and the first broken rule
pub record Sum : Type 0 where
  pub tokens : List Token
  pub places : List ℕ
  pub units : List ℕ
  pub first : Option BrokenRule

abbrev pub nothing : Sum
nothing = record { tokens = []; places = []; units = []; first = None }

abbrev pub of_found : Found → Sum
of_found f = record { tokens = f.tokens.items; places = f.places.items; units = f.units.items; first = f.first }

-- what was found before a place, and what a scan finds from there on
unfoldable pub found_with : Sum → Scan → Sum
found_with f scan =
    record {
      tokens = f.tokens ++ scan.tokens;
      places = f.places ++ scan.places;
      units = f.units ++ at_modules scan.tokens scan.units;
      first = earlier f.first (earliest scan.faults);
    }

-- what a scan finds at the end of the text
abbrev pub end_of : State → Scan
end_of s = scan_from s 0 0 []
