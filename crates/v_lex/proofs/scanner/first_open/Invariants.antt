use Rattle.std.proofs.Common.{◌≡◌, drop}
use Rattle.v_lex.specs.Lexing.{earlier, earliest, left_open}
use Rattle.v_lex.proofs.scanner.first_open.Given as goal

abbrev pub invariant-loop-conditional : goal.invariant-loop-conditional
invariant-loop-conditional l =
    earlier l.first (earliest (left_open (drop l.conditional-index l.conditionals))) ≡ earliest (left_open l.conditionals)
