use Rattle.std.proofs.Common.{◌≡◌, ◌-◌, length}
use Rattle.v_lex.specs.DirectiveScan.{is_blank}
use Rattle.v_lex.proofs.gaps.is_blank.Given as goal

abbrev pub invariant-loop : goal.invariant-loop
invariant-loop l = is_blank (l.end - l.counter) l.rest ≡ is_blank (length l.text) l.text
