use Rattle.std.proofs.Common.{◌≡◌, false, length, ◌+◌}
use Rattle.py_syntax.specs.Texts.{after, text_end}
use Rattle.py_lex.proofs.texts.text_end.Given as goal

abbrev pub invariant-loop-rest : goal.invariant-loop-rest
invariant-loop-rest l = record {
  counted : l.count + length l.rest ≡ length l.text;
  same : after l.count (text_end l.quote l.escaped l.rest) ≡ text_end l.quote false l.text;
}

abbrev pub decreases-loop-rest : goal.decreases-loop-rest
decreases-loop-rest l = length l.rest
