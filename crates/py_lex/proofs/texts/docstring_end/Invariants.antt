use Rattle.std.proofs.Common.{◌≡◌, false, length, ◌+◌, ◌≤◌}
use Rattle.py_syntax.specs.Texts.{after, docstring_end}
use Rattle.py_lex.proofs.texts.docstring_end.Given as goal

abbrev pub invariant-loop-rest : goal.invariant-loop-rest
invariant-loop-rest l = record {
  counted : l.count + length l.rest ≡ length l.text;
  few : l.quotes ≤ 2;
  same : after l.count (docstring_end l.escaped l.quotes l.rest) ≡ docstring_end false 0 l.text;
}

abbrev pub decreases-loop-rest : goal.decreases-loop-rest
decreases-loop-rest l = length l.rest
