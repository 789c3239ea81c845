use Rattle.std.proofs.Common.{◌≡◌, false, length, ◌+◌}
use Rattle.py_syntax.specs.Texts.{literal_len}
use Rattle.py_lex.proofs.texts.literal_len.Given as goal

abbrev pub invariant-loop-rest : goal.invariant-loop-rest
invariant-loop-rest l = record {
  counted : l.count + length l.rest ≡ length l.text;
  same : l.count + literal_len l.quote l.escaped l.rest ≡ literal_len l.quote false l.text;
}

abbrev pub decreases-loop-rest : goal.decreases-loop-rest
decreases-loop-rest l = length l.rest
