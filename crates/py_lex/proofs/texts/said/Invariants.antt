use Rattle.std.proofs.Common.{◌≡◌, false, drop}
use Rattle.py_syntax.specs.Texts.{said_from}
use Rattle.py_lex.proofs.Said.{with_front}
use Rattle.py_lex.proofs.texts.said.Given as goal

abbrev pub invariant-loop-byte : goal.invariant-loop-byte
invariant-loop-byte l = with_front l.bytes.items (said_from l.escaped (drop l.byte-index l.text)) ≡ said_from false l.text
