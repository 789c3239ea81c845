use Rattle.std.proofs.Common.{◌≡◌, ◌+◌, drop}
use Rattle.std.specs.List.{prefix_len}
use Rattle.v_lex.specs.Bytes.{is_in}
use Rattle.v_lex.proofs.runs.run.Given as goal

abbrev pub invariant-loop-i : goal.invariant-loop-i
invariant-loop-i l = l.i + prefix_len (is_in l.class) (drop l.i l.text) ≡ prefix_len (is_in l.class) l.text
