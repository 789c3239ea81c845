-- No line feed stands before this place.
use Rattle.std.proofs.Common.{take, IsTrue}
use Rattle.vcd_text.proofs.OneList.{lacks}
use Rattle.vcd_text.proofs.read_text.next_line.Given as goal

abbrev pub invariant-loop-at : goal.invariant-loop-at
invariant-loop-at l = IsTrue (lacks 10 (take l.at l.text))
