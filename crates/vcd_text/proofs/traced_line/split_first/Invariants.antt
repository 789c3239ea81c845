-- No blank stands before this place.
use Rattle.std.proofs.Common.{take, IsTrue}
use Rattle.vcd_text.specs.Splits.{has_no_blank}
use Rattle.vcd_text.proofs.traced_line.split_first.Given as goal

abbrev pub invariant-loop-at : goal.invariant-loop-at
invariant-loop-at l = IsTrue (has_no_blank (take l.at l.text))
