-- No blank stands from this place on.
use Rattle.std.proofs.Common.{drop, length, ◌≤◌, IsTrue}
use Rattle.vcd_text.specs.Splits.{has_no_blank}
use Rattle.vcd_text.proofs.traced_line.split_last.Given as goal

abbrev pub invariant-back : goal.invariant-back
invariant-back l = record {
  inside : l.behind ≤ length l.text;
  none : IsTrue (has_no_blank (drop l.behind l.text));
}

abbrev pub decreases-back : goal.decreases-back
decreases-back l = l.behind
