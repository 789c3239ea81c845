use Rattle.std.proofs.Common.{◌≡◌, ◌≤◌, ◌-◌, length, drop}
use Rattle.v_lex.specs.Scan.{scan_from, scan_of}
use Rattle.v_lex.specs.Found.{found_with, nothing, of_found}
use Rattle.v_lex.specs.States.{state_of}
use Rattle.v_lex.proofs.scanner.scan.Given as goal

abbrev pub invariant-loop-place : goal.invariant-loop-place
invariant-loop-place l = record {
  found : found_with (of_found l.found) (scan_from (state_of l.state) l.place 0 (drop l.place l.text))
      ≡ found_with nothing (scan_of l.text);
  last : (scan_from (state_of l.state) l.place 0 (drop l.place l.text)).last ≡ (scan_of l.text).last;
  within : l.place ≤ length l.text;
}

abbrev pub decreases-loop-place : goal.decreases-loop-place
decreases-loop-place l = length l.text - l.place
