-- The lines before the rest are taken.
use Rattle.std.proofs.Common.{length, ◌≤◌, ◌+◌}
use Rattle.vcd_text.specs.Reader.{IsBehind, IsKept, state_of}
use Rattle.vcd_text.proofs.read_text.read_lines.Given as goal

abbrev pub invariant-lines : goal.invariant-lines
invariant-lines l = record {
  kept : IsKept l.reader.codes l.reader.known.items l.reader.free;
  behind : IsBehind l.text l.rest l.number (state_of l.reader);
  few : l.number + length l.rest ≤ length l.text;
}

abbrev pub decreases-lines : goal.decreases-lines
decreases-lines l = length l.rest
