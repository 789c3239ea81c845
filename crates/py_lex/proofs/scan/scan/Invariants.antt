use Rattle.std.proofs.Common.{◌≤◌, ◌+◌, length}
use Rattle.port_io.specs.Limits.{most_bytes}
use Rattle.py_lex.specs.Scan.{HasRead}
use Rattle.py_lex.proofs.scan.scan.Given as goal

abbrev pub invariant-loop-rest : goal.invariant-loop-rest
invariant-loop-rest l = record {
  read : HasRead l.text l.rest l.scanner;
  lines : l.scanner.place.line + length l.rest ≤ 1048577;
  spaces : l.scanner.place.spaces + length l.rest ≤ most_bytes;
  length : length l.rest ≤ most_bytes;
}

abbrev pub decreases-loop-rest : goal.decreases-loop-rest
decreases-loop-rest l = length l.rest
