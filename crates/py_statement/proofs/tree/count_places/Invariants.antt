use Rattle.std.proofs.Common.{◌≡◌, ◌≤◌, false, drop}
use Rattle.py_statement.specs.Reading.{places_behind}
use Rattle.py_statement.proofs.tree.count_places.Given as goal

abbrev pub invariant-loop-byte : goal.invariant-loop-byte
invariant-loop-byte l = record {
  counted : l.count ≤ l.byte-index;
  same : places_behind l.is_open l.count (drop l.byte-index l.text) ≡ places_behind false 0 l.text;
}
