use Rattle.std.proofs.Common.{◌≡◌, take, flat_map}
use Rattle.python_tests.specs.Shown.{next_line}
use Rattle.python_tests.proofs.lines.others_text.Given as goal

abbrev pub invariant-loop-line : goal.invariant-loop-line
invariant-loop-line l = l.text.items ≡ flat_map next_line (take l.line-index l.lines)
