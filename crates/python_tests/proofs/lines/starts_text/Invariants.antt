use Rattle.std.proofs.Common.{◌≡◌, take, flat_map}
use Rattle.python_tests.specs.Shown.{start_text}
use Rattle.python_tests.proofs.lines.starts_text.Given as goal

abbrev pub invariant-loop-line : goal.invariant-loop-line
invariant-loop-line l = l.text.items ≡ flat_map start_text (take l.line-index l.lines)
