use Rattle.py_expression.specs.Shown.{height_limit}
use Rattle.std.proofs.Common.{◌≡◌, ◌-◌}
use Rattle.py_expression.specs.Spots.{spot_in}
use Rattle.py_expression.specs.Reading.{read_of, run}
use Rattle.py_expression.proofs.reader.read.Given as goal

abbrev pub invariant-loop : goal.invariant-loop
invariant-loop l = run height_limit (l.end - l.counter) (spot_in l.spot) ≡ read_of height_limit l.fn.least l.fn.tokens
