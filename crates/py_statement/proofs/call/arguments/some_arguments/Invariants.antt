use Rattle.py_expression.specs.Shown.{height_limit}
use Rattle.std.proofs.Common.{◌≡◌, ◌-◌}
use Rattle.py_statement.specs.Call.Views.{arguments_in}
use Rattle.py_statement.specs.Call.Reading.{some_arguments_of, more_of}
use Rattle.py_statement.proofs.call.arguments.some_arguments.Given as goal

abbrev pub invariant-loop : goal.invariant-loop
invariant-loop l = more_of height_limit (l.end - l.counter) (arguments_in l.all) l.rest ≡ some_arguments_of height_limit l.fn.tokens
