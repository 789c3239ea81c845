use Rattle.std.proofs.Common.{◌≡◌, drop}
use Rattle.py_evaluate.specs.Attribute.Look.{local}
use Rattle.value_tests.specs.Expressions.Variables.{locals_of}
use Rattle.value_tests.proofs.expressions.variables.VariablesLocals.local.Given as goal

abbrev pub invariant-loop-variable : goal.invariant-loop-variable
invariant-loop-variable l = local (locals_of (drop l.variable-index l.variable-items)) l.name ≡ local (locals_of l.variable-items) l.name
