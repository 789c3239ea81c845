use Rattle.std.proofs.Common.{◌≡◌, false, drop}
use Rattle.py_syntax.specs.ModuleForms.{defaults_last}
use Rattle.py_parse.proofs.module_line.function.defaults_last.Given as goal

abbrev pub invariant-loop-parameter : goal.invariant-loop-parameter
invariant-loop-parameter l = defaults_last l.seen (drop l.parameter-index l.parameters) ≡ defaults_last false l.fn.parameters
