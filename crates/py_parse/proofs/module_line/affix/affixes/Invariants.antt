use Rattle.std.proofs.Common.{◌≡◌, drop}
use Rattle.py_syntax.specs.ModuleForms.{affixes, affixes_with}
use Rattle.py_parse.proofs.module_line.affix.affixes.Given as goal

abbrev pub invariant-loop-setting : goal.invariant-loop-setting
invariant-loop-setting l = affixes_with (drop l.setting-index l.settings) l.given.0 l.given.1 ≡ affixes l.fn.settings
