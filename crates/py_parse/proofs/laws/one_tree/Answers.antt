use Rattle.std.proofs.Common.{sym, ap, ◌∙◌}
use Rattle.py_parse.specs.Nesting.{module_of}
use Rattle.py_parse.proofs.Back.{module_back}
use Rattle.py_parse.proofs.laws.one_tree.Goals as goal

pub returns : goal.returns
returns c = λ m n i j e. sym (module_back m i) ∙ ap module_of e ∙ module_back n j
