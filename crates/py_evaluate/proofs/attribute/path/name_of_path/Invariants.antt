use Rattle.std.proofs.Common.{◌≡◌, drop}
use Rattle.std.specs.Prelude.{unwrap_or}
use Rattle.py_evaluate.specs.Attribute.Attribute.{behind_dot, name_of_path}
use Rattle.py_evaluate.proofs.attribute.path.name_of_path.Given as goal

abbrev pub invariant-loop-at : goal.invariant-loop-at
invariant-loop-at l = unwrap_or (behind_dot (drop l.at l.path)) l.name ≡ name_of_path l.path
