-- A means of proof: the names of a call, without their values, for the proofs of tasks.
use Rattle.std.specs.Prelude.{ℕ, List, map}
use Rattle.py_evaluate.specs.Attribute.Look.{Names, Local}

abbrev pub name_of : Local → List ℕ
name_of l = l.name

abbrev pub names_of : Names → List (List ℕ)
names_of ls = map name_of ls
