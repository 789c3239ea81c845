-- A means of proof: what number the code's enum stands for, for the proofs of evaluation.
use Rattle.py_value.specs.Integer.Integer.{number}
use Rattle.py_value.specs.declared.operator.number.Number.{Number}
use Rattle.py_value.specs.declared.operator.number.Number.TheVariants as code
use Rattle.py_value.specs.Operator.Number as meaning

abbrev pub means : Number → meaning.Number
means (code.Known i) = meaning.known (number i)
means code.Unknown = meaning.unknown
means code.Missing = meaning.none
