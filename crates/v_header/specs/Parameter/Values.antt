-- A means of proof: what the values of parameters are, as the code has them, for the proofs of elaboration.
use Rattle.v_flat.specs.declared.scope.meaning.Meaning.{Meaning}
use Rattle.v_flat.specs.declared.scope.meaning.Meaning.TheVariants as meant
use Rattle.v_header.specs.declared.parameter.constants.Value.{Value}

abbrev pub meaning_of : Value → Meaning
meaning_of v = meant.Constant v.digits v.bounds
