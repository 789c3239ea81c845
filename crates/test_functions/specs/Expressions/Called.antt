-- A means of proof: a function that is called, for the proofs of the check of a tests file.
use Rattle.std.specs.Prelude.{◌≡◌, Option, Some}
use Rattle.test_functions.specs.declared.expressions.meanings.CalledFunction.{CalledFunction}
use Rattle.test_meaning.specs.Rules.File.{Definition}

-- the function of this definition, by its number and its parameters
pub record IsCalled (o : Option Definition) (f : CalledFunction) : Type 0 where
  pub definition : Definition
  pub is : o ≡ Some definition
  pub number : definition.number ≡ f.number
  pub parameters : definition.parameters ≡ f.parameters.now
