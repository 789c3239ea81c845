-- A means of proof: a function of which tests are made, for the proofs of the check of a tests file.
use Rattle.std.specs.Prelude.{◌≡◌}
use Rattle.test_file.specs.declared.cases.factories.TestedFunction.{TestedFunction}
use Rattle.test_meaning.specs.Cases.{settings_of}
use Rattle.test_meaning.specs.Rules.File.{Definition, further}

-- the function of this definition, by its number, its name, its further parameters and its decorator's options
pub record IsTested (d : Definition) (f : TestedFunction) : Type 0 where
  pub number : d.number ≡ f.number
  pub name : d.name ≡ f.name.now
  pub further : further d.parameters ≡ f.further.now
  pub settings : settings_of d ≡ f.settings.now
