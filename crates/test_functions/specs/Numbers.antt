-- A means of proof: the numbers of the functions of a module, for the proofs of the check of a tests file.
use Rattle.std.specs.Prelude.{◌≡◌, List, length, option_map}
use Rattle.py_syntax.specs.BlockTrees.{ModuleItem}
use Rattle.name_table.specs.Places.{first_place}
use Rattle.test_meaning.specs.Rules.File.{Definition, file_of, function}
use Rattle.test_meaning.specs.Rules.Names.{Name}
use Rattle.test_functions.specs.declared.numbers.FunctionNumbers.{FunctionNumbers}

-- Each name has the number of the first function of these items that has it, and no other name has one.
pub record AreFunctionNumbers (xs : List ModuleItem) (t : FunctionNumbers) : Type 0 where
  pub numbers : (n : Name) → first_place t.numbers n ≡ option_map (λ (d : Definition). d.number) (function (file_of xs) n)
  pub count : t.count ≡ length (file_of xs).functions
