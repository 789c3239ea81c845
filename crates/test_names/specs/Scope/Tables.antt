-- A means of proof: what the tables of a module say, for the proofs of the check of a tests file.
use Rattle.std.specs.Prelude.{◌≡◌, List}
use Rattle.std.specs.List.{position_from}
use Rattle.py_syntax.specs.BlockTrees.{ModuleItem}
use Rattle.name_table.specs.Places.{first_place}
use Rattle.test_meaning.specs.Rules.Names.{Name}
use Rattle.test_names.specs.Definitions.Definitions.{defines, is_defined}
use Rattle.test_names.specs.declared.definitions.item.Kind.TheVariants as kind
use Rattle.test_names.specs.declared.scope.tables.Tables.{Tables}

-- Each table has of each name the number of the first of these items that defines it, and no other name.
pub record AreTables (xs : List ModuleItem) (t : Tables) : Type 0 where
  pub names : (n : Name) → first_place t.names n ≡ position_from (defines n) 0 xs
  pub constants : (n : Name) → first_place t.constants n ≡ position_from (is_defined kind.Constant n) 0 xs
  pub functions : (n : Name) → first_place t.functions n ≡ position_from (is_defined kind.Function n) 0 xs
  pub factories : (n : Name) → first_place t.factories n ≡ position_from (is_defined kind.Factory n) 0 xs
