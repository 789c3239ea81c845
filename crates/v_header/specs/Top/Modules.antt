-- A means of proof: what tables of names say of the modules of a text (IEEE 1364-2005, clauses 4.11 and 12.1), for the proofs of
-- elaboration.
use Rattle.std.specs.Prelude.{◌≡◌, ◌||◌, ℕ, suc, List, [], ◌∷◌, Option, None, Some, option_map, is_some, Result, Ok, Err, bytes_eq, if◌then◌else◌}
use Rattle.std.specs.List.{list_any}
use Rattle.name_table.specs.Places.{first_place}
use Rattle.v_syntax.specs.SourceTrees.{ModuleTree}
use Rattle.v_flat.specs.declared.scope.rule.Broken.{Broken}
use Rattle.v_flat.specs.Headers.{module_name}
use Rattle.v_flat.specs.Design.{modules_checked}

-- the number, from 0, of the first module of a name
abbrev pub number_of : List ℕ → List ModuleTree → Option ℕ
number_of n [] = None
number_of n (m ∷ ms) = if bytes_eq (module_name m).name n then Some 0 else option_map suc (number_of n ms)

-- each name has the number of its module, and no other name has one
abbrev pub AreNumbers : List ModuleTree → List (List ℕ × ℕ) → Type 0
AreNumbers ms numbers = (n : List ℕ) → first_place numbers n ≡ number_of n ms

-- the numbers of modules of which no two have one name, or the rule that is broken
abbrev pub ChecksModules : List ModuleTree → Result (List (List ℕ × ℕ)) Broken → Type 0
ChecksModules ms (Ok numbers) = (modules_checked [] ms ≡ Ok tt) × AreNumbers ms numbers
ChecksModules ms (Err b) = modules_checked [] ms ≡ Err b

-- these names alone have places
abbrev pub AreNames : List (List ℕ) → List (List ℕ × ℕ) → Type 0
AreNames ns places = (n : List ℕ) → is_some (first_place places n) ≡ list_any (bytes_eq n) ns

-- besides those that had places, these names have one
abbrev pub AddsNames : List (List ℕ × ℕ) → List (List ℕ × ℕ) → List (List ℕ) → Type 0
AddsNames old new ns = (n : List ℕ) → is_some (first_place new n) ≡ (is_some (first_place old n) || list_any (bytes_eq n) ns)
