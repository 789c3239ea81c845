-- A means of proof: what a table of factories says, and that it stands for the items above.
use Rattle.std.specs.Prelude.{◌≡◌, ℕ, suc, min, Bool, true, false, ◌||◌, List, [], ◌++◌, length, map, take, slice_get, Option, Some, None, is_some, option_and_then, if◌then◌else◌}
use Rattle.std.specs.Option.{option_map_or}
use Rattle.std.specs.Str.{bytes_eq}
use Rattle.py_syntax.specs.BlockTrees.{ModuleItem, view_module}
use Rattle.py_syntax.specs.ModuleForms.{has_default}
use Rattle.py_syntax.specs.declared.module.Parameter.{Parameter}
use Rattle.test_meaning.specs.Factory.Product.{Choice}
use Rattle.test_meaning.specs.Factory.Product as product
use Rattle.name_table.specs.Places.{first_place}
use Rattle.test_meaning.specs.Rules.File as file
use Rattle.test_meaning.specs.Rules.File.{File, choices, file_of, is_function, next_function}
use Rattle.test_meaning.specs.Rules.Names.{Name, is_among, only_if}
use Rattle.test_meaning.specs.Rules.Rules.{one_test, test_limit}
use Rattle.test_names.specs.declared.scope.scope.FileScope.{FileScope}
use Rattle.test_refusal.specs.declared.makers.added.Added.{Added}
use Rattle.test_refusal.specs.declared.makers.makers.Makers.{Makers}

-- a number of tests, where one above the limit stands for all that are more
abbrev pub cut : ℕ → ℕ
cut n = min n (suc test_limit)

abbrev pub choice_names : List Choice → List Name
choice_names cs = map (λ (c : Choice). c.name) cs

-- ---- one factory

-- it has these options, and its tests were generated or not
pub record IsAdded (cs : List Choice) (generated : Bool) (a : Added) : Type 0 where
  pub options : (o : Name) → is_some (first_place a.options o) ≡ is_among o (choice_names cs)
  pub counted : a.case_count ≡ cut (product.case_count cs)
  pub tests : a.is_generated ≡ generated

-- nothing was added, or this
abbrev pub IsAddedAt : List Choice → Bool → Option Added → Type 0
IsAddedAt cs generated None = (cs ≡ []) × (generated ≡ false)
IsAddedAt cs generated (Some a) = IsAdded cs generated a

-- ---- all factories

-- what was added to the factory of this name
abbrev pub added_at : List (List ℕ × ℕ) → List Added → Name → Option Added
added_at numbers added n = option_and_then (slice_get added) (first_place numbers n)

abbrev pub added_in : Makers → Name → Option Added
added_in t n = added_at t.numbers t.added.items n

abbrev pub has_option : Makers → Name → Name → Bool
has_option t n o = option_map_or (λ a. is_some (first_place a.options o)) (added_in t n) false

abbrev pub case_count : Makers → Name → ℕ
case_count t n = option_map_or (λ a. a.case_count) (added_in t n) 1

abbrev pub is_generated : Makers → Name → Bool
is_generated t n = option_map_or (λ a. a.is_generated) (added_in t n) false

-- each factory has these options, and its tests were generated or not
abbrev pub AreAdded : (Name → List Choice) → (Name → Bool) → Makers → Type 0
AreAdded cs generated t = (n : Name) → IsAddedAt (cs n) (generated n) (added_in t n)

-- the options of each factory, where this one has one more
abbrev pub with_choice : Name → Choice → (Name → List Choice) → Name → List Choice
with_choice m c cs n = cs n ++ only_if (bytes_eq m n) c

-- whose tests were generated, where those of this one are too
abbrev pub with_tests : Name → (Name → Bool) → Name → Bool
with_tests m g n = g n || bytes_eq m n

-- the table has what these items add to each factory
abbrev pub StandsFor : List ModuleItem → Makers → Type 0
StandsFor xs t = (f : File) → AreAdded (choices f (file_of xs)) (file.is_generated (file_of xs)) t

-- those above a line
abbrev pub StandsAbove : FileScope → Makers → Type 0
StandsAbove s t = StandsFor (take s.above (view_module s.whole.now)) t

-- the parameter has a default, or is an option of this factory
abbrev pub has_value_in : Makers → Name → Parameter → Bool
has_value_in t n p = has_default p.default || has_option t n p.name

-- the item below these is a function that is a test, or one that is none; or it is no function
abbrev pub IsTestAt : File → List ModuleItem → ModuleItem → Bool → Type 0
IsTestAt f xs x b = is_function x ≡ true → one_test f (next_function f (file_of xs)) ≡ (if b then 1 else 0)
