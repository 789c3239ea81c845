-- A means of proof: items of a file in their places.
use Rattle.std.specs.Prelude.{◌≡◌, List, [], ◌∷◌, ◌++◌, drop, map, take}
use Rattle.py_syntax.specs.BlockTrees.{ModuleItem, view_module, view_module_item}
use Rattle.test_meaning.specs.Rules.File as file
use Rattle.test_meaning.specs.Rules.File.{File, file_of}
use Rattle.test_meaning.specs.Rules.Uses.{with_names}
use Rattle.test_names.specs.Scope.Around.{around_in, file_in}
use Rattle.test_names.specs.declared.scope.scope.FileScope.{FileScope}
use Rattle.test_refusal.specs.declared.place.Place.{Place}
use Rattle.test_refusal.specs.declared.whole.Whole.{Whole}

-- what the whole file defines
abbrev pub file_of_whole : Whole → File
file_of_whole w = file_of (view_module w.file.now)

-- the item with those above and those below
abbrev pub place_of : Place → file.Place
place_of p = record { item = view_module_item p.item.now; above = take p.above (view_module p.whole.now.file.now); below = map view_module_item p.below.now }

-- The item stands there in the file.
abbrev pub Stands : Place → Type 0
Stands p = drop p.above (view_module p.whole.now.file.now) ≡ (place_of p).item ∷ (place_of p).below

-- the items above and this one
abbrev pub items_to : Place → List ModuleItem
items_to p = (place_of p).above ++ (place_of p).item ∷ []

-- the scope of the item's own line
pub record IsScopeOf (p : Place) (s : FileScope) : Type 0 where
  pub whole : s.whole.now ≡ p.whole.now.file.now
  pub above : s.above ≡ p.above
  pub around : around_in s ≡ with_names (file_of (place_of p).above) []
