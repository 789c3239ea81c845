-- A means of proof: tables of the names that stand above, for the proofs of the check of a tests file.
use Rattle.std.specs.Prelude.{◌≡◌, ℕ, true, false, List, [], ◌∷◌, ◌++◌, Option, None, Some, is_some}
use Rattle.std.specs.List.{flat_map}
use Rattle.py_syntax.specs.BlockTrees.{ModuleItem}
use Rattle.name_table.specs.Places.{first_place}
use Rattle.test_meaning.specs.Rules.File.{Place, names_of}
use Rattle.test_meaning.specs.Rules.Names.{Name, is_among, come_twice}
use Rattle.test_meaning.specs.Rules.Rules.{defines_twice}

abbrev pub Table : Type 0
Table = List (List ℕ × ℕ)

-- the table has these names, and no other
abbrev pub AreNames : List Name → Table → Type 0
AreNames ns t = (n : Name) → is_some (first_place t n) ≡ is_among n ns

-- a table has these names and those, of which none stands twice or is among the first; there is no table where one does
abbrev pub IsWith : List Name → List Name → Option Table → Type 0
IsWith ns ms None = come_twice ns ms ≡ true
IsWith ns ms (Some t) = (come_twice ns ms ≡ false) × AreNames (ns ++ ms) t

-- an item below those
abbrev pub below : List ModuleItem → ModuleItem → Place
below xs x = record { item = x; above = xs; below = [] }

-- a table has the names that these items and the one below define, which breaks no rule of duplicates; there is no table where it breaks it
abbrev pub IsBelow : List ModuleItem → ModuleItem → Option Table → Type 0
IsBelow xs x None = defines_twice (below xs x) ≡ true
IsBelow xs x (Some t) = (defines_twice (below xs x) ≡ false) × AreNames (flat_map names_of (xs ++ x ∷ [])) t
