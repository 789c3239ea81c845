-- Names, and lists of them (the language reference, 2.3).
use Rattle.std.specs.Prelude.{ℕ, Bool, not, Bool, false, ◌||◌, List, [], ◌∷◌, ◌++◌, if◌then◌else◌}
use Rattle.std.specs.List.{list_any}
use Rattle.std.specs.Str.{bytes_eq}

abbrev pub Name : Type 0
Name = List ℕ

abbrev pub is_among : Name → List Name → Bool
is_among n ns = list_any (bytes_eq n) ns

abbrev pub only_if : {A : Type 0} → Bool → A → List A
only_if b a = if b then a ∷ [] else []

-- one of these names is among the first, or comes a second time
abbrev pub come_twice : List Name → List Name → Bool
come_twice seen [] = false
come_twice seen (n ∷ ns) = is_among n seen || come_twice (n ∷ seen) ns

-- the names that are not among these, each once
abbrev pub others_than : List Name → List Name → List Name
others_than seen [] = []
others_than seen (n ∷ ns) = only_if (not (is_among n seen)) n ++ others_than (n ∷ seen) ns
