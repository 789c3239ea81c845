-- A means of proof: names that are numbered as they come.
use Rattle.std.specs.Prelude.{◌≡◌, List, ◌++◌}
use Rattle.std.specs.List.{position_from}
use Rattle.std.specs.Str.{bytes_eq}
use Rattle.name_table.specs.Places.{first_place}
use Rattle.test_meaning.specs.Rules.Names.{Name, others_than}
use Rattle.test_names.specs.declared.locals.numbered.Numbered.{Numbered}

-- these names, and those of the others that aren't among them, each once
abbrev pub with_names : List Name → List Name → List Name
with_names ns ms = ns ++ others_than ns ms

-- these names, each of which has its first place among them
pub record AreNumbered (ns : List Name) (s : Numbered) : Type 0 where
  pub names : s.names ≡ ns
  pub places : (n : Name) → first_place s.places n ≡ position_from (bytes_eq n) 0 ns
