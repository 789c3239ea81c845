-- A means of proof: where the body of a function stands.
use Rattle.std.specs.Prelude.{map}
use Rattle.py_syntax.specs.BlockTrees.{view_module_item}
use Rattle.test_meaning.specs.Bodies.{Inside}
use Rattle.test_meaning.specs.Rules.File.{File, file_of}
use Rattle.test_functions.specs.declared.meanings.ModuleMeanings.{ModuleMeanings}
use Rattle.test_functions.specs.declared.whole.Whole.{Whole}

-- what the whole module defines
abbrev pub file_of_whole : Whole → File
file_of_whole w = file_of (map view_module_item w.values.now.items.now)

-- the file, and the names that are the function's own
abbrev pub inside_of : ModuleMeanings → Inside
inside_of m = record { file = file_of_whole m.whole.now; locals = m.own.now.names }
