-- A means of proof: what a scope of a module stands for, for the proofs of the check of a tests file.
use Rattle.std.specs.Prelude.{ℕ, List, map, take}
use Rattle.py_syntax.specs.BlockTrees.{view_module}
use Rattle.test_meaning.specs.Rules.File.{File, file_of}
use Rattle.test_meaning.specs.Rules.Names.{Name}
use Rattle.test_meaning.specs.Rules.Uses.{Around, with_names}
use Rattle.test_names.specs.declared.scope.scope.FileScope.{FileScope}

-- the names that have places
abbrev pub names_in : List (List ℕ × ℕ) → List Name
names_in ps = map (λ p. p.0) ps

-- what the whole file defines
abbrev pub file_in : FileScope → File
file_in s = file_of (view_module s.whole.now)

-- what the items above the line's define, and the names that are its function's own
abbrev pub around_in : FileScope → Around
around_in s = with_names (file_of (take s.above (view_module s.whole.now))) (names_in s.locals.now)
