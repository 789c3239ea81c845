-- The parameters so far are numbered.
use Rattle.std.proofs.Common.{◌≡◌, ℕ, List, drop}
use Rattle.name_table.specs.Places.{first_place}
use Rattle.test_meaning.specs.Rules.Rules.{index_of}
use Rattle.test_names.specs.Arguments.Marks.{found_or}
use Rattle.test_names.proofs.arguments.arguments.numbers.Given as goal

abbrev pub invariant-loop-number : goal.invariant-loop-number
invariant-loop-number l = (n : List ℕ) → index_of n l.parameters ≡ found_or l.number (first_place l.names n) (index_of n (drop l.number l.parameters))
