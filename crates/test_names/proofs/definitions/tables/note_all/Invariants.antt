-- What is noted of the names so far, and which names stand behind them.
use Rattle.std.proofs.Common.{◌≡◌, ℕ, List, drop}
use Rattle.name_table.specs.Places.{first_place}
use Rattle.test_meaning.specs.Rules.Names.{is_among}
use Rattle.test_names.specs.Definitions.Notes.{noted_if}
use Rattle.test_names.proofs.definitions.tables.note_all.Given as goal

abbrev pub invariant-loop-name : goal.invariant-loop-name
invariant-loop-name l = (n : List ℕ) → noted_if l.place (is_among n l.found) (first_place l.fn.before n)
    ≡ noted_if l.place (is_among n (drop l.name-index l.found)) (first_place l.names n)
