-- What is noted of the items so far, and what the items behind them define.
use Rattle.std.proofs.Common.{◌≡◌, ℕ, List, map, drop}
use Rattle.std.specs.List.{position_from}
use Rattle.std.specs.Option.{option_or}
use Rattle.py_syntax.specs.BlockTrees.{view_module_item}
use Rattle.name_table.specs.Places.{first_place}
use Rattle.test_names.specs.Definitions.Definitions.{is_defined}
use Rattle.test_names.proofs.definitions.tables.table.Given as goal

abbrev pub invariant-loop-place : goal.invariant-loop-place
invariant-loop-place l = (n : List ℕ) → position_from (is_defined l.kind n) 0 (map view_module_item l.items)
    ≡ option_or (first_place l.names n) (position_from (is_defined l.kind n) l.place (map view_module_item (drop l.place l.items)))
