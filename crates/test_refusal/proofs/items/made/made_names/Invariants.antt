-- What the items so far are factories for, and what those behind them are.
use Rattle.std.proofs.Common.{◌≡◌, ◌||◌, map, drop}
use Rattle.std.specs.List.{list_any}
use Rattle.std.specs.Option.{is_some}
use Rattle.py_syntax.specs.BlockTrees.{view_module_item}
use Rattle.name_table.specs.Places.{first_place}
use Rattle.test_meaning.specs.Rules.Names.{Name}
use Rattle.test_refusal.specs.Items.Functions.{makes}
use Rattle.test_refusal.proofs.items.made.made_names.Given as goal

abbrev pub invariant-loop-item : goal.invariant-loop-item
invariant-loop-item l = (n : Name) → list_any (makes n) (map view_module_item l.items)
    ≡ (is_some (first_place l.names n) || list_any (makes n) (map view_module_item (drop l.item-index l.items)))
