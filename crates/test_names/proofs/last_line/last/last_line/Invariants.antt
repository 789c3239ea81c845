-- The last line of the items so far.
use Rattle.std.proofs.Common.{◌≡◌, map, drop}
use Rattle.py_syntax.specs.BlockTrees.{view_module_item}
use Rattle.py_syntax.specs.Modules.{module_lines}
use Rattle.test_names.specs.LastLine.Behind.{number_behind}
use Rattle.test_names.proofs.last_line.last.last_line.Given as goal

abbrev pub invariant-loop-item : goal.invariant-loop-item
invariant-loop-item l = number_behind 1 (module_lines (map view_module_item l.items))
    ≡ number_behind l.last.0 (module_lines (map view_module_item (drop l.item-index l.items)))
