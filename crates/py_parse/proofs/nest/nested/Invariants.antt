use Rattle.std.proofs.Common.{◌≡◌, map, length}
use Rattle.py_syntax.specs.Outline.{view_placed}
use Rattle.py_parse.specs.Kept.{nest_in}
use Rattle.py_parse.specs.Nesting.{all_from, module_of}
use Rattle.py_parse.proofs.nest.nested.Given as goal

abbrev pub invariant-loop-line : goal.invariant-loop-line
invariant-loop-line l = (all_from (map view_placed l.lines.items) (nest_in l.made)).items ≡ module_of (map view_placed l.fn.lines.items)

abbrev pub decreases-loop-line : goal.decreases-loop-line
decreases-loop-line l = length l.lines.items
