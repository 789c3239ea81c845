use Rattle.std.proofs.Common.{◌≡◌, take}
use Rattle.py_value.specs.Trigger.{row}
use Rattle.py_value.specs.Extents.{row_extent}
use Rattle.py_value.proofs.limits.+extents.Given as goal

abbrev pub invariant-row_extent-loop-trig : goal.invariant-row_extent-loop-trig
invariant-row_extent-loop-trig l = l.extent ≡ row_extent (row (take l.trig-index l.trig-items))
