use Rattle.std.proofs.Common.{◌≡◌, take}
use Rattle.py_value.proofs.+copying.Given as goal

abbrev pub invariant-copies::copy_all-loop-trig : goal.invariant-copies::copy_all-loop-trig
invariant-copies::copy_all-loop-trig l = l.copied.list.items ≡ take l.trig-index l.trig-items
