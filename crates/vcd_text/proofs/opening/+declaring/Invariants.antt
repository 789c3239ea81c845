-- The lines so far, and those of the names that are left; the measure is how many instances may stand inside.
use Rattle.std.proofs.Common.{◌≡◌, ◌+◌, ◌*◌, ◌++◌, drop}
use Rattle.vcd_text.specs.OpeningLines.{inner_lines}
use Rattle.vcd_text.proofs.opening.+declaring.Given as goal

abbrev pub decreases-add_instance : goal.decreases-add_instance
decreases-add_instance l = 4 * l.room

abbrev pub decreases-add_inside : goal.decreases-add_inside
decreases-add_inside l = 4 * l.room + 3

abbrev pub decreases-add_instances : goal.decreases-add_instances
decreases-add_instances l = 4 * l.room + 2

abbrev pub decreases-add_inner : goal.decreases-add_inner
decreases-add_inner l = 4 * l.room + 1

abbrev pub invariant-add_instances-loop-at : goal.invariant-add_instances-loop-at
invariant-add_instances-loop-at l = l.lines ++ inner_lines l.flat l.room (drop l.at l.children) ≡ l.fn.lines ++ inner_lines l.flat l.room l.children
