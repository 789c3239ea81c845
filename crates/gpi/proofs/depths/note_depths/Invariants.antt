use Rattle.std.proofs.Common.{◌<◌, ◌≤◌, length}
use Rattle.gpi.specs.Tables.{AreDepths, IsDepth}
use Rattle.gpi.proofs.depths.note_depths.Given as goal

abbrev pub invariant-up : goal.invariant-up
invariant-up l = record {
  inside : l.at < length l.parents;
  few : l.left ≤ length l.parents;
  depth : IsDepth l.parents l.at l.left;
  known : AreDepths l.parents l.depths;
}

abbrev pub decreases-up : goal.decreases-up
decreases-up l = l.left
