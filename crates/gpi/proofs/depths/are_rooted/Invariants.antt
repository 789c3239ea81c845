use Rattle.std.proofs.Common.{ℕ, ◌<◌, length, IsTrue}
use Rattle.gpi.specs.Tables.{AreDepths, comes}
use Rattle.gpi.proofs.depths.are_rooted.Given as goal

abbrev pub invariant-loop-node : goal.invariant-loop-node
invariant-loop-node l = record {
  known : AreDepths l.parents l.depths;
  each : (v : ℕ) → v < l.node → IsTrue (comes (length l.parents) l.parents v);
}
