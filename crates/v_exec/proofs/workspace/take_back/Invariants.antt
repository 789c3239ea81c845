use Rattle.std.proofs.Common.{◌≡◌, ◌-◌, length, drop}
use Rattle.v_exec.proofs.Touches.{AreOf}
use Rattle.v_exec.proofs.workspace.take_back.Given as goal

abbrev pub invariant-loop-at : goal.invariant-loop-at
invariant-loop-at l = record {
  count : length l.flags ≡ length l.fn.flags;
  flags : AreOf l.flags (drop l.at l.touched);
}

abbrev pub decreases-loop-at : goal.decreases-loop-at
decreases-loop-at l = length l.touched - l.at
