use Rattle.std.proofs.Common.{◌≡◌, ℕ, ◌++◌, List, length, drop}
use Rattle.gpi.specs.Design.{procs_of}
use Rattle.gpi.specs.Soundness.{AreProcesses}
use Rattle.list_kernel.proofs.kernel.copy_processes.Given as goal

abbrev pub invariant-loop-at : goal.invariant-loop-at
invariant-loop-at l = record {
  count : length l.copies.items ≡ l.at;
  made : procs_of l.copies.items ++ procs_of (drop l.at l.processes) ≡ procs_of l.processes;
  sound : (ws : List ℕ) → AreProcesses l.processes ws → AreProcesses l.copies.items ws × AreProcesses (drop l.at l.processes) ws;
}
