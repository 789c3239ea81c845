use Rattle.std.proofs.Common.{◌≡◌, ◌≤◌, ◌++◌, ℕ, [], false, length, drop}
use Rattle.gpi.specs.Keys.{holds}
use Rattle.gpi.specs.Design.{procs_of, starters}
use Rattle.event_queue.specs.Queues.{held, processes_of}
use Rattle.fast_kernel.proofs.opening.start_queue.Given as goal

abbrev pub invariant-loop-at : goal.invariant-loop-at
invariant-loop-at l = record {
  due : (held l.queue).due ≡ [];
  later : (held l.queue).later ≡ [];
  delayed : (held l.queue).delayed ≡ [];
  times : (held l.queue).times ≡ [];
  made : (held l.queue).active ++ starters l.at (procs_of (drop l.at l.processes)) ≡ starters 0 (procs_of l.processes);
  fresh : (q : ℕ) → l.at ≤ q → holds q (held l.queue).active ≡ false;
  processes : processes_of l.queue ≡ length l.processes;
}
