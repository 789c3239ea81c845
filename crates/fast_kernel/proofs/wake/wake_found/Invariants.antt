use Rattle.std.proofs.Common.{◌≡◌, ◌++◌, ℕ, true, drop}
use Rattle.gpi.specs.Keys.{holds}
use Rattle.kernel_base.specs.Lists.{barred}
use Rattle.event_queue.specs.Queues.{held, processes_of}
use Rattle.fast_kernel.specs.Woken.{unbarred}
use Rattle.fast_kernel.proofs.wake.wake_found.Given as goal

abbrev pub invariant-loop-process : goal.invariant-loop-process
invariant-loop-process l = record {
  due : (held l.queue).due ≡ (held l.fn.queue).due;
  later : (held l.queue).later ≡ (held l.fn.queue).later;
  delayed : (held l.queue).delayed ≡ (held l.fn.queue).delayed;
  times : (held l.queue).times ≡ (held l.fn.queue).times;
  active : (held l.queue).active ++ unbarred (barred l.own (held l.fn.queue).active) (drop l.process-index l.found)
      ≡ (held l.fn.queue).active ++ unbarred (barred l.own (held l.fn.queue).active) l.found;
  fresh : (q : ℕ) → holds q (drop l.process-index l.found) ≡ true → holds q (held l.queue).active ≡ holds q (held l.fn.queue).active;
  processes : processes_of l.queue ≡ processes_of l.fn.queue;
}
