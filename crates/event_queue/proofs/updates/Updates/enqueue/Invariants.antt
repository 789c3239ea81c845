use Rattle.std.proofs.Common.{◌≡◌, ◌-◌, ◌++◌, length, drop}
use Rattle.gpi.specs.State.{at_once, all_delaying}
use Rattle.event_queue.specs.Held.{due_of, later_of, delayed_of, HasRoom}
use Rattle.event_queue.proofs.updates.Updates.enqueue.Given as goal

abbrev pub invariant-loop-update : goal.invariant-loop-update
invariant-loop-update l = record {
  due : due_of l.self ≡ due_of l.fn.self;
  later : later_of l.self ++ at_once (drop l.update-index l.updates) ≡ later_of l.fn.self ++ at_once l.updates;
  delayed : all_delaying l.now (drop l.update-index l.updates) (delayed_of l.self) ≡ all_delaying l.now l.updates (delayed_of l.fn.self);
  room : HasRoom (length l.updates - l.update-index) l.self;
}
