use Rattle.std.proofs.Common.{◌≡◌}
use Rattle.std.specs.VecDeque.{deque_len}
use Rattle.event_queue.specs.Delays.{waiting_in}
use Rattle.event_queue.proofs.delayed.Delays.sort.Given as goal

abbrev pub invariant-loop-self : goal.invariant-loop-self
invariant-loop-self l = waiting_in l.self ≡ waiting_in l.fn.self

abbrev pub decreases-loop-self : goal.decreases-loop-self
decreases-loop-self l = deque_len l.self.fresh
