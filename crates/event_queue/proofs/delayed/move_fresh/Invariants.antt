use Rattle.std.proofs.Common.{◌≡◌, ◌≤◌, ◌+◌, ◌++◌, take, drop}
use Rattle.std.specs.VecDeque.{deque_len, deque_capacity}
use Rattle.gpi.specs.State.{arriving, waiting_on}
use Rattle.event_queue.proofs.delayed.move_fresh.Given as goal

abbrev pub invariant-loop-left : goal.invariant-loop-left
invariant-loop-left l = record {
  inside : l.left ≤ deque_len l.fresh;
  moved : l.updates.items ++ arriving l.time (take l.left l.fresh.items) ≡ l.fn.updates.items ++ arriving l.time l.fn.fresh.items;
  kept : drop l.left l.fresh.items ++ waiting_on l.time (take l.left l.fresh.items) ≡ waiting_on l.time l.fn.fresh.items;
  count : deque_len l.updates + deque_len l.fresh ≡ deque_len l.fn.updates + deque_len l.fn.fresh;
  room : deque_capacity l.updates ≡ deque_capacity l.fn.updates;
}

abbrev pub decreases-loop-left : goal.decreases-loop-left
decreases-loop-left l = l.left
