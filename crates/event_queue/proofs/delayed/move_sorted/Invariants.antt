use Rattle.std.proofs.Common.{◌≡◌, ◌+◌, ◌++◌, ℕ, length, IsTrue, true}
use Rattle.std.specs.VecDeque.{deque_len, deque_capacity}
use Rattle.gpi.specs.State.{arriving, waiting_on}
use Rattle.event_queue.specs.Waiting.{are_in_order, are_from, sorted_of, are_before}
use Rattle.event_queue.proofs.delayed.move_sorted.Given as goal

abbrev pub invariant-loop-update : goal.invariant-loop-update
invariant-loop-update l = record {
  moved : l.updates.items ++ arriving l.time (sorted_of l.sorted.entries) ≡ l.fn.updates.items ++ arriving l.time (sorted_of l.fn.sorted.entries);
  left : waiting_on l.time (sorted_of l.sorted.entries) ≡ waiting_on l.time (sorted_of l.fn.sorted.entries);
  ordered : IsTrue (are_in_order (sorted_of l.sorted.entries));
  none_earlier : IsTrue (are_from l.time (sorted_of l.sorted.entries));
  numbers : (n : ℕ) → are_before n l.fn.sorted.entries ≡ true → are_before n l.sorted.entries ≡ true;
  count : deque_len l.updates + length l.sorted.entries ≡ deque_len l.fn.updates + length l.fn.sorted.entries;
  room : deque_capacity l.updates ≡ deque_capacity l.fn.updates;
}

abbrev pub decreases-loop-update : goal.decreases-loop-update
decreases-loop-update l = length l.sorted.entries
