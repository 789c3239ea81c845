use Rattle.std.proofs.Common.{◌≤◌, ◌+◌, ◌*◌, ◌-◌, ◌++◌, length, take}
use Rattle.await_tree.specs.WaitList.Keys.{Rekeyed}
use Rattle.await_tree.specs.WaitList.Waiting.{keys_among}
use Rattle.trigger_table.specs.Awaiting.{Reaches}
use Rattle.trigger_table.specs.Keys.{record_keys}
use Rattle.trigger_table.specs.Records.{causes_in, state_in}
use Rattle.trigger_table.proofs.awaiting.await_all.Given as goal

abbrev pub invariant-loop-at : goal.invariant-loop-at
invariant-loop-at g l = record {
  inside : l.at ≤ length l.awaited;
  loaded : g.K.Gpi.is_loaded l.kernel;
  reaches : Reaches l.number (take l.at l.awaited) (state_in l.fn.records) (state_in l.records);
  keys : Rekeyed (g.K.Gpi.content l.fn.kernel) (g.K.Gpi.content l.kernel) (keys_among (take l.at l.awaited)) (record_keys (causes_in l.fn.records)) (keys_among l.awaited ++ record_keys (causes_in l.fn.records));
  ticks : l.steps ≤ l.fn.steps + 5 * l.at;
}

abbrev pub decreases-loop-at : goal.decreases-loop-at
decreases-loop-at g l = length l.awaited - l.at
