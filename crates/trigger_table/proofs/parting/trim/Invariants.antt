use Rattle.std.proofs.Common.{◌+◌, ◌*◌, ◌-◌, ◌≤◌, length}
use Rattle.await_tree.specs.WaitList.Parts.{Fits, Narrows}
use Rattle.await_tree.specs.WaitList.Waiting.{fired_keys}
use Rattle.trigger_table.specs.Keys.{record_keys, runner_keys}
use Rattle.trigger_table.specs.Records.{causes_in, rows_in, state_in}
use Rattle.trigger_table.specs.Serving.{Trimming}
use Rattle.trigger_table.specs.State.{AllNeeded, HeldStays, links_at}
use Rattle.trigger_table.specs.Tied.{Shrinks}
use Rattle.trigger_table.proofs.parting.trim.Given as goal

abbrev pub invariant-waiters : goal.invariant-waiters
invariant-waiters g l = record {
  trimming : Trimming l.number l.leaves l.kept l.at (causes_in l.records) (rows_in l.initial.records) (rows_in l.records);
  needed : AllNeeded (state_in l.records);
  held : HeldStays (causes_in l.initial.records) (causes_in l.records);
  shrinks : Shrinks (causes_in l.initial.records) (causes_in l.records);
  loaded : g.K.Gpi.is_loaded l.kernel;
  fits : Fits (g.K.Gpi.content l.kernel) (fired_keys l.fired) (runner_keys (causes_in l.records)) (record_keys (causes_in l.records));
  keys : Narrows (g.K.Gpi.content l.initial.kernel) (g.K.Gpi.content l.kernel) (record_keys (causes_in l.initial.records)) (record_keys (causes_in l.records));
  ticks : l.steps + 5 * length (links_at l.number (rows_in l.records)) ≤ l.initial.steps + 5 * length (links_at l.number (rows_in l.initial.records)) + 5 * l.kept;
}

abbrev pub decreases-waiters : goal.decreases-waiters
decreases-waiters g l = length (links_at l.number (rows_in l.records)) - l.kept
