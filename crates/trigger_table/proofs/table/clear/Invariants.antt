use Rattle.std.proofs.Common.{◌+◌, ◌*◌, ◌≤◌, [], length}
use Rattle.await_tree.specs.WaitList.Parts.{Fits, Narrows}
use Rattle.trigger_table.specs.Keys.{record_keys, runner_keys}
use Rattle.trigger_table.specs.Records.{causes_in, rows_in, state_in}
use Rattle.trigger_table.specs.State.{HeldStays, links_of}
use Rattle.trigger_table.specs.Tied.{IsKept, Shrinks}
use Rattle.trigger_table.proofs.table.clear.Given as goal

abbrev pub invariant-tasks : goal.invariant-tasks
invariant-tasks g l = record {
  kept : IsKept (state_in l.records);
  held : HeldStays (causes_in l.initial.records) (causes_in l.records);
  shrinks : Shrinks (causes_in l.initial.records) (causes_in l.records);
  few : length (rows_in l.records) ≤ length (rows_in l.initial.records);
  loaded : g.K.Gpi.is_loaded l.kernel;
  fits : Fits (g.K.Gpi.content l.kernel) [] (runner_keys (causes_in l.records)) (record_keys (causes_in l.records));
  keys : Narrows (g.K.Gpi.content l.initial.kernel) (g.K.Gpi.content l.kernel) (record_keys (causes_in l.initial.records)) (record_keys (causes_in l.records));
  ticks : l.steps + 3 * length (links_of (rows_in l.records)) + 3 * length (rows_in l.records)
      ≤ l.initial.steps + 3 * length (links_of (rows_in l.initial.records)) + 3 * length (rows_in l.initial.records);
}

abbrev pub decreases-tasks : goal.decreases-tasks
decreases-tasks g l = length (rows_in l.records)
