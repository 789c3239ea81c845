use Rattle.std.proofs.Common.{◌≡◌, ◌+◌, ◌*◌, ◌≤◌, length}
use Rattle.await_tree.specs.WaitList.Waiting.{fired_keys}
use Rattle.trigger_table.specs.Keys.{record_keys, runner_keys}
use Rattle.await_tree.specs.WaitList.Parts.{Fits, Narrows}
use Rattle.trigger_table.specs.Records.{causes_in, rows_in, state_in}
use Rattle.trigger_table.specs.State.{HasRow, entry_at, links_at, without_row, AllNeeded, HeldStays}
use Rattle.trigger_table.specs.Tied.{Shrinks}
use Rattle.trigger_table.proofs.table.drop_row.Given as goal

abbrev pub invariant-links : goal.invariant-links
invariant-links g l = record {
  has : HasRow l.number (rows_in l.records);
  entry : entry_at l.number (rows_in l.records) ≡ entry_at l.number (rows_in l.initial.records);
  rows : without_row l.number (rows_in l.records) ≡ without_row l.number (rows_in l.initial.records);
  needed : AllNeeded (state_in l.records);
  held : HeldStays (causes_in l.initial.records) (causes_in l.records);
  shrinks : Shrinks (causes_in l.initial.records) (causes_in l.records);
  loaded : g.K.Gpi.is_loaded l.kernel;
  fits : Fits (g.K.Gpi.content l.kernel) (fired_keys l.fired) (runner_keys (causes_in l.records)) (record_keys (causes_in l.records));
  keys : Narrows (g.K.Gpi.content l.initial.kernel) (g.K.Gpi.content l.kernel) (record_keys (causes_in l.initial.records)) (record_keys (causes_in l.records));
  ticks : l.steps + 3 * length (links_at l.number (rows_in l.records)) ≤ l.initial.steps + 3 * length (links_at l.number (rows_in l.initial.records));
}

abbrev pub decreases-links : goal.decreases-links
decreases-links g l = length (links_at l.number (rows_in l.records))
