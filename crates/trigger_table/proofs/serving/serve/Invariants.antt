use Rattle.std.proofs.Common.{◌≡◌, ◌-◌, length}
use Rattle.await_tree.specs.WaitList.Parts.{Fits, Narrows}
use Rattle.await_tree.specs.WaitList.Waiting.{fired_keys}
use Rattle.trigger_table.specs.Keys.{record_keys, runner_keys}
use Rattle.trigger_table.specs.Records.{causes_in, rows_in, state_in}
use Rattle.trigger_table.specs.State.{HeldStays}
use Rattle.trigger_table.specs.Tied.{IsKept, Shrinks}
use Rattle.trigger_table.proofs.ServeLemmas.{Serving}
use Rattle.trigger_table.proofs.serving.serve.Given as goal

abbrev pub invariant-tasks : goal.invariant-tasks
invariant-tasks g l = record {
  serving : Serving l.number l.cause l.at l.reached (rows_in l.fn.records) (rows_in l.records) l.fn.ready.entries l.ready.entries l.fn.steps l.steps;
  room : l.ready.room ≡ l.fn.ready.room;
  kept : IsKept (state_in l.records);
  held : HeldStays (causes_in l.fn.records) (causes_in l.records);
  shrinks : Shrinks (causes_in l.fn.records) (causes_in l.records);
  loaded : g.K.Gpi.is_loaded l.kernel;
  fits : Fits (g.K.Gpi.content l.kernel) (fired_keys l.fired) (runner_keys (causes_in l.records)) (record_keys (causes_in l.records));
  keys : Narrows (g.K.Gpi.content l.fn.kernel) (g.K.Gpi.content l.kernel) (record_keys (causes_in l.fn.records)) (record_keys (causes_in l.records));
}

abbrev pub decreases-tasks : goal.decreases-tasks
decreases-tasks g l = length (rows_in l.fn.records) - l.reached
