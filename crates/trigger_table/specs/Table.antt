-- A means of proof: what a table of triggers stands for.
use Rattle.std.specs.Prelude.{List}
use Rattle.gpi.specs.declared.types.Key.{Key}
use Rattle.await_tree.specs.WaitList.Waiting.{Waiting, named}
use Rattle.trigger_table.specs.Keys.{runner_keys}
use Rattle.trigger_table.specs.Records.{causes_in, rows_in}
use Rattle.trigger_table.specs.Tied as tied
use Rattle.trigger_table.specs.declared.keeper.TriggerTable.{TriggerTable}

-- the waiting tasks with their trees, in the order in which they began to wait
abbrev pub waiting_in : TriggerTable → List Waiting
waiting_in table = tied.waiting_in (rows_in table.records)

-- the keys that the runner itself holds
abbrev pub held_in : TriggerTable → List Key
held_in table = runner_keys (causes_in table.records)

-- the keys of the waiting tasks, and those that the runner itself holds
abbrev pub names_in : TriggerTable → List Key
names_in table = named (waiting_in table) (held_in table)
