-- A means of proof: what contracts see of `Records`.
use Rattle.std.specs.Prelude.{List, Option}
use Rattle.trigger_table.specs.State.{State, Row}
use Rattle.trigger_table.specs.Kept.{rows_of}
use Rattle.trigger_table.specs.declared.entries.CauseRecord.{CauseRecord}
use Rattle.trigger_table.specs.declared.records.Records.{Records}

-- the waiting tasks with their waiters, in the order in which they began to wait
unfoldable pub rows_in : Records → List Row
rows_in records = rows_of records.tasks.slab.slots records.by_cause records.by_task records.order

-- what is kept of what leaves wait for, by number
abbrev pub causes_in : Records → List (Option CauseRecord)
causes_in records = records.causes.slab.slots

abbrev pub state_in : Records → State
state_in records = record { rows = rows_in records; causes = causes_in records }
