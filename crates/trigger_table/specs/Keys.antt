-- A means of proof: which keys the records name, and which of them the runner holds.
use Rattle.std.specs.Prelude.{List, [], ◌∷◌, Option, Some, None, if◌then◌else◌}
use Rattle.gpi.specs.declared.types.Key.{Key}
use Rattle.await_tree.specs.WaitList.Waiting.{keys_among}
use Rattle.trigger_table.specs.State.{concat_by}
use Rattle.trigger_table.specs.declared.entries.CauseRecord.{CauseRecord}

abbrev pub slot_keys : Option CauseRecord → List Key
slot_keys None = []
slot_keys (Some kept) = keys_among (kept.on ∷ [])

abbrev pub held_slot : Option CauseRecord → List Key
held_slot None = []
held_slot (Some kept) = if kept.held then keys_among (kept.on ∷ []) else []

-- the keys that have a record
abbrev pub record_keys : List (Option CauseRecord) → List Key
record_keys slots = concat_by slot_keys slots

-- those of them that the runner holds
abbrev pub runner_keys : List (Option CauseRecord) → List Key
runner_keys slots = concat_by held_slot slots
