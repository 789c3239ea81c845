-- A means of proof: a task begins to wait, leaf by leaf.
use Rattle.std.specs.Prelude.{◌≡◌, ◌⊎◌, ℕ, ◌≤◌, ◌==◌, true, List, ◌++◌, length, map, Option, Some, None, slice_index_or, if◌then◌else◌}
use Rattle.gpi.specs.Content.{Content}
use Rattle.await_tree.specs.declared.cause.Awaited.{Awaited}
use Rattle.await_tree.specs.declared.cause.Awaited.TheVariants as awaited
use Rattle.await_tree.specs.WaitList.Keys.{AreAlike, AreKeys}
use Rattle.await_tree.specs.WaitList.Parts.{Joins}
use Rattle.await_tree.specs.WaitList.Waiting.{keys_among}
use Rattle.trigger_table.specs.Entries.{HasCause}
use Rattle.trigger_table.specs.Keys.{record_keys, runner_keys}
use Rattle.trigger_table.specs.State.{Link, Row, State, AllNeeded}
use Rattle.trigger_table.specs.Tied.{AreOn, Grows}
use Rattle.trigger_table.specs.declared.entries.CauseRecord.{CauseRecord}

-- these waiters join this task as its last
abbrev pub with_links : ℕ → List Link → List Row → List Row
with_links number links rows = map (λ (row : Row). if row.number == number then record row { links = row.links ++ links } else row) rows

-- What is awaited has this record, which it had or which came with it, held by nobody. All other records are as they were.
pub record Joined (on : Awaited) (cause : ℕ) (old new : List (Option CauseRecord)) : Type 0 where
  pub has : HasCause new cause on
  pub grows : Grows old new
  pub only : (number : ℕ) (kept : CauseRecord) → slice_index_or new number None ≡ Some kept → (number ≡ cause) ⊎ (slice_index_or old number None ≡ Some kept)
  pub free : (kept : CauseRecord) → slice_index_or new cause None ≡ Some kept → kept.held ≡ true → slice_index_or old cause None ≡ Some kept

-- A task has come to wait for these too: it has a waiter on each, and the records are those before and theirs.
pub record Reaches (number : ℕ) (ons : List Awaited) (old new : State) : Type 0 where
  pub links : List Link
  pub rows : new.rows ≡ with_links number links old.rows
  pub on : AreOn new.causes links ons
  pub grows : Grows old.causes new.causes
  pub held : AreAlike (runner_keys new.causes) (runner_keys old.causes)
  pub names : AreAlike (record_keys new.causes) (keys_among ons ++ record_keys old.causes)
  pub needed : AllNeeded new

-- what is awaited is registered, where it is a key and wasn't
abbrev pub Adds : Content → Awaited → Content → Type 0
Adds before (awaited.Key key) after = Joins before key after
Adds before (awaited.Event event) after = after ≡ before
Adds before (awaited.Lock lock) after = after ≡ before
Adds before (awaited.Join task) after = after ≡ before

-- Of what a simulator holds only the registered keys and the counts of registrations and removals have changed.
pub record Steady (before after : Content) : Type 0 where
  pub procs : after.procs ≡ before.procs
  pub nets : after.nets ≡ before.nets
  pub state : after.state ≡ before.state
  pub fired : after.counts.fired ≡ before.counts.fired

-- A task that was to wait for more waits for so many of these at most, and the registered keys are those of the records.
pub record FallsShort (number most : ℕ) (before after : Content) (old new : State) : Type 0 where
  pub ons : List Awaited
  pub few : length ons ≤ most
  pub reaches : Reaches number ons old new
  pub steady : Steady before after
  pub keys : AreKeys after.keys (record_keys new.causes)
