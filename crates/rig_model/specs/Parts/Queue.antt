-- What is ready, what waits and what the runner itself awaits, and a configuration made of these, of what a simulator holds, and of the rest.
use Rattle.std.specs.Prelude.{◌≡◌, ℕ, List, [], Option, None}
use Rattle.gpi.specs.Content.{Content}
use Rattle.gpi.specs.State.{State}
use Rattle.gpi.specs.declared.types.Counts.{Counts}
use Rattle.gpi.specs.declared.types.Key.{Key}
use Rattle.run_view.specs.declared.signal_port.staged.Staged.{Staged}
use Rattle.await_tree.specs.WaitList.Waiting.{Waiting, held_keys, awaited_keys}
use Rattle.await_tree.specs.declared.wait_list.ready.Entry.{Entry}
use Rattle.rig_model.specs.Run.Rig.{Rig, is_any}

-- The part of a configuration on which the awaited keys depend, with the tasks that are ready.
pub record Queue : Type 0 where
  -- the tasks that are ready, the first of them first
  pub ready : List Entry
  -- the tasks that wait, in the order in which they began to
  pub waiting : List Waiting
  -- the staged writes, the oldest first
  pub staged : List Staged
  -- when the test is given up
  pub deadline : Option ℕ
  -- when the next test begins
  pub planned : Option ℕ

abbrev pub nothing_queued : Queue
nothing_queued = record { ready = []; waiting = []; staged = []; deadline = None; planned = None }

-- the keys that the runner itself holds
abbrev pub queue_held : Queue → List Key
queue_held q = held_keys (is_any q.staged) q.deadline q.planned

-- the awaited keys, while these keys have fired and are still to be served
abbrev pub queue_awaited : List Key → Queue → List Key
queue_awaited fired q = awaited_keys fired q.waiting (queue_held q)

-- ---- configurations

-- the configuration of a queue and of a simulator in this state, while these keys have fired and are still to be served; its tasks and their endings,
-- who has the turn, the objects, the queues of the test, the random numbers and the outcome are those of c
abbrev pub rig_amid : List Key → Counts → Queue → State → Rig → Rig
rig_amid fired counts q sim c = record c {
  sim = sim;
  ready = q.ready;
  waiting = q.waiting;
  staged = q.staged;
  deadline = q.deadline;
  planned = q.planned;
  fired = fired;
  counts = counts;
}

-- the same where each fired key is served, with what a simulator holds
abbrev pub rig_at : Queue → Content → Rig → Rig
rig_at q content c = rig_amid [] content.counts q content.state c

-- Whatever the rest of the configuration is, the effect leads from the one queue and simulator to the other.
abbrev pub Leads : (Rig → Rig) → Queue → Content → Queue → Content → Type 0
Leads effect q content q' content' = (c : Rig) → effect (rig_at q content c) ≡ rig_at q' content' c
