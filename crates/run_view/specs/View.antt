-- A means of proof: what a task sees of a simulator that runs a design, of the events, locks and queues of its test, and of how tasks
-- have ended, for the proofs of the runner.
use Rattle.std.specs.Prelude.{◌≡◌, ℕ, ◌<◌, List, length, map, All}
use Rattle.gpi.specs.Soundness.{IsSoundFlat}
use Rattle.gpi.specs.State.{State}
use Rattle.gpi.specs.declared.design.Flat.{Flat}
use Rattle.gpi.specs.declared.design.Node.{Node}
use Rattle.py_value.specs.Places.{places_of}
use Rattle.py_evaluate.specs.Attribute.Look.{View, SeenQueue}
use Rattle.run_view.specs.DesignNames.Names.{names_of}
use Rattle.task_queue.specs.Queues.{TaskQueue, is_full}
use Rattle.await_tree.specs.SyncObjects.States.{States}
use Rattle.await_tree.specs.EndedTasks.Endings.{Endings, all_done}

-- what a task sees of a queue
abbrev pub seen : TaskQueue → SeenQueue
seen q = record { held = length q.items; is_full = is_full q; items_event = q.items_event; space_event = q.space_event }

-- both events of each queue were made
abbrev pub HasEvents : ℕ → TaskQueue → Type 0
HasEvents made q = (q.items_event.0 < made) × (q.space_event.0 < made)

abbrev pub HaveEvents : States → List TaskQueue → Type 0
HaveEvents objects queues = All (HasEvents (length objects.events)) queues

-- the paths, names and step of the design; the values, the time and the region of the simulator; the events and the locks, and
-- which tasks have ended, and what is seen of the queues
abbrev pub view_of : Flat → State → States → List TaskQueue → Endings → View
view_of flat state objects queues endings = record {
  places = places_of flat;
  nodes = names_of flat.nodes;
  step_fs = flat.step_fs;
  signals = state.signals;
  time = state.time;
  region = state.region;
  events = objects.events;
  locks = objects.locks;
  ended = all_done endings;
  queues = map seen queues;
}

-- the design is sound, these nodes are its own, and the simulator has a value for each of its signals
pub record IsOf (flat : Flat) (nodes : List Node) (state : State) : Type 0 where
  pub sound : IsSoundFlat flat
  pub nodes_are : nodes ≡ flat.nodes
  pub values : length state.signals ≡ length flat.signals
