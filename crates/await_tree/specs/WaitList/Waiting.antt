-- Tasks that wait, whom a cause or a lock reaches, and which keys are awaited (cocotb 1.8, "Triggers").
use Rattle.std.specs.Prelude.{ℕ, ◌==◌, Bool, true, false, not, List, [], ◌∷◌, ◌++◌, length, filter, Option, None, Some, if◌then◌else◌}
use Rattle.std.specs.List.{flat_map, list_any}
use Rattle.gpi.specs.Keys.{among}
use Rattle.gpi.specs.declared.types.Fired.{Fired}
use Rattle.gpi.specs.declared.types.Key.{Key}
use Rattle.gpi.specs.declared.types.Key.TheVariants.{ReadWrite, At}
use Rattle.py_value.specs.declared.trigger.TaskNo.{TaskNo}
use Rattle.py_value.specs.declared.trigger.LockNo.{LockNo}
use Rattle.await_tree.specs.declared.cause.Awaited.{Awaited}
use Rattle.await_tree.specs.declared.cause.Awaited.TheVariants as awaited
use Rattle.await_tree.specs.declared.cause.Cause.{Cause}
use Rattle.await_tree.specs.declared.cause.Cause.TheVariants as cause
use Rattle.await_tree.specs.declared.cause.Step.{Step}
use Rattle.await_tree.specs.declared.cause.Step.TheVariants.{Still, Done}
use Rattle.await_tree.specs.Fire.{fire, grant, awaits, reach_of}
use Rattle.await_tree.specs.Steps.{step_of}
use Rattle.await_tree.specs.Tree.{Tree, leaves}
use Rattle.await_tree.specs.declared.wait_list.ready.Entry.{Entry}

-- A task that waits, with its tree. A list of these stands in the order in which the tasks began to wait.
pub record Waiting : Type 0 where
  pub task : TaskNo
  pub tree : Tree

abbrev pub is_of : TaskNo → Waiting → Bool
is_of task w = w.task.0 == task.0

-- the task waits
abbrev pub is_waiting : TaskNo → List Waiting → Bool
is_waiting task waiting = list_any (is_of task) waiting

-- the tasks that wait without this one
abbrev pub without_task : TaskNo → List Waiting → List Waiting
without_task task waiting = filter (λ (w : Waiting). not (is_of task w)) waiting

-- ---- keys

-- the keys among what is awaited
abbrev pub keys_among : List Awaited → List Key
keys_among [] = []
keys_among (awaited.Key key ∷ ws) = key ∷ keys_among ws
keys_among (awaited.Event event ∷ ws) = keys_among ws
keys_among (awaited.Lock lock ∷ ws) = keys_among ws
keys_among (awaited.Join task ∷ ws) = keys_among ws

-- the keys of the waiting leaves of a tree
abbrev pub tree_keys : Tree → List Key
tree_keys tree = keys_among (leaves tree)

-- the keys of the waiting leaves of all tasks
abbrev pub keys_of : List Waiting → List Key
keys_of waiting = flat_map (λ (w : Waiting). tree_keys w.tree) waiting

-- the keys of waiting tasks, and those that the runner itself holds
abbrev pub named : List Waiting → List Key → List Key
named waiting held = keys_of waiting ++ held

abbrev pub time_key : Option ℕ → List Key
time_key None = []
time_key (Some time) = At time ∷ []

abbrev pub phase_key : Bool → List Key
phase_key true = ReadWrite ∷ []
phase_key false = []

-- The keys that the runner itself holds: the read-write phase while a write is staged, the time at which the running test is given up,
-- and the time at which the next one begins.
abbrev pub held_keys : Bool → Option ℕ → Option ℕ → List Key
held_keys is_staged deadline planned = phase_key is_staged ++ time_key deadline ++ time_key planned

-- the awaited keys: the named ones without those that fired and aren't served yet
abbrev pub awaited_keys : List Key → List Waiting → List Key → List Key
awaited_keys fired waiting held = filter (λ key. not (among key fired)) (named waiting held)

abbrev pub key_list : Option Key → List Key
key_list None = []
key_list (Some key) = key ∷ []

-- the keys that fired, in order
abbrev pub fired_keys : Fired → List Key
fired_keys fired = key_list fired.first ++ key_list fired.second

-- ---- wakes

-- the entry of a task that waited, where its tree is done
abbrev pub entry_of : TaskNo → Step → List Entry
entry_of task Still = []
entry_of task (Done given) = record { task = task; given = given } ∷ []

-- the task with its tree, where that isn't done
abbrev pub left_of : TaskNo → Tree → Step → List Waiting
left_of task tree Still = record { task = task; tree = tree } ∷ []
left_of task tree (Done given) = []

-- The entries of the tasks whose trees the cause completes, in the order in which they began to wait.
abbrev pub woken : Cause → List Waiting → List Entry
woken c [] = []
woken c (w ∷ ws) = entry_of w.task (step_of (fire c w.tree)) ++ woken c ws

-- the tasks that wait on, with what is left of their trees
abbrev pub still_waiting : Cause → List Waiting → List Waiting
still_waiting c [] = []
still_waiting c (w ∷ ws) = left_of w.task (fire c w.tree) (step_of (fire c w.tree)) ++ still_waiting c ws

-- how many of the waiting tasks have a leaf that the cause reaches
abbrev pub reached_tasks : Cause → List Waiting → ℕ
reached_tasks c waiting = length (filter (λ (w : Waiting). awaits (reach_of c) w.tree) waiting)

-- the cause is an event that was set or a task that has ended
abbrev pub IsNoKey : Cause → Type 0
IsNoKey (cause.Key key) = ⊥
IsNoKey (cause.Event event) = Unit {0}
IsNoKey (cause.Ended task failed) = Unit {0}

-- a waiting task has a join of this one
abbrev pub is_joined : TaskNo → List Waiting → Bool
is_joined task waiting = list_any (λ (w : Waiting). awaits (awaited.Join task) w.tree) waiting

-- ---- keys that are served in order

-- the tasks that wait on once each of the keys has fired, one after the other
abbrev pub all_waiting : List Key → List Waiting → List Waiting
all_waiting [] waiting = waiting
all_waiting (key ∷ keys) waiting = all_waiting keys (still_waiting (cause.Key key) waiting)

-- the entries of the tasks that are woken on the way
abbrev pub all_woken : List Key → List Waiting → List Entry
all_woken [] waiting = []
all_woken (key ∷ keys) waiting = woken (cause.Key key) waiting ++ all_woken keys (still_waiting (cause.Key key) waiting)

-- ---- locks

-- the tree has a waiting leaf on the lock
abbrev pub wants : LockNo → Tree → Bool
wants lock tree = awaits (awaited.Lock lock) tree

-- a waiting task has a leaf on the lock
abbrev pub is_wanted : LockNo → List Waiting → Bool
is_wanted lock waiting = list_any (λ (w : Waiting). wants lock w.tree) waiting

-- who is handed a lock: the entry of its task, where that is woken, and the tasks that wait then
pub record Granted : Type 0 where
  pub entries : List Entry
  pub waiting : List Waiting

abbrev pub granted_to : TaskNo → Tree → List Waiting → Granted
granted_to task tree ws = record { entries = entry_of task (step_of tree); waiting = left_of task tree (step_of tree) ++ ws }

abbrev pub behind : Waiting → Granted → Granted
behind w g = record { entries = g.entries; waiting = w ∷ g.waiting }

-- The first waiting task with a leaf on the lock is handed it.
abbrev pub granted : LockNo → List Waiting → Granted
granted lock [] = record { entries = []; waiting = [] }
granted lock (w ∷ ws) = if wants lock w.tree then granted_to w.task (grant lock w.tree) ws else behind w (granted lock ws)
