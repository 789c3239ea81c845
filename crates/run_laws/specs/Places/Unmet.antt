-- A means of proof: what the leaves of waiting trees wait for hasn't come, for the laws of what runs reach.
use Rattle.std.specs.Prelude.{◌≡◌, true, false, List, [], ◌∷◌, None, IsSome}
use Rattle.await_tree.specs.Begin.{Facts, is_set, is_held, ended}
use Rattle.await_tree.specs.Tree.{leaves}
use Rattle.await_tree.specs.declared.cause.Awaited.{Awaited}
use Rattle.await_tree.specs.declared.cause.Awaited.TheVariants as awaited
use Rattle.rig_model.specs.Task.Frame.{Task}
use Rattle.await_tree.specs.WaitList.Waiting.{Waiting}
use Rattle.rig_model.specs.Run.Rig.{Rig, facts_of}
use Rattle.rig_model.specs.Run.Step.{task_at}

-- the event isn't set, the lock is held, the task hasn't ended
abbrev pub IsUnmet : Facts → Awaited → Type 0
IsUnmet f (awaited.Key key) = Unit {0}
IsUnmet f (awaited.Event event) = is_set event f ≡ false
IsUnmet f (awaited.Lock lock) = is_held lock f ≡ true
IsUnmet f (awaited.Join task) = ended task f ≡ None

abbrev pub AreUnmet : Facts → List Awaited → Type 0
AreUnmet f [] = Unit {0}
AreUnmet f (a ∷ more) = IsUnmet f a × AreUnmet f more

-- what each waiting leaf of these tasks is on
abbrev pub AllUnmet : Facts → List Waiting → Type 0
AllUnmet f [] = Unit {0}
AllUnmet f (w ∷ ws) = AreUnmet f (leaves w.tree) × AllUnmet f ws

-- No task waits for an event that is set, a lock that is free, or a task that has ended: whom one of these reaches is woken at once.
abbrev pub WaitsInNeed : Rig → Type 0
WaitsInNeed c = AllUnmet (facts_of c) c.waiting

-- with no event that is set
abbrev pub without_events : Facts → Facts
without_events f = record f { events = [] }

-- No task waits for a lock that is free, or a task that has ended.
abbrev pub WaitsForOthers : Rig → Type 0
WaitsForOthers c = AllUnmet (without_events (facts_of c)) c.waiting

-- ---- joins

-- the task that is joined lives
abbrev pub JoinsLive : List Task → Awaited → Type 0
JoinsLive tasks (awaited.Join task) = IsSome (task_at task tasks)
JoinsLive tasks _ = Unit {0}

abbrev pub AllJoinLive : List Task → List Awaited → Type 0
AllJoinLive tasks [] = Unit {0}
AllJoinLive tasks (a ∷ more) = JoinsLive tasks a × AllJoinLive tasks more

-- each waiting leaf of these tasks that joins a task joins one that lives
abbrev pub JoinTheLiving : List Task → List Waiting → Type 0
JoinTheLiving tasks [] = Unit {0}
JoinTheLiving tasks (w ∷ ws) = AllJoinLive tasks (leaves w.tree) × JoinTheLiving tasks ws
