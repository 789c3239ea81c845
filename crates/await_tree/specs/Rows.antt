-- A means of proof: worked trees, with their numbers, by which the definition of trees is tried.
use Rattle.std.specs.Prelude.{◌≡◌, ℕ, false, true, [], ◌∷◌, Some, None}
use Rattle.gpi.specs.declared.types.Key.{Key}
use Rattle.gpi.specs.declared.types.Key.TheVariants as key
use Rattle.gpi.specs.declared.types.SigId.{SigId}
use Rattle.gpi.specs.declared.types.Region.TheVariants as region
use Rattle.py_syntax.specs.declared.fault_kind.FaultKind.TheVariants.{OverflowError, RuntimeError, SimTimeoutError}
use Rattle.py_value.specs.Answer.{plain_fault}
use Rattle.py_value.specs.declared.trigger.EventNo.{EventNo}
use Rattle.py_value.specs.declared.trigger.LockNo.{LockNo}
use Rattle.py_value.specs.declared.trigger.TaskNo.{TaskNo}
use Rattle.py_value.specs.declared.value.Value.TheVariants as value
use Rattle.py_value.specs.Trigger as trigger
use Rattle.await_tree.specs.declared.cause.Awaited.TheVariants as awaited
use Rattle.await_tree.specs.declared.cause.Cause.TheVariants as cause
use Rattle.await_tree.specs.declared.cause.Given.TheVariants as given
use Rattle.await_tree.specs.declared.cause.Step.{Step}
use Rattle.await_tree.specs.declared.cause.Step.TheVariants.{Still, Done}
use Rattle.await_tree.specs.Tree.{Tree, leaves}
use Rattle.await_tree.specs.Begin.{Facts, Begun, begin}
use Rattle.await_tree.specs.Fire.{fire, grant}
use Rattle.await_tree.specs.Check.{tree_of, check}
use Rattle.await_tree.specs.Steps.{step_of}

-- the n-th trigger of task 0
abbrev pub trig : ℕ → trigger.Form → trigger.Trig
trig n form = trigger.Made (record { task = record { 0 = 0 }; number = n }) form

-- event, lock, task and signal number 0
abbrev pub an_event : EventNo
an_event = record { 0 = 0 }

abbrev pub a_lock : LockNo
a_lock = record { 0 = 0 }

abbrev pub a_task : TaskNo
a_task = record { 0 = 0 }

abbrev pub a_signal : SigId
a_signal = record { 0 = 0 }

abbrev pub waited : trigger.Trig
waited = trig 0 (trigger.Event an_event)

abbrev pub acquired : trigger.Trig
acquired = trig 1 (trigger.Lock a_lock)

abbrev pub joined : trigger.Trig
joined = trig 2 (trigger.Join a_task)

-- two timers of five steps, and one of six
abbrev pub timer : trigger.Trig
timer = trig 3 (trigger.Time 5)

abbrev pub same_timer : trigger.Trig
same_timer = trig 4 (trigger.Time 5)

abbrev pub long_timer : trigger.Trig
long_timer = trig 5 (trigger.Time 6)

abbrev pub two : trigger.Trig → trigger.Trig → trigger.Trigs
two s t = trigger.Then s (trigger.Then t trigger.NoTrig)

abbrev pub first : trigger.Trig → trigger.Trig → trigger.Trig
first s t = trig 8 (trigger.First (two s t))

abbrev pub combine : trigger.Trig → trigger.Trig → trigger.Trig
combine s t = trig 9 (trigger.Combine (two s t))

abbrev pub limit : trigger.Trig → ℕ → trigger.Trig
limit t steps = trig 10 (trigger.Limit (trigger.Then t trigger.NoTrig) steps)

abbrev pub cycles : ℕ → trigger.Trig
cycles count = trig 11 (trigger.Cycles a_signal count true)

-- the event is unset, the lock is free, and the task lives
abbrev pub nothing : Facts
nothing = record { events = false ∷ []; locks = false ∷ []; tasks = None ∷ [] }

-- the event is set
abbrev pub event_set : Facts
event_set = record nothing { events = true ∷ [] }

-- the task has ended with a fault
abbrev pub task_failed : Facts
task_failed = record nothing { tasks = Some true ∷ [] }

-- awaited at time 0
abbrev pub begun_at : trigger.Trig → Facts → Begun
begun_at t facts = begin (tree_of t 0) facts

-- the tree of a trigger that begins at time 0, where nothing is done yet
abbrev pub waiting : trigger.Trig → Tree
waiting t = (begun_at t nothing).tree

abbrev pub fired : Key → Tree → Tree
fired k t = fire (cause.Key k) t

-- done, with this trigger
abbrev pub done : trigger.Trig → Step
done t = Done (given.Value (value.Trigger t))

abbrev pub timed_out : Step
timed_out = Done (given.Fault (plain_fault SimTimeoutError))

pub record TreesWork : Type 0 where
  -- A First begins no part after one that is done: it takes no lock to the right of that.
  pub stops : step_of (begun_at (first waited acquired) event_set).tree ≡ done waited
  pub stops_free : (begun_at (first waited acquired) event_set).facts ≡ event_set
  -- A lock to the left of a part that would be done is taken.
  pub takes : step_of (begun_at (first acquired waited) event_set).tree ≡ done acquired
  pub takes_held : (begun_at (first acquired waited) event_set).facts.locks ≡ true ∷ []
  -- A part that is done at once ends a First though a part to its left waits.
  pub passes : step_of (begun_at (first timer waited) event_set).tree ≡ done waited
  -- A Combine begins all its parts, and gives itself when all are done.
  pub all : step_of (begun_at (combine waited acquired) event_set).tree ≡ done (combine waited acquired)
  pub all_held : (begun_at (combine waited acquired) nothing).facts.locks ≡ true ∷ []
  pub all_left : leaves (begun_at (combine waited acquired) nothing).tree ≡ awaited.Event an_event ∷ []
  -- A join of a task that failed before gives that fault, in a Combine at once.
  pub failed_before : step_of (begun_at (combine timer joined) task_failed).tree ≡ Done (given.Joined a_task)
  -- A Combine begins its parts behind such a fault too.
  pub failed_takes : (begun_at (combine joined acquired) task_failed).facts.locks ≡ true ∷ []
  -- Of two parts that one key completes the leftmost counts.
  pub leftmost : step_of (fired (key.At 5) (waiting (first timer same_timer))) ≡ done timer
  pub leftmost_part : step_of (fired (key.At 5) (waiting (first (combine long_timer timer) same_timer))) ≡ done same_timer
  -- Of two keys of one change the one that is served first counts: the edge, before the change.
  pub edge_first : step_of (fired (key.Rise a_signal) (waiting (first (trig 6 (trigger.Change a_signal)) (trig 7 (trigger.Rise a_signal)))))
      ≡ done (trig 7 (trigger.Rise a_signal))
  pub change_alone : step_of (fired (key.Change a_signal) (waiting (first (trig 6 (trigger.Change a_signal)) (trig 7 (trigger.Rise a_signal)))))
      ≡ done (trig 6 (trigger.Change a_signal))
  -- One key reaches all leaves on it at once.
  pub both : step_of (fired (key.At 5) (waiting (combine timer same_timer))) ≡ done (combine timer same_timer)
  pub one_left : leaves (fired (key.At 5) (waiting (combine timer long_timer))) ≡ awaited.Key (key.At 6) ∷ []
  pub one_still : step_of (fired (key.At 5) (waiting (combine timer long_timer))) ≡ Still
  -- What nobody waits for changes nothing.
  pub unawaited : fired (key.At 7) (waiting (combine timer long_timer)) ≡ waiting (combine timer long_timer)
  -- An event that is awaited twice in one tree completes both.
  pub event_twice : step_of (fire (cause.Event an_event) (waiting (combine waited (trig 7 (trigger.Event an_event)))))
      ≡ done (combine waited (trig 7 (trigger.Event an_event)))
  -- A fault of a part is the Combine's at once, but the end of a task without one isn't.
  pub faulted : step_of (fire (cause.Ended a_task true) (waiting (combine timer joined))) ≡ Done (given.Joined a_task)
  pub returned : leaves (fire (cause.Ended a_task false) (waiting (combine timer joined))) ≡ awaited.Key (key.At 5) ∷ []
  pub first_returned : step_of (fire (cause.Ended a_task false) (waiting (first timer joined))) ≡ Done (given.Joined a_task)
  -- A limit's time stands behind the leaves of what it limits, and an inner limit's before an outer one's.
  pub limits : leaves (waiting (limit (limit waited 3) 5)) ≡ awaited.Event an_event ∷ awaited.Key (key.At 3) ∷ awaited.Key (key.At 5) ∷ []
  pub late : step_of (fired (key.At 3) (waiting (limit (limit waited 3) 5))) ≡ timed_out
  pub outer_late : step_of (fired (key.At 3) (waiting (limit (limit waited 5) 3))) ≡ timed_out
  pub limited_in_time : step_of (fire (cause.Event an_event) (waiting (limit (limit waited 3) 5))) ≡ done waited
  -- What is done by the very key of the limit's time isn't given up.
  pub in_time : step_of (fired (key.At 5) (waiting (limit timer 5))) ≡ done timer
  -- A limit that is over ends a Combine around it, with its fault.
  pub late_part : step_of (fired (key.At 3) (waiting (combine (limit waited 3) timer))) ≡ timed_out
  -- A lock goes to the leftmost leaf on it, and to no other.
  pub granted : leaves (grant a_lock (tree_of (combine acquired (trig 7 (trigger.Lock a_lock))) 0)) ≡ awaited.Lock a_lock ∷ []
  pub granted_first : step_of (grant a_lock (tree_of (first timer acquired) 0)) ≡ done acquired
  pub granted_all : step_of (grant a_lock (grant a_lock (tree_of (combine acquired (trig 7 (trigger.Lock a_lock))) 0)))
      ≡ done (combine acquired (trig 7 (trigger.Lock a_lock)))
  -- A lock that a part of a First took stays taken when another part ends that First.
  pub kept_lock : (begun_at (first (combine acquired timer) waited) nothing).facts.locks ≡ true ∷ []
  pub kept_lock_end : step_of (fire (cause.Event an_event) (waiting (first (combine acquired timer) waited))) ≡ done waited
  -- ClockCycles is done at the last of its edges, and waits for the edge till then.
  pub one_edge : step_of (fired (key.Rise a_signal) (waiting (cycles 1))) ≡ done (cycles 1)
  pub edge_left : leaves (fired (key.Rise a_signal) (waiting (cycles 2))) ≡ awaited.Key (key.Rise a_signal) ∷ []
  pub edge_still : step_of (fired (key.Rise a_signal) (waiting (cycles 2))) ≡ Still
  pub two_edges : step_of (fired (key.Rise a_signal) (fired (key.Rise a_signal) (waiting (cycles 2)))) ≡ done (cycles 2)
  pub other_edge : fired (key.Fall a_signal) (waiting (cycles 2)) ≡ waiting (cycles 2)
  -- The first bad leaf from the left counts, and a limit's time is checked behind the leaves of what it limits.
  pub last_time : check (trig 3 (trigger.Time 4611686018427387904)) 0 region.Begin ≡ None
  pub past_time : check (trig 3 (trigger.Time 4611686018427387904)) 1 region.Begin ≡ Some (plain_fault OverflowError)
  pub time_first : check (first (trig 3 (trigger.Time 4611686018427387904)) (trig 6 trigger.ReadOnly)) 1 region.End ≡ Some (plain_fault OverflowError)
  pub phase_first : check (first timer (trig 6 trigger.ReadOnly)) 1 region.End ≡ Some (plain_fault RuntimeError)
  pub limit_last : check (limit (trig 6 trigger.ReadWrite) 4611686018427387904) 1 region.End ≡ Some (plain_fault RuntimeError)
  pub limit_past : check (limit (trig 6 trigger.ReadWrite) 4611686018427387904) 1 region.Settle ≡ Some (plain_fault OverflowError)
  pub next_step : check (trig 6 trigger.NextStep) 1 region.End ≡ None
