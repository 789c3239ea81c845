-- One step of a configuration, within a test or between two tests.
use Rattle.std.specs.Prelude.{ℕ, List, [], ◌∷◌, ◌++◌, Option, None, Some, if◌then◌else◌}
use Rattle.gpi.specs.Events.{Event}
use Rattle.py_value.specs.declared.trigger.TaskNo.{TaskNo}
use Rattle.await_tree.specs.EndedTasks.Endings.{told_given}
use Rattle.rig_model.specs.Task.Frame.{Task}
use Rattle.rig_model.specs.Task.Step.{next}
use Rattle.rig_model.specs.Task.Cost.{next_cost}
use Rattle.await_tree.specs.declared.wait_list.ready.Entry.{Entry}
use Rattle.rig_model.specs.Run.Rig.{Rig, Setup, Running, After, event_of, view_of, told_lines}
use Rattle.rig_model.specs.Run.Serve.{serve}
use Rattle.rig_model.specs.Run.Effect.{is_numbered, effect_of}
use Rattle.rig_model.specs.declared.run.outcome.Outcome.TheVariants as outcome

-- what a step leads to, the lines that it writes and what it costs
pub record Stepped : Type 0 where
  pub rig : Rig
  pub lines : List (List ℕ)
  pub cost : ℕ

abbrev pub costing : ℕ → After → Stepped
costing cost a = record { rig = a.rig; lines = a.lines; cost = cost }

-- ---- a task

-- the live task of that number
abbrev pub task_at : TaskNo → List Task → Option Task
task_at number [] = None
task_at number (t ∷ ts) = if is_numbered number t then Some t else task_at number ts

-- with this in the place of the task of that number
abbrev pub stored : TaskNo → Task → List Task → List Task
stored number task [] = []
stored number task (t ∷ ts) = if is_numbered number t then task ∷ ts else t ∷ stored number task ts

-- the turn is taken from the task in whose turn we are, and what is left of the task is kept
abbrev pub kept : TaskNo → Task → Rig → Rig
kept number task c = record c { running = None; tasks = stored number task c.tasks }

-- the next step of this task, and its effect; a task that isn't live loses its turn
abbrev pub stepped : Setup → Running → Option Task → Rig → Stepped
stepped setup r None c = record { rig = record c { running = None }; lines = []; cost = 0 }
stepped setup r (Some task) c =
    let n = next setup.functions task r.given (view_of setup c) in
    costing (next_cost task r.given) (effect_of setup r.task n.turned (kept r.task n.task c))

-- a task does its next step
abbrev pub task_step : Setup → Running → Rig → Stepped
task_step setup r c = stepped setup r (task_at r.task c.tasks) c

-- ---- an event

-- its change is told, and what it fired is served
abbrev pub evented : Setup → Event → Rig → Stepped
evented setup e c =
    let a = serve setup e.fired (record c { sim = e.state }) in
    record { rig = a.rig; lines = told_lines setup c.sim.time e.told ++ a.lines; cost = 1 }

-- an event is done, or nothing is left to happen
abbrev pub after_event : Setup → Option Event → Rig → Stepped
after_event setup None c = record { rig = record c { outcome = Some outcome.Stalled }; lines = []; cost = 0 }
after_event setup (Some e) c = evented setup e c

-- the simulator does an event
abbrev pub event_step : Setup → Rig → Stepped
event_step setup c = after_event setup (event_of setup c) c

-- ---- either

-- the task of an entry, with what it is told
abbrev pub taken : Rig → Entry → Running
taken c e = record { task = e.task; given = Some (told_given e.given c.endings) }

-- the first that is ready runs
abbrev pub resumed : Entry → List Entry → Rig → Rig
resumed e es c = record c { running = Some (taken c e); ready = es }

-- a task goes on, or the first that is ready does, or the simulator does an event
abbrev pub chosen : Setup → Option Running → List Entry → Rig → Stepped
chosen setup (Some r) ready c = task_step setup r c
chosen setup None (e ∷ es) c = task_step setup (taken c e) (resumed e es c)
chosen setup None [] c = event_step setup c

-- The step of a test that runs and has no outcome, or of the wait for the next test.
abbrev pub rig_step : Setup → Rig → Stepped
rig_step setup c = chosen setup c.running c.ready c
