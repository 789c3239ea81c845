-- A means of proof: configurations and runs that are the same but for the rests that are still to do, for the law of the remainder.
use Rattle.std.specs.Prelude.{◌≡◌, List, [], ◌∷◌, Option, None, Some}
use Rattle.test_meaning.specs.Body.BodyTrees.{Block}
use Rattle.await_tree.specs.declared.cause.Given.{Given}
use Rattle.rig_model.specs.Task.Frame.{Task}
use Rattle.await_tree.specs.declared.wait_list.ready.Entry.{Entry}
use Rattle.rig_model.specs.Run.Rig.{Rig, Setup, Running}
use Rattle.rig_model.specs.Run.Step.{task_at, taken}
use Rattle.rig_model.specs.Run.Run.{Place, Begins, Runs, Waits, Over, Run}
use Rattle.rig_model.specs.declared.run.outcome.Outcome.{Outcome}
use Rattle.run_laws.specs.Remainder.Rests.{FunctionsAlike, TasksAlike, BeginsIn}

-- the files have the same functions, but for how some end
pub record SetupAlike (one other : Block) (setup setup' : Setup) : Type 0 where
  pub same : setup' ≡ record setup { functions = setup'.functions }
  pub functions : FunctionsAlike one other setup.functions setup'.functions

-- the configurations are the same, but for the rests that live tasks have still to do
pub record RigAlike (one other : Block) (c d : Rig) : Type 0 where
  pub same : d ≡ record c { tasks = d.tasks }
  pub tasks : TasksAlike one other c.tasks d.tasks

-- the runs stand at the same place, with the same lines, verdicts and cost, in such configurations
pub record RunAlike (one other : Block) (c d : Run) : Type 0 where
  pub same : d ≡ record c { rig = d.rig }
  pub rig : RigAlike one other c.rig d.rig

-- ---- the begin of a rest

-- the task whose step is next, if it is a task's
abbrev pub turn_of : Option Running → List Entry → Rig → Option Running
turn_of (Some r) ready c = Some r
turn_of None (e ∷ es) c = Some (taken c e)
turn_of None [] c = None

-- a task that is given this next begins the rest; a task that isn't live begins none
abbrev pub BeginsBy : Block → Option Given → Option Task → Type 0
BeginsBy rest g None = ⊥
BeginsBy rest g (Some t) = BeginsIn rest g t.frames

-- the task in this turn begins the rest
abbrev pub BeginsWith : Block → Option Running → Rig → Type 0
BeginsWith rest None c = ⊥
BeginsWith rest (Some r) c = BeginsBy rest r.given (task_at r.task c.tasks)

-- the next step is of a task whose innermost call goes on, and has just this rest to do
abbrev pub RigBegins : Block → Rig → Type 0
RigBegins rest c = BeginsWith rest (turn_of c.running c.ready c) c

-- the same within a test: one that has its outcome ends
abbrev pub InBegins : Block → Option Outcome → Rig → Type 0
InBegins rest (Some outcome) c = ⊥
InBegins rest None c = RigBegins rest c

-- the same at each place
abbrev pub AtBegins : Block → Place → Rig → Type 0
AtBegins rest (Begins cases) c = ⊥
AtBegins rest (Runs case cases) c = InBegins rest c.outcome c
AtBegins rest (Waits cases) c = RigBegins rest c
AtBegins rest Over c = ⊥

-- the next step of the run begins such a rest
abbrev pub BeginsRest : Block → Run → Type 0
BeginsRest rest c = AtBegins rest c.place c.rig
