-- A means of proof: a poll, for the proofs of tasks: the steps of a task up to the first that wants something, or that doesn't fit the
-- fuel.
use Rattle.std.specs.Prelude.{◌≡◌, ℕ, zero, suc, ◌-◌, ◌<◌, ◌≤◌, ◌⊎◌, List, Option, None, Some}
use Rattle.py_evaluate.specs.Attribute.Look.{View}
use Rattle.test_meaning.specs.Body.BodyTrees.{Function}
use Rattle.rig_model.specs.Task.Frame.{Task}
use Rattle.rig_model.specs.Task.Step.{next}
use Rattle.rig_model.specs.Task.Cost.{next_cost}
use Rattle.await_tree.specs.declared.cause.Given.{Given}
use Rattle.rig_model.specs.declared.task.task.Turned.{Turned}
use Rattle.rig_model.specs.declared.task.task.Turned.TheVariants.{Spent}

-- The step wants this, and fits the fuel.
pub record Wants (functions : List Function) (view : View) (fuel : ℕ) (task : Task) (given : Option Given) (turned : Turned) (fuel' : ℕ) (task' : Task) : Type 0 where
  pub fits : next_cost task given ≤ fuel
  pub fuel_is : fuel' ≡ fuel - next_cost task given
  pub next_is : next functions task given view ≡ record { task = task'; turned = Some turned }

-- The step doesn't fit the fuel: the task is as before, and the answer is Spent.
pub record RunsOut (fuel : ℕ) (task : Task) (given : Option Given) (turned : Turned) (fuel' : ℕ) (task' : Task) : Type 0 where
  pub short : fuel < next_cost task given
  pub spent : turned ≡ Spent
  pub fuel_is : fuel' ≡ fuel
  pub task_is : task' ≡ task

-- The step wants nothing, and fits the fuel.
pub record GoesBy (functions : List Function) (view : View) (fuel : ℕ) (task : Task) (given : Option Given) : Type 0 where
  pub fits : next_cost task given ≤ fuel
  pub nothing : (next functions task given view).turned ≡ None

-- So many steps that want nothing, and then one that wants this or doesn't fit.
unfoldable pub Polls : List Function → View → ℕ → ℕ → Task → Option Given → Turned → ℕ → Task → Type 0
Polls functions view zero fuel task given turned fuel' task' =
    Wants functions view fuel task given turned fuel' task' ⊎ RunsOut fuel task given turned fuel' task'
Polls functions view (suc n) fuel task given turned fuel' task' =
    GoesBy functions view fuel task given
    × Polls functions view n (fuel - next_cost task given) (next functions task given view).task None turned fuel' task'

-- A task of a file with these functions goes on until it wants this: the rest of the fuel, and of the task.
pub record Polled (functions : List Function) (view : View) (fuel : ℕ) (task : Task) (given : Option Given) (turned : Turned) (fuel' : ℕ) (task' : Task) : Type 0 where
  pub count : ℕ
  pub polls : Polls functions view count fuel task given turned fuel' task'
