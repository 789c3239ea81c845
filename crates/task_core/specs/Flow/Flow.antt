-- A means of proof: the task that a flow stands for, and what a step of it does, for the proofs of flows.
use Rattle.std.specs.Prelude.{◌≡◌, ℕ, ◌-◌, ◌⊎◌, Bool, true, false, List, [], ◌∷◌, ◌++◌, map, Option, None, Some}
use Rattle.py_evaluate.specs.Attribute.Look.{View}
use Rattle.test_meaning.specs.Body.BodyTrees.{Function}
use Rattle.rig_model.specs.Task.Cost.{next_cost}
use Rattle.rig_model.specs.Task.Frame.{Frame, Task}
use Rattle.rig_model.specs.Task.Moves.{Wish}
use Rattle.rig_model.specs.Task.Poll.{Wants, RunsOut, GoesBy}
use Rattle.rig_model.specs.Task.Step.{next, settled}
use Rattle.await_tree.specs.declared.cause.Given.{Given}
use Rattle.rig_model.specs.declared.task.task.Turned.{Turned}
use Rattle.task_core.specs.Code.Reading.{Reading}
use Rattle.task_core.specs.Code.Functions.{function_of}
use Rattle.task_core.specs.OpenCall.Call.{frame_in}
use Rattle.task_core.specs.declared.open_call.call.OpenCall.{OpenCall}
use Rattle.task_core.specs.declared.flow.flow.CodeFlow.{CodeFlow}

-- calls, the last one first
abbrev pub frames_in : {C : Type 0} → (C → Reading) → List (OpenCall C) → List Frame
frames_in r [] = []
frames_in r (c ∷ cs) = frames_in r cs ++ frame_in r c ∷ []

-- a task that has ended has no open call
abbrev pub open_frames : {C : Type 0} → (C → Reading) → Bool → OpenCall C → List (OpenCall C) → List Frame
open_frames r true call around = []
open_frames r false call around = frame_in r call ∷ frames_in r around

abbrev pub task_in : {C : Type 0} → (C → Reading) → CodeFlow C → Task
task_in r flow = record { number = flow.number; triggers = flow.triggers; frames = open_frames r flow.ended flow.call flow.around.items }

abbrev pub functions_in : {C : Type 0} → (C → Reading) → CodeFlow C → List Function
functions_in r flow = map (function_of r) flow.functions.now

-- it has the same number and the same file
pub record IsSame {C : Type 0} (before after : CodeFlow C) : Type 0 where
  pub number : after.number ≡ before.number
  pub file : after.functions ≡ before.functions

-- after the step of the innermost call, which wants this, the calls are those of the definition, and so is what the task wants
abbrev pub Settles : {C : Type 0} → (C → Reading) → Wish → CodeFlow C → CodeFlow C → Option Turned → Type 0
Settles r wish before after turned =
    settled (functions_in r before) wish (frame_in r before.call) (frames_in r before.around.items) (task_in r before) ≡ record { task = task_in r after; turned = turned }

-- a step wanted nothing, or it wanted this or didn't fit the fuel
abbrev pub StepsTo : List Function → View → ℕ → Task → Option Given → Option Turned → ℕ → Task → Type 0
StepsTo functions view fuel task given None fuel' task' =
    GoesBy functions view fuel task given × (fuel' ≡ fuel - next_cost task given) × (task' ≡ (next functions task given view).task)
StepsTo functions view fuel task given (Some turned) fuel' task' =
    Wants functions view fuel task given turned fuel' task' ⊎ RunsOut fuel task given turned fuel' task'
