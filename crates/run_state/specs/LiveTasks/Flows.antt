-- A means of proof: flows by the numbers of their tasks, and what a poll of one leaves, for the proofs of the runner.
use Rattle.std.specs.Prelude.{◌≡◌, ℕ, List, Option, Some, None, slice_index_or}
use Rattle.py_evaluate.specs.Attribute.Look.{View}
use Rattle.py_value.specs.declared.trigger.TaskNo.{TaskNo}
use Rattle.test_meaning.specs.Body.BodyTrees.{Function}
use Rattle.rig_model.specs.Task.Frame.{Task}
use Rattle.rig_model.specs.Task.Known.{KnowsTurned, KnowsWhole}
use Rattle.rig_model.specs.Task.Poll.{Polled}
use Rattle.rig_model.specs.declared.task.task.Turned.{Turned}
use Rattle.await_tree.specs.declared.cause.Given.{Given}

-- what a flow means, and the functions of its file
pub record Meanings (F : Type 0) : Type 0 where
  pub functions : F → List Function
  pub task : F → Task

abbrev pub meanings : {F : Type 0} → (F → List Function) → (F → Task) → Meanings F
meanings functions task = record { functions = functions; task = task }

-- the flow of the task of that number, while that task lives
abbrev pub flow_at : {F : Type 0} → TaskNo → List (Option F) → Option F
flow_at number flows = slice_index_or flows number.0 None

-- what is left of a flow has its file, and its task the number
pub record IsLeftOf {F : Type 0} (m : Meanings F) (flow rest : F) : Type 0 where
  pub functions : m.functions rest ≡ m.functions flow
  pub number : (m.task rest).number ≡ (m.task flow).number

-- A poll of a flow left this of it, and the view knows what it wants and holds.
pub record PollsTo {F : Type 0} (m : Meanings F) (view : View) (fuel : ℕ) (flow : F) (given : Given) (turned : Turned) (fuel' : ℕ) (rest : F) : Type 0 where
  pub left : IsLeftOf m flow rest
  pub polled : Polled (m.functions flow) view fuel (m.task flow) (Some given) turned fuel' (m.task rest)
  pub wanted : KnowsTurned (m.functions flow) view turned
  pub known : KnowsWhole (m.functions flow) view (m.task rest)

-- the view knows the task of the flow
abbrev pub IsKnown : {F : Type 0} → Meanings F → View → F → Type 0
IsKnown m view flow = KnowsWhole (m.functions flow) view (m.task flow)
