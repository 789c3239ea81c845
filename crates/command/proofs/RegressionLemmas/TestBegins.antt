-- How a test begins and goes on with its turns.
use Rattle.std.proofs.Common.{◌≡◌, ℕ, List, Option, None, Some, Result, Ok, Err, refl, ap, subst, ◌∙◌}
use Rattle.port_io.specs.Means.{SinkMeans}
use Rattle.port_io.specs.declared.ports.NoMemory.{NoMemory}
use Rattle.py_value.specs.Answer.{Answer}
use Rattle.py_value.specs.declared.value.Value.{Value}
use Rattle.test_meaning.specs.Body.BodyTrees.{Case, Limit}
use Rattle.rig_model.specs.Run.Case.{limit_steps, test_begun, values_of, with_deadline, with_limit, with_test}
use Rattle.rig_model.specs.Run.Rig.{Rig, Setup}
use Rattle.rig_model.specs.Parts.Steps.{FitSteps, anywhere}
use Rattle.scheduler.specs.Turns.{Turning}
use Rattle.scheduler.specs.declared.turned.Turn.{Turn}
use Rattle.command.specs.Regression.Stages.{IsEmpty}

deadline_planned : (r : Answer ℕ) (c : Rig) → (with_deadline r c).planned ≡ c.planned
deadline_planned (Ok steps) c = refl
deadline_planned (Err kind) c = refl

limit_planned : (step_fs : ℕ) (o : Option Limit) (c : Rig) → (with_limit step_fs o c).planned ≡ c.planned
limit_planned step_fs None c = refl
limit_planned step_fs (Some limit) c = deadline_planned (limit_steps step_fs limit) c

test_planned : (setup : Setup) (case : Case) (r : Answer (List Value)) (c : Rig) → (with_test setup case r c).planned ≡ c.planned
test_planned setup case (Ok values) c = limit_planned setup.flat.step_fs case.time _
test_planned setup case (Err kind) c = refl

-- the begin of a test plans no start
pub begun_planned : (setup : Setup) (case : Case) (c d : Rig) → IsEmpty c → d ≡ test_begun setup case c → d.planned ≡ None
begun_planned setup case c d empty h =
    ap (λ (x : Rig). x.planned) h ∙ test_planned setup case (values_of case.arguments) c ∙ ap (λ (x : Rig). x.planned) empty

module _ {O : Type 0} (sink : SinkMeans O) where
  -- turns under the same setup
  pub turning_under : (setup' setup : Setup) (fuel : ℕ) (c : Rig) (out : O) (r : Result Turn NoMemory) (fuel' : ℕ) (e : Rig) (out' : O) → setup' ≡ setup
      → Turning sink (FitSteps anywhere setup') setup' fuel c out r fuel' e out' → Turning sink (FitSteps anywhere setup) setup fuel c out r fuel' e out'
  turning_under setup' setup fuel c out r fuel' e out' s p = subst (λ (x : Setup). Turning sink (FitSteps anywhere x) x fuel c out r fuel' e out') s p
