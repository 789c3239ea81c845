-- A means of proof: a task that is driven by hand, for worked rows: what it wants, where it is given these answers in order, and what that
-- costs.
use Rattle.std.specs.Prelude.{ℕ, zero, suc, ◌+◌, List, [], ◌∷◌, Option, None, Some}
use Rattle.py_evaluate.specs.Attribute.Look.{View}
use Rattle.test_meaning.specs.Body.BodyTrees.{Function}
use Rattle.rig_model.specs.Task.Frame.{Task}
use Rattle.rig_model.specs.Task.Step.{next}
use Rattle.rig_model.specs.Task.Cost.{next_cost}
use Rattle.await_tree.specs.declared.cause.Given.{Given}
use Rattle.rig_model.specs.declared.task.task.Turned.{Turned}

pub record Driven : Type 0 where
  pub turned : List Turned
  pub cost : ℕ

abbrev pub stopped : Driven
stopped = record { turned = []; cost = 0 }

abbrev pub wanting : Turned → Driven → Driven
wanting t d = record d { turned = t ∷ d.turned }

abbrev pub costing : ℕ → Driven → Driven
costing n d = record d { cost = n + d.cost }

-- it goes on with nothing, or with the next answer; where there is none left it isn't driven further
abbrev pub answered : Option Turned → List Given → (Option Given → List Given → Driven) → Driven
answered None gs more = more None gs
answered (Some t) [] more = wanting t stopped
answered (Some t) (g ∷ gs) more = wanting t (more (Some g) gs)

-- for at most so many steps
abbrev pub drive : ℕ → List Function → View → Task → Option Given → List Given → Driven
drive zero functions view task g gs = stopped
drive (suc n) functions view task g gs =
    let m = next functions task g view in
    costing (next_cost task g) (answered m.turned gs (λ h hs. drive n functions view m.task h hs))
