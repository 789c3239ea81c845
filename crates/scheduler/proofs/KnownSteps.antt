-- What is known of a configuration is known after what a task wants, where the design stays as wide as it is.
use Rattle.std.proofs.Common.{◌≡◌, ℕ, zero, suc, ◌-◌, List, [], Option, None, Some, ap, sym, subst, ◌∙◌, inl, inr}
use Rattle.gpi.specs.Terms.{widths_of}
use Rattle.py_value.specs.declared.trigger.TaskNo.{TaskNo}
use Rattle.await_tree.specs.declared.cause.Given.{Given}
use Rattle.rig_model.specs.Task.Frame.{Task}
use Rattle.rig_model.specs.Task.Step.{Next, next}
use Rattle.rig_model.specs.Task.Cost.{next_cost}
use Rattle.rig_model.specs.Task.Known.{KnowsGiven}
use Rattle.rig_model.specs.Task.Poll.{Polls, Polled}
use Rattle.rig_model.proofs.TaskLemmas.Bounds.{number_stays}
use Rattle.rig_model.specs.declared.task.task.Turned.{Turned}
use Rattle.rig_model.specs.declared.task.task.Turned.TheVariants.{Spent}
use Rattle.rig_model.specs.Run.Rig.{Rig, Setup, view_of}
use Rattle.rig_model.specs.Run.Effect.{goes_on, effect, effect_of}
use Rattle.rig_model.specs.Run.Step.{Stepped, costing, task_at, kept, rig_step}
use Rattle.rig_model.specs.Run.Known.{IsKnown, AreAsWide}
use Rattle.rig_model.proofs.RunLemmas.Known.{step_is_known}
use Rattle.scheduler.proofs.PollSteps.{task_at-stored, stored-stored, task_step_is}

-- the task that has the turn is given something that is known
pub goes_known : (setup : Setup) (task : TaskNo) (g : Given) (c : Rig) → IsKnown setup c → KnowsGiven (view_of setup c) g → IsKnown setup (goes_on task (Some g) c)
goes_known setup task g c k h = record {
  design = k.design;
  top = k.top;
  sound = k.sound;
  parts = record {
    tasks_known = k.parts.tasks_known;
    running_known = h;
    ready_known = k.parts.ready_known;
    waiting_known = k.parts.waiting_known;
    endings_known = k.parts.endings_known;
    staged_known = k.parts.staged_known;
    queues_known = k.parts.queues_known;
    queues_few = k.parts.queues_few;
  };
}

module _ (setup : Setup) (number : TaskNo) where
  known_steps : (n : ℕ) (b : Rig) (fuel : ℕ) (task : Task) (g : Option Given) (t : Turned) (fuel' : ℕ) (task' : Task)
      → task_at number b.tasks ≡ Some task → task.number ≡ number → IsKnown setup (goes_on number g b)
      → Polls setup.functions (view_of setup b) n fuel task g t fuel' task' → (t ≡ Spent → ⊥)
      → AreAsWide b (effect setup number t (kept number task' b)).rig → IsKnown setup (effect setup number t (kept number task' b)).rig
  unfolding Polls
  known_steps zero b fuel task g t fuel' task' h e k p n w = elim p [
    | inl x ↦
        let is : rig_step setup (goes_on number g b) ≡ costing (next_cost task g) (effect setup number t (kept number task' b))
        = task_step_is setup number g b task h ∙ ap (λ (y : Next). costing (next_cost task g) (effect_of setup number y.turned (kept number y.task b))) x.next_is in
        subst (λ (s : Stepped). IsKnown setup s.rig) is
        (step_is_known setup (goes_on number g b) k (ap (λ (s : Stepped). widths_of s.rig.sim.signals) is ∙ w))
    | inr r ↦ absurd (n r.spent)
  ]
  known_steps (suc m) b fuel task g t fuel' task' h e k p n w =
      let mid : Task = (next setup.functions task g (view_of setup b)).task in
      let mid_is : mid.number ≡ number = number_stays setup.functions task g (view_of setup b) ∙ e in
      let is : rig_step setup (goes_on number g b) ≡ record { rig = goes_on number None (kept number mid b); lines = []; cost = next_cost task g }
      = task_step_is setup number g b task h ∙ ap (λ (x : Option Turned). costing (next_cost task g) (effect_of setup number x (kept number mid b))) p.0.nothing in
      let known : IsKnown setup (goes_on number None (kept number mid b))
      = subst (λ (s : Stepped). IsKnown setup s.rig) is (step_is_known setup (goes_on number g b) k (ap (λ (s : Stepped). widths_of s.rig.sim.signals) is)) in
      let same : kept number task' (kept number mid b) ≡ kept number task' b = ap (λ (ts : List Task). record b { running = None; tasks = ts }) (stored-stored number b.tasks mid task' mid_is) in
      subst (λ (c : Rig). IsKnown setup (effect setup number t c).rig) same
      (known_steps m (kept number mid b) (fuel - next_cost task g) mid None t fuel' task' (task_at-stored number b.tasks task mid h mid_is) mid_is known p.1 n
      (subst (λ (c : Rig). AreAsWide b (effect setup number t c).rig) (sym same) w))

  -- after a poll what the task wants is done
  pub polled_known : (b : Rig) (fuel : ℕ) (task : Task) (g : Given) (t : Turned) (fuel' : ℕ) (task' : Task)
      → task_at number b.tasks ≡ Some task → task.number ≡ number → IsKnown setup b → KnowsGiven (view_of setup b) g
      → Polled setup.functions (view_of setup b) fuel task (Some g) t fuel' task' → (t ≡ Spent → ⊥)
      → AreAsWide b (effect setup number t (kept number task' b)).rig → IsKnown setup (effect setup number t (kept number task' b)).rig
  polled_known b fuel task g t fuel' task' h e k o p n w =
      known_steps p.count b fuel task (Some g) t fuel' task' h e (goes_known setup number g b k o) p.polls n w
