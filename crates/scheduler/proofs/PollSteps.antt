-- The steps of a task that is polled, as steps of the whole.
use Rattle.std.proofs.Common.{◌≡◌, ℕ, zero, suc, ◌-◌, ◌⊎◌, Bool, true, false, List, [], ◌∷◌, Option, None, Some, refl, ap, sym, subst, rules, ◌∙◌, inl, inr}
use Rattle.py_value.specs.declared.trigger.TaskNo.{TaskNo}
use Rattle.await_tree.specs.declared.cause.Given.{Given}
use Rattle.rig_model.specs.Task.Frame.{Task}
use Rattle.rig_model.specs.Task.Step.{Next, next}
use Rattle.rig_model.specs.Task.Cost.{next_cost}
use Rattle.rig_model.specs.Task.Poll.{Wants, RunsOut, GoesBy, Polls, Polled}
use Rattle.rig_model.proofs.TaskLemmas.Bounds.{number_stays}
use Rattle.rig_model.proofs.TaskLemmas.KeptLaws.{never_spent}
use Rattle.rig_model.proofs.TaskLemmas.Polls.{poll_number}
use Rattle.rig_model.specs.declared.task.task.Turned.{Turned}
use Rattle.rig_model.specs.declared.task.task.Turned.TheVariants.{Spent}
use Rattle.rig_model.specs.Run.Rig.{Rig, Setup, view_of}
use Rattle.rig_model.specs.Run.Effect.{goes_on, is_numbered, effect, effect_of}
use Rattle.rig_model.specs.Run.Step.{Stepped, costing, task_at, stored, kept, rig_step}
use Rattle.rig_model.specs.Parts.Steps.{FitSteps, in_turn, Moves, Short}
use Rattle.scheduler.proofs.StepLaws.{moves_then, moves_short, moves_one}

-- the task of a number, once it is stored
pub task_at-stored : (number : TaskNo) (tasks : List Task) (task new : Task) → task_at number tasks ≡ Some task → new.number ≡ number → task_at number (stored number new tasks) ≡ Some new
task_at-stored number [] task new h e = cc
task_at-stored number (t ∷ ts) task new h e = decided (is_numbered number t) refl (λ k. task_at-stored number ts task new k e)
  where
    decided : (b : Bool) → is_numbered number t ≡ b → (task_at number ts ≡ Some task → task_at number (stored number new ts) ≡ Some new)
        → task_at number (stored number new (t ∷ ts)) ≡ Some new
    decided true q more =
        let own : is_numbered number new ≡ true = rw e (search rules) in
        rw q (rw own refl)
    decided false q more =
        let h' : task_at number ts ≡ Some task = rw q at h in
        rw q (rw q (more h'))

-- of two tasks of one number that are stored the later one stays
pub stored-stored : (number : TaskNo) (tasks : List Task) (a b : Task) → a.number ≡ number → stored number b (stored number a tasks) ≡ stored number b tasks
stored-stored number [] a b e = refl
stored-stored number (t ∷ ts) a b e = decided (is_numbered number t) refl (stored-stored number ts a b e)
  where
    decided : (r : Bool) → is_numbered number t ≡ r → stored number b (stored number a ts) ≡ stored number b ts → stored number b (stored number a (t ∷ ts)) ≡ stored number b (t ∷ ts)
    decided true q more =
        let own : is_numbered number a ≡ true = rw e (search rules) in
        rw q (rw own refl)
    decided false q more = rw q (rw q (ap (λ (xs : List Task). t ∷ xs) more))

-- a task that is stored as it was changes nothing
stored-same : (number : TaskNo) (tasks : List Task) (task : Task) → task_at number tasks ≡ Some task → stored number task tasks ≡ tasks
stored-same number [] task h = refl
stored-same number (t ∷ ts) task h = decided (is_numbered number t) refl (λ k. stored-same number ts task k)
  where
    decided : (b : Bool) → is_numbered number t ≡ b → (task_at number ts ≡ Some task → stored number task ts ≡ ts) → stored number task (t ∷ ts) ≡ t ∷ ts
    decided true q more =
        let found : Some t ≡ Some task = rw q at h in
        let same : t ≡ task = cc in
        rw q (ap (λ (x : Task). x ∷ ts) (sym same))
    decided false q more =
        let h' : task_at number ts ≡ Some task = rw q at h in
        rw q (ap (λ (xs : List Task). t ∷ xs) (more h'))

-- A poll is steps up to the effect of what the task wants, or up to where the next step doesn't fit.
abbrev pub PollSteps : Setup → TaskNo → ℕ → Option Given → Rig → Turned → ℕ → Task → Type 0
PollSteps setup number fuel g b t fuel' task' =
    ((t ≡ Spent → ⊥) × Moves (FitSteps in_turn setup) fuel (goes_on number g b) (effect setup number t (kept number task' b)).lines fuel' (effect setup number t (kept number task' b)).rig)
    ⊎ ((t ≡ Spent) × Short (FitSteps in_turn setup) setup fuel (goes_on number g b) [] fuel' (kept number task' b))

module _ (setup : Setup) (number : TaskNo) where
  -- the step of the task in whose turn we are
  pub task_step_is : (g : Option Given) (b : Rig) (task : Task) → task_at number b.tasks ≡ Some task
      → rig_step setup (goes_on number g b) ≡ costing (next_cost task g) (effect_of setup number (next setup.functions task g (view_of setup b)).turned (kept number (next setup.functions task g (view_of setup b)).task b))
  task_step_is g b task h = rw h refl

  wants_moves : (b : Rig) (fuel : ℕ) (task : Task) (g : Option Given) (t : Turned) (fuel' : ℕ) (task' : Task)
      → task_at number b.tasks ≡ Some task → b.outcome ≡ None → Wants setup.functions (view_of setup b) fuel task g t fuel' task'
      → Moves (FitSteps in_turn setup) fuel (goes_on number g b) (effect setup number t (kept number task' b)).lines fuel' (effect setup number t (kept number task' b)).rig
  wants_moves b fuel task g t fuel' task' h o w =
      let is : rig_step setup (goes_on number g b) ≡ costing (next_cost task g) (effect setup number t (kept number task' b))
      = task_step_is g b task h ∙ ap (λ (x : Next). costing (next_cost task g) (effect_of setup number x.turned (kept number x.task b))) w.next_is in
      subst (λ (f : ℕ). Moves (FitSteps in_turn setup) fuel (goes_on number g b) (effect setup number t (kept number task' b)).lines f (effect setup number t (kept number task' b)).rig) (sym w.fuel_is)
      (moves_one in_turn setup fuel (goes_on number g b) (costing (next_cost task g) (effect setup number t (kept number task' b))) refl o is w.fits)

  goes_by_moves : (b : Rig) (fuel : ℕ) (task : Task) (g : Option Given)
      → task_at number b.tasks ≡ Some task → b.outcome ≡ None → GoesBy setup.functions (view_of setup b) fuel task g
      → Moves (FitSteps in_turn setup) fuel (goes_on number g b) [] (fuel - next_cost task g) (goes_on number None (kept number (next setup.functions task g (view_of setup b)).task b))
  goes_by_moves b fuel task g h o p =
      let mid : Task = (next setup.functions task g (view_of setup b)).task in
      let is : rig_step setup (goes_on number g b) ≡ record { rig = goes_on number None (kept number mid b); lines = []; cost = next_cost task g }
      = task_step_is g b task h ∙ ap (λ (x : Option Turned). costing (next_cost task g) (effect_of setup number x (kept number mid b))) p.nothing in
      moves_one in_turn setup fuel (goes_on number g b) (record { rig = goes_on number None (kept number mid b); lines = []; cost = next_cost task g }) refl o is p.fits

  runs_short : (b : Rig) (fuel : ℕ) (task : Task) (g : Option Given) (t : Turned) (fuel' : ℕ) (task' : Task)
      → task_at number b.tasks ≡ Some task → task.number ≡ number → b.outcome ≡ None → RunsOut fuel task g t fuel' task'
      → Short (FitSteps in_turn setup) setup fuel (goes_on number g b) [] fuel' (kept number task' b)
  unfolding FitSteps
  runs_short b fuel task g t fuel' task' h e o r =
      let is : (rig_step setup (goes_on number g b)).cost ≡ next_cost task g = ap (λ (s : Stepped). s.cost) (task_step_is g b task h) in
      record {
        count = zero;
        last = goes_on number g b;
        steps = (refl, r.fuel_is, refl);
        no_fit = record {
          runs = o;
          short = rw (is, r.fuel_is) r.short;
          rest = record {
            sim = refl;
            endings = refl;
            waiting = refl;
            objects = refl;
            queues = refl;
            staged = refl;
            fired = refl;
            deadline = refl;
            planned = refl;
            random = refl;
            counts = refl;
          };
          tasks = record { tasks = sym (ap (λ (x : Task). stored number x b.tasks) r.task_is ∙ stored-same number b.tasks task h); ready = refl };
        };
      }

  poll_steps : (n : ℕ) (b : Rig) (fuel : ℕ) (task : Task) (g : Option Given) (t : Turned) (fuel' : ℕ) (task' : Task)
      → task_at number b.tasks ≡ Some task → task.number ≡ number → b.outcome ≡ None → Polls setup.functions (view_of setup b) n fuel task g t fuel' task'
      → PollSteps setup number fuel g b t fuel' task'
  unfolding Polls
  poll_steps zero b fuel task g t fuel' task' h e o p = elim p [
    | inl w ↦ inl (
      (λ s. never_spent setup.functions task g (view_of setup b) (ap (λ (x : Next). x.turned) w.next_is ∙ ap Some s)),
      wants_moves b fuel task g t fuel' task' h o w,
    )
    | inr r ↦ inr (r.spent, runs_short b fuel task g t fuel' task' h e o r)
  ]
  poll_steps (suc n) b fuel task g t fuel' task' h e o p =
      let mid : Task = (next setup.functions task g (view_of setup b)).task in
      let mid_is : mid.number ≡ number = number_stays setup.functions task g (view_of setup b) ∙ e in
      let first : Moves (FitSteps in_turn setup) fuel (goes_on number g b) [] (fuel - next_cost task g) (goes_on number None (kept number mid b)) = goes_by_moves b fuel task g h o p.0 in
      let more : PollSteps setup number (fuel - next_cost task g) None (kept number mid b) t fuel' task'
      = poll_steps n (kept number mid b) (fuel - next_cost task g) mid None t fuel' task' (task_at-stored number b.tasks task mid h mid_is) mid_is o p.1 in
      let last_is : task'.number ≡ mid.number = poll_number setup.functions (view_of setup b) (fuel - next_cost task g) mid None t fuel' task' (record { count = n; polls = p.1 }) in
      let same : kept number task' (kept number mid b) ≡ kept number task' b = ap (λ (ts : List Task). record b { running = None; tasks = ts }) (stored-stored number b.tasks mid task' mid_is) in
      elim more [
        | inl w ↦ inl (
          w.0,
          moves_then in_turn setup fuel (goes_on number g b) [] (fuel - next_cost task g) (goes_on number None (kept number mid b)) (effect setup number t (kept number task' b)).lines fuel' (effect setup number t (kept number task' b)).rig first
              (subst (λ (c : Rig). Moves (FitSteps in_turn setup) (fuel - next_cost task g) (goes_on number None (kept number mid b)) (effect setup number t c).lines fuel' (effect setup number t c).rig) same w.1),
        )
        | inr s ↦ inr (
          s.0,
          subst (λ (c : Rig). Short (FitSteps in_turn setup) setup fuel (goes_on number g b) [] fuel' c) same
              (moves_short in_turn setup fuel (goes_on number g b) [] (fuel - next_cost task g) (goes_on number None (kept number mid b)) [] fuel' (kept number task' (kept number mid b)) first s.1),
        )
      ]

  pub polled_steps : (b : Rig) (fuel : ℕ) (task : Task) (g : Option Given) (t : Turned) (fuel' : ℕ) (task' : Task)
      → task_at number b.tasks ≡ Some task → task.number ≡ number → b.outcome ≡ None → Polled setup.functions (view_of setup b) fuel task g t fuel' task'
      → PollSteps setup number fuel g b t fuel' task'
  polled_steps b fuel task g t fuel' task' h e o p = poll_steps p.count b fuel task g t fuel' task' h e o p.polls
