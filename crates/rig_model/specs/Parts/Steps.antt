-- Steps within a test or between two, each of which fits the fuel; and the steps of one turn.
use Rattle.std.specs.Prelude.{◌≡◌, ℕ, zero, suc, ◌-◌, ◌<◌, ◌≤◌, Bool, true, List, [], ◌∷◌, ◌++◌, Option, None, Some, is_some}
use Rattle.await_tree.specs.declared.wait_list.ready.Entry.{Entry}
use Rattle.rig_model.specs.Run.Rig.{Rig, Setup, Running}
use Rattle.rig_model.specs.Run.Step.{rig_step}

-- So many steps lead from one configuration to the other, write these lines and leave so much of the fuel. Each begins where the configuration passes the
-- test, and has no outcome.
unfoldable pub FitSteps : (Rig → Bool) → Setup → ℕ → ℕ → Rig → List (List ℕ) → ℕ → Rig → Type 0
FitSteps from setup zero fuel c lines fuel' d = (lines ≡ []) × (fuel' ≡ fuel) × (d ≡ c)
FitSteps from setup (suc n) fuel c lines fuel' d =
    (more : List (List ℕ)) × (from c ≡ true) × (c.outcome ≡ None) × ((rig_step setup c).cost ≤ fuel)
    × (lines ≡ (rig_step setup c).lines ++ more) × FitSteps from setup n (fuel - (rig_step setup c).cost) (rig_step setup c).rig more fuel' d

-- steps wherever they begin
abbrev pub anywhere : Rig → Bool
anywhere c = true

-- steps that go on with a turn: a task runs
abbrev pub in_turn : Rig → Bool
in_turn c = is_some c.running

-- So many steps, all of one turn: after the first of them a task goes on.
unfoldable pub TurnSteps : Setup → ℕ → ℕ → Rig → List (List ℕ) → ℕ → Rig → Type 0
TurnSteps setup zero fuel c lines fuel' d = (lines ≡ []) × (fuel' ≡ fuel) × (d ≡ c)
TurnSteps setup (suc n) fuel c lines fuel' d =
    (more : List (List ℕ)) × (c.outcome ≡ None) × ((rig_step setup c).cost ≤ fuel)
    × (lines ≡ (rig_step setup c).lines ++ more) × FitSteps in_turn setup n (fuel - (rig_step setup c).cost) (rig_step setup c).rig more fuel' d

-- The two agree in all that stays when a turn is broken off.
pub record SameRest (d e : Rig) : Type 0 where
  pub sim : d.sim ≡ e.sim
  pub endings : d.endings ≡ e.endings
  pub waiting : d.waiting ≡ e.waiting
  pub objects : d.objects ≡ e.objects
  pub queues : d.queues ≡ e.queues
  pub staged : d.staged ≡ e.staged
  pub fired : d.fired ≡ e.fired
  pub deadline : d.deadline ≡ e.deadline
  pub planned : d.planned ≡ e.planned
  pub random : d.random ≡ e.random
  pub counts : d.counts ≡ e.counts

-- the ready tasks but the one whose step comes next: where no task has its turn, that is the first that is ready
abbrev pub behind : Option Running → List Entry → List Entry
behind (Some r) ready = ready
behind None (e ∷ es) = es
behind None [] = []

-- No task is lost when a turn is broken off: e has the same live tasks, each with all that it has still to do, and those are ready that stand behind the
-- one whose step comes next.
pub record SameTasks (d e : Rig) : Type 0 where
  pub tasks : d.tasks ≡ e.tasks
  pub ready : behind d.running d.ready ≡ e.ready

-- The next step doesn't fit the fuel, what stays is e's, and e has lost no task.
pub record NoFit (setup : Setup) (fuel : ℕ) (last e : Rig) : Type 0 where
  pub runs : last.outcome ≡ None
  pub short : fuel < (rig_step setup last).cost
  pub rest : SameRest last e
  pub tasks : SameTasks last e

-- One step or more, of those of some kind.
pub record Moves (kind : ℕ → ℕ → Rig → List (List ℕ) → ℕ → Rig → Type 0) (fuel : ℕ) (c : Rig) (lines : List (List ℕ)) (fuel' : ℕ) (d : Rig) : Type 0 where
  pub count : ℕ
  pub steps : kind (suc count) fuel c lines fuel' d

-- Steps of some kind, or none, lead to where the next one doesn't fit the fuel.
pub record Short (kind : ℕ → ℕ → Rig → List (List ℕ) → ℕ → Rig → Type 0) (setup : Setup) (fuel : ℕ) (c : Rig) (lines : List (List ℕ)) (fuel' : ℕ) (e : Rig) : Type 0 where
  pub count : ℕ
  pub last : Rig
  pub steps : kind count fuel c lines fuel' last
  pub no_fit : NoFit setup fuel' last e

-- Steps of some kind, or none, wherever they lead.
pub record Begins (kind : ℕ → ℕ → Rig → List (List ℕ) → ℕ → Rig → Type 0) (fuel : ℕ) (c : Rig) (lines : List (List ℕ)) : Type 0 where
  pub count : ℕ
  pub left : ℕ
  pub last : Rig
  pub steps : kind count fuel c lines left last
