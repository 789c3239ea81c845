-- A step of a turn's loop: a task is polled, and what it wanted is done.
use Rattle.std.proofs.Common.{◌≡◌, ◌≢◌, ℕ, ◌<◌, List, None, Some, Result, Ok, IsErr, ap, sym, subst, ◌∙◌}
use Rattle.std.specs.Prelude.{is_some}
use Rattle.port_io.specs.PutsPart.{PutsPart}
use Rattle.port_io.specs.Means.{SinkMeans, PutsTo}
use Rattle.port_io.specs.declared.ports.NoMemory.{NoMemory}
use Rattle.gpi.specs.Limits.{latest_time}
use Rattle.gpi.specs.Terms.{widths_of}
use Rattle.py_value.specs.declared.trigger.TaskNo.{TaskNo}
use Rattle.await_tree.specs.declared.cause.Given.{Given}
use Rattle.rig_model.specs.Task.Frame.{Task}
use Rattle.rig_model.specs.Task.Known.{KnowsGiven, KnowsTurned, KnowsWhole}
use Rattle.rig_model.specs.Task.Poll.{Polled}
use Rattle.rig_model.proofs.TaskLemmas.Polls.{poll_number}
use Rattle.rig_model.specs.declared.task.task.Turned.{Turned}
use Rattle.rig_model.specs.declared.task.task.Turned.TheVariants as turned
use Rattle.run_state.specs.TestTasks.Live.{PollsOne}
use Rattle.rig_model.specs.Run.Effect.{effect, goes_on}
use Rattle.rig_model.specs.Run.Known.{IsKnown}
use Rattle.rig_model.specs.Run.Rig.{Rig, Setup, view_of}
use Rattle.rig_model.specs.Run.Step.{kept, task_at}
use Rattle.rig_model.specs.Parts.Steps.{FitSteps, in_turn, Moves}
use Rattle.scheduler.specs.Timely.{IsTimely}
use Rattle.scheduler.specs.Turns.{Turning, LeadsTo, next_fault, turn_fault}
use Rattle.scheduler.proofs.KnownSteps.{polled_known}
use Rattle.scheduler.proofs.Planned.{effect_planned}
use Rattle.scheduler.proofs.TurnLaws.{turning_spent, turning_cut, turning_ends, turning_goes_on, poll_moves, poll_short}
use Rattle.scheduler.specs.declared.turned.Turn.{Turn}
use Rattle.scheduler.specs.declared.turned.Turn.TheVariants as turn
use Rattle.scheduler.specs.declared.turned.Next.{Next}
use Rattle.scheduler.specs.declared.turned.Next.TheVariants.{GoesOn, Ends}
use Rattle.scheduler.proofs.Known.{known_over, known_stopped}
use Rattle.scheduler.proofs.StepsLeft.{steps_left, steps_fall}
use Rattle.scheduler.proofs.Timing.{moves_timely}

-- A poll of a live task of a configuration, as one fact.
pub record Polling (setup : Setup) (number : TaskNo) (b : Rig) (fuel : ℕ) (g : Given) (t : Turned) (f : ℕ) (rest : Task) : Type 0 where
  pub task : Task
  pub found : task_at number b.tasks ≡ Some task
  pub own : rest.number ≡ number
  pub polled : Polled setup.functions (view_of setup b) fuel task (Some g) t f rest
  pub wanted : KnowsTurned setup.functions (view_of setup b) t
  pub known : KnowsWhole setup.functions (view_of setup b) rest

pub polling_of : (setup : Setup) (number : TaskNo) (b : Rig) (fuel : ℕ) (g : Given) (t : Turned) (f : ℕ) (tasks : List Task)
    → (p : PollsOne setup.functions (view_of setup b) fuel b.tasks number g t f tasks) → Polling setup number b fuel g t f p.rest
polling_of setup number b fuel g t f tasks p =
    record { task = p.task; found = p.left.found; own = p.left.own; polled = p.polled; wanted = p.wanted; known = p.known }

-- the same where the setups are one
pub polling_in : (setup setup' : Setup) (number : TaskNo) (b : Rig) (fuel : ℕ) (g : Given) (t : Turned) (f : ℕ) (rest : Task) → setup' ≡ setup
    → Polling setup' number b fuel g t f rest → Polling setup number b fuel g t f rest
polling_in setup setup' number b fuel g t f rest e p = subst (λ (s : Setup). Polling s number b fuel g t f rest) e p

module _ (setup : Setup) (number : TaskNo) (b : Rig) (fuel : ℕ) (g : Given) (t : Turned) (f : ℕ) (rest : Task) (p : Polling setup number b fuel g t f rest)
    (goes : b.outcome ≡ None) (none : b.planned ≡ None) where
  abbrev after : Rig
  after = kept number rest b

  abbrev begin : Rig
  begin = goes_on number (Some g) b

  own_task : p.task.number ≡ number
  own_task = sym (poll_number setup.functions (view_of setup b) fuel p.task (Some g) t f rest p.polled) ∙ p.own

  -- nothing that the task wants plans a start
  plans_none : (effect setup number t after).rig.planned ≡ None
  plans_none = effect_planned setup number t after none

  same_planned : is_some (effect setup number t after).rig.planned ≡ is_some b.planned
  same_planned = ap is_some (plans_none ∙ sym none)

  module _ (n : t ≢ turned.Spent) where
    moves : Moves (FitSteps in_turn setup) fuel begin (effect setup number t after).lines f (effect setup number t after).rig
    moves = poll_moves setup number b goes fuel p.task g t f rest p.found own_task p.polled n

    -- ---- what holds of the configuration that it leads to

    known_then : IsKnown setup b → KnowsGiven (view_of setup b) g → widths_of (effect setup number t after).rig.sim.signals ≡ widths_of b.sim.signals
        → IsKnown setup (effect setup number t after).rig
    known_then k o w = polled_known setup number b fuel p.task g t f rest p.found own_task k o p.polled n w

    timely_then : IsTimely latest_time b → IsTimely latest_time (effect setup number t after).rig
    timely_then i = moves_timely in_turn setup fuel begin (effect setup number t after).lines f (effect setup number t after).rig moves
        (record { time = i.time; updates = i.updates; leaves = i.leaves; deadline = i.deadline; planned = i.planned })

    -- the task goes on
    module _ (g' : Given) (e : Rig) (runs : e.running ≡ None) (l : LeadsTo setup number t after (GoesOn g') e) where
      pub goes_known : IsKnown setup b → KnowsGiven (view_of setup b) g → widths_of e.sim.signals ≡ widths_of b.sim.signals → IsKnown setup (goes_on number (Some g') e)
      goes_known k o w = subst (IsKnown setup) l (known_then k o (ap (λ (x : Rig). widths_of x.sim.signals) l ∙ w))

      pub stopped_known : IsKnown setup (goes_on number (Some g') e) → IsKnown setup e
      stopped_known k = known_stopped setup number (Some g') e runs k

      pub goes_given : IsKnown setup (goes_on number (Some g') e) → KnowsGiven (view_of setup e) g'
      goes_given k = k.parts.running_known

      pub goes_timely : IsTimely latest_time b → IsTimely latest_time e
      goes_timely i =
          let x : IsTimely latest_time (goes_on number (Some g') e) = subst (IsTimely latest_time) l (timely_then i) in
          record { time = x.time; updates = x.updates; leaves = x.leaves; deadline = x.deadline; planned = x.planned }

      pub goes_planned : e.planned ≡ None
      goes_planned = ap (λ (x : Rig). x.planned) (sym l) ∙ plans_none

      -- fewer steps are left
      pub goes_fewer : steps_left in_turn setup f (goes_on number (Some g') e) < steps_left in_turn setup fuel begin
      goes_fewer = subst (λ (d : Rig). steps_left in_turn setup f d < steps_left in_turn setup fuel begin) l
          (steps_fall in_turn setup fuel begin (effect setup number t after).lines f (effect setup number t after).rig moves)

    -- the turn ends, and no put failed
    pub ends_known : (end : Turn) (e : Rig) → turn_fault (Ok end) ≡ None → LeadsTo setup number t after (Ends end) e
        → IsKnown setup b → KnowsGiven (view_of setup b) g → widths_of e.sim.signals ≡ widths_of b.sim.signals → IsKnown setup e
    ends_known turn.Went e q l k o w = subst (IsKnown setup) l (known_then k o (ap (λ (x : Rig). widths_of x.sim.signals) l ∙ w))
    ends_known (turn.Over outcome) e q l k o w =
        known_over setup e (Some outcome) (subst (IsKnown setup) l (known_then k o (ap (λ (x : Rig). widths_of x.sim.signals) l ∙ w)))
    ends_known turn.Due e q l k o w = absurd l
    ends_known turn.Spent e q l k o w = absurd l
    ends_known turn.WriteFault e q l k o w = cc

    pub ends_timely : (end : Turn) (e : Rig) → turn_fault (Ok end) ≡ None → LeadsTo setup number t after (Ends end) e → IsTimely latest_time b → IsTimely latest_time e
    ends_timely turn.Went e q l i = subst (IsTimely latest_time) l (timely_then i)
    ends_timely (turn.Over outcome) e q l i =
        let x : IsTimely latest_time (record e { outcome = Some outcome }) = subst (IsTimely latest_time) l (timely_then i) in
        record { time = x.time; updates = x.updates; leaves = x.leaves; deadline = x.deadline; planned = x.planned }
    ends_timely turn.Due e q l i = absurd l
    ends_timely turn.Spent e q l i = absurd l
    ends_timely turn.WriteFault e q l i = cc

  -- ---- the lines that were put

  module _ {O : Type 0} (sink : SinkMeans O) (out : O) where
    abbrev Comes : Result Turn NoMemory → ℕ → Rig → O → Type 0
    Comes r fuel' e out' = Turning sink (FitSteps in_turn setup) setup fuel begin out r fuel' e out'

    -- no fuel was left
    pub spends : t ≡ turned.Spent → Comes (Ok turn.Spent) f after out
    spends e = turning_spent sink in_turn setup fuel begin out f after (poll_short setup number b goes fuel p.task g t f rest p.found own_task p.polled e)

    module _ (n : t ≢ turned.Spent) where
      -- memory was short
      pub cut : (r : Result Turn NoMemory) (e : Rig) (out' : O) → IsErr r → PutsPart sink.takes sink.told out (effect setup number t after).lines out' → Comes r f e out'
      cut r e out' h w = turning_cut sink in_turn setup fuel begin out (effect setup number t after).lines f (effect setup number t after).rig out' r f e h (moves n) w

      -- the turn ends
      pub ends : (end : Turn) (e : Rig) (out' : O) → LeadsTo setup number t after (Ends end) e → PutsTo sink out (effect setup number t after).lines (next_fault (Ok (Ends end))) out' → Comes (Ok end) f e out'
      ends end e out' l w = turning_ends sink in_turn setup number t fuel begin out after f end e out' same_planned (moves n) l w

      -- the task goes on
      pub goes_further : (g' : Given) (d : Rig) (mid : O) (r : Result Turn NoMemory) (fuel' : ℕ) (e : Rig) (out' : O) → LeadsTo setup number t after (GoesOn g') d
          → PutsTo sink out (effect setup number t after).lines (next_fault (Ok (GoesOn g'))) mid
          → Turning sink (FitSteps in_turn setup) setup f (goes_on number (Some g') d) mid r fuel' e out' → Comes r fuel' e out'
      goes_further g' d mid r fuel' e out' l w h = turning_goes_on sink in_turn setup number t fuel begin out after f g' d mid r fuel' e out' same_planned (moves n) l w h

-- ---- the same, however setups, configurations and answers are told

pub leads_in : (setup setup' : Setup) (number : TaskNo) (t : Turned) (c c' : Rig) (n m : Next) (e : Rig) → setup' ≡ setup → c' ≡ c → n ≡ m
    → LeadsTo setup' number t c' n e → LeadsTo setup number t c m e
leads_in setup setup' number t c c' n m e s is same l =
    subst (λ (x : Next). LeadsTo setup number t c x e) same (subst (λ (x : Rig). LeadsTo setup number t x n e) is (subst (λ (x : Setup). LeadsTo x number t c' n e) s l))

pub puts_in : {O : Type 0} (sink : SinkMeans O) (setup setup' : Setup) (number : TaskNo) (t : Turned) (c c' : Rig) (out out' : O) (n m : Result Next NoMemory) → setup' ≡ setup → c' ≡ c → n ≡ m
    → PutsTo sink out (effect setup' number t c').lines (next_fault n) out' → PutsTo sink out (effect setup number t c).lines (next_fault m) out'
puts_in sink setup setup' number t c c' out out' n m s is same l =
    subst (λ (x : Result Next NoMemory). PutsTo sink out (effect setup number t c).lines (next_fault x) out') same
    (subst (λ (x : Rig). PutsTo sink out (effect setup number t x).lines (next_fault n) out') is
    (subst (λ (x : Setup). PutsTo sink out (effect x number t c').lines (next_fault n) out') s l))
