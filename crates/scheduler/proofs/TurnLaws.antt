-- Turns, from the steps that they are made of.
use Rattle.std.proofs.Common.{◌≡◌, ℕ, zero, suc, ◌+◌, Bool, List, [], ◌∷◌, ◌++◌, Option, None, Some, Result, Ok, Err, IsErr, IfOk, refl, ap, sym, subst, ◌∙◌, inl, inr}
use Rattle.std.specs.Prelude.{is_some}
use Rattle.port_io.specs.Ports.{TakesAll}
use Rattle.port_io.specs.PutsPart.{PutsPart}
use Rattle.port_io.specs.Means.{SinkMeans, PutsTo}
use Rattle.port_io.proofs.PartLaws.{part_none, puts_to_then}
use Rattle.port_io.specs.declared.ports.NoMemory.{NoMemory}
use Rattle.port_io.specs.declared.ports.SinkFault.{SinkFault}
use Rattle.py_value.specs.declared.trigger.TaskNo.{TaskNo}
use Rattle.await_tree.specs.declared.cause.Given.{Given}
use Rattle.rig_model.specs.Task.Frame.{Task}
use Rattle.rig_model.specs.Task.Poll.{Polled}
use Rattle.rig_model.specs.declared.task.task.Turned.{Turned}
use Rattle.rig_model.specs.declared.task.task.Turned.TheVariants as turned
use Rattle.await_tree.specs.declared.wait_list.ready.Entry.{Entry}
use Rattle.rig_model.specs.Run.Rig.{Rig, Setup, view_of}
use Rattle.rig_model.specs.Run.Effect.{effect, goes_on}
use Rattle.rig_model.specs.Run.Step.{kept, resumed, task_at}
use Rattle.rig_model.specs.Parts.Steps.{FitSteps, TurnSteps, in_turn, Moves, Short, Begins}
use Rattle.scheduler.proofs.PollSteps.{PollSteps, polled_steps}
use Rattle.scheduler.proofs.StepLaws.{fit_then, moves_then, moves_short, resumed_steps, resumed_moves, resumed_short}
use Rattle.scheduler.specs.Turns.{TurnsTo, Turning, LeadsTo, turn_fault, next_fault}
use Rattle.scheduler.specs.declared.turned.Turn.{Turn}
use Rattle.scheduler.specs.declared.turned.Turn.TheVariants.{Went, Due, Over, WriteFault}
use Rattle.scheduler.specs.declared.turned.Turn.TheVariants as turn
use Rattle.scheduler.specs.declared.turned.Next.{Next}
use Rattle.scheduler.specs.declared.turned.Next.TheVariants.{GoesOn, Ends}

module _ (from : Rig → Bool) (setup : Setup) where
  begins_then : (fuel : ℕ) (c : Rig) (xs : List (List ℕ)) (f : ℕ) (d : Rig) (ys : List (List ℕ))
      → Moves (FitSteps from setup) fuel c xs f d → Begins (FitSteps from setup) f d ys → Begins (FitSteps from setup) fuel c (xs ++ ys)
  begins_then fuel c xs f d ys p q =
      record { count = suc p.count + q.count; left = q.left; last = q.last; steps = fit_then from setup (suc p.count) q.count fuel c xs f d ys q.left q.last p.steps q.steps }

  begins_moves : (fuel : ℕ) (c : Rig) (xs : List (List ℕ)) (f : ℕ) (d : Rig) → Moves (FitSteps from setup) fuel c xs f d → Begins (FitSteps from setup) fuel c xs
  begins_moves fuel c xs f d p = record { count = suc p.count; left = f; last = d; steps = p.steps }

  begins_none : (fuel : ℕ) (c : Rig) → Begins (FitSteps from setup) fuel c []
  unfolding FitSteps
  begins_none fuel c = record { count = zero; left = fuel; last = c; steps = (refl, refl, refl) }

  turns_then : (fuel : ℕ) (c : Rig) (xs : List (List ℕ)) (f : ℕ) (d : Rig) (ys : List (List ℕ)) (r : Result Turn NoMemory) (fuel' : ℕ) (e : Rig)
      → is_some d.planned ≡ is_some c.planned → Moves (FitSteps from setup) fuel c xs f d
      → TurnsTo (FitSteps from setup) setup f d ys r fuel' e → TurnsTo (FitSteps from setup) setup fuel c (xs ++ ys) r fuel' e
  turns_then fuel c xs f d ys (Ok Went) fuel' e p w h = (moves_then from setup fuel c xs f d ys fuel' e w h.0, h.1 ∙ p)
  turns_then fuel c xs f d ys (Ok Due) fuel' e p w h = (moves_then from setup fuel c xs f d ys fuel' e w h.0, sym p ∙ h.1, h.2)
  turns_then fuel c xs f d ys (Ok (Over o)) fuel' e p w h = moves_then from setup fuel c xs f d ys fuel' (record e { outcome = Some o }) w h
  turns_then fuel c xs f d ys (Ok turn.Spent) fuel' e p w h = moves_short from setup fuel c xs f d ys fuel' e w h
  turns_then fuel c xs f d ys (Ok WriteFault) fuel' e p w h = begins_then fuel c xs f d ys w h
  turns_then fuel c xs f d ys (Err x) fuel' e p w h = begins_then fuel c xs f d ys w h

module _ {O : Type 0} (sink : SinkMeans O) where
  -- there is no line, and no put failed
  pub next_quiet : (out : O) (lines : List (List ℕ)) (r : Result Next NoMemory) → lines ≡ [] → IfOk r (λ next. next_fault (Ok next) ≡ None) → PutsTo sink out lines (next_fault r) out
  next_quiet out lines (Ok next) e h = rw e (subst (λ (fault : Option SinkFault). PutsTo sink out [] fault out) (sym h) refl)
  next_quiet out lines (Err x) e h = part_none sink.takes sink.told out lines

  -- memory was short before its lines were put
  pub next_short : (out : O) (lines : List (List ℕ)) (r : Result Next NoMemory) → IsErr r → PutsTo sink out lines (next_fault r) out
  next_short out lines (Ok next) h = cc
  next_short out lines (Err x) h = part_none sink.takes sink.told out lines

  module _ (from : Rig → Bool) (setup : Setup) where
    -- steps whose lines were taken, and then others
    pub turning_then : (fuel : ℕ) (c : Rig) (out : O) (lines : List (List ℕ)) (f : ℕ) (d : Rig) (mid : O) (r : Result Turn NoMemory) (fuel' : ℕ) (e : Rig) (out' : O)
        → is_some d.planned ≡ is_some c.planned → Moves (FitSteps from setup) fuel c lines f d → TakesAll sink.takes out lines mid
        → Turning sink (FitSteps from setup) setup f d mid r fuel' e out' → Turning sink (FitSteps from setup) setup fuel c out r fuel' e out'
    turning_then fuel c out lines f d mid r fuel' e out' same w p t = record {
      lines = lines ++ t.lines;
      turns = turns_then from setup fuel c lines f d t.lines r fuel' e same w t.turns;
      puts = puts_to_then sink out lines mid t.lines (turn_fault r) out' p t.puts;
    }

    -- memory was short before a further step
    pub turning_short_of_memory : (fuel : ℕ) (c : Rig) (out : O) (r : Result Turn NoMemory) (fuel' : ℕ) (e : Rig) → IsErr r → Turning sink (FitSteps from setup) setup fuel c out r fuel' e out
    turning_short_of_memory fuel c out (Ok t) fuel' e h = cc
    turning_short_of_memory fuel c out (Err x) fuel' e h = record { lines = []; turns = begins_none from setup fuel c; puts = part_none sink.takes sink.told out [] }

    -- memory was short while the lines of the last steps were put
    pub turning_cut : (fuel : ℕ) (c : Rig) (out : O) (lines : List (List ℕ)) (f : ℕ) (d : Rig) (out' : O) (r : Result Turn NoMemory) (fuel' : ℕ) (e : Rig) → IsErr r
        → Moves (FitSteps from setup) fuel c lines f d → PutsPart sink.takes sink.told out lines out' → Turning sink (FitSteps from setup) setup fuel c out r fuel' e out'
    turning_cut fuel c out lines f d out' (Ok t) fuel' e h w p = cc
    turning_cut fuel c out lines f d out' (Err x) fuel' e h w p = record { lines = lines; turns = begins_moves from setup fuel c lines f d w; puts = p }

    -- the next step doesn't fit
    pub turning_spent : (fuel : ℕ) (c : Rig) (out : O) (fuel' : ℕ) (e : Rig) → Short (FitSteps from setup) setup fuel c [] fuel' e → Turning sink (FitSteps from setup) setup fuel c out (Ok turn.Spent) fuel' e out
    turning_spent fuel c out fuel' e s = record { lines = []; turns = s; puts = refl }

    -- the turn ends with something that the task wanted
    pub turning_ends : (task : TaskNo) (t : Turned) (fuel : ℕ) (c : Rig) (out : O) (b : Rig) (fuel' : ℕ) (end : Turn) (e : Rig) (out' : O)
        → is_some (effect setup task t b).rig.planned ≡ is_some c.planned → Moves (FitSteps from setup) fuel c (effect setup task t b).lines fuel' (effect setup task t b).rig → LeadsTo setup task t b (Ends end) e
        → PutsTo sink out (effect setup task t b).lines (next_fault (Ok (Ends end))) out' → Turning sink (FitSteps from setup) setup fuel c out (Ok end) fuel' e out'
    turning_ends task t fuel c out b fuel' Went e out' same w l p = record {
      lines = (effect setup task t b).lines;
      turns = subst (λ (d : Rig). Moves (FitSteps from setup) fuel c (effect setup task t b).lines fuel' d × (is_some d.planned ≡ is_some c.planned)) l (w, same);
      puts = p;
    }
    turning_ends task t fuel c out b fuel' (Over o) e out' same w l p = record {
      lines = (effect setup task t b).lines;
      turns = subst (λ (d : Rig). Moves (FitSteps from setup) fuel c (effect setup task t b).lines fuel' d) l w;
      puts = p;
    }
    turning_ends task t fuel c out b fuel' Due e out' same w l p = absurd l
    turning_ends task t fuel c out b fuel' turn.Spent e out' same w l p = absurd l
    turning_ends task t fuel c out b fuel' WriteFault e out' same w l p = record {
      lines = (effect setup task t b).lines;
      turns = begins_moves from setup fuel c (effect setup task t b).lines fuel' (effect setup task t b).rig w;
      puts = p;
    }

    -- the task goes on after something that it wanted
    pub turning_goes_on : (task : TaskNo) (t : Turned) (fuel : ℕ) (c : Rig) (out : O) (b : Rig) (f : ℕ) (g : Given) (d : Rig) (mid : O) (r : Result Turn NoMemory) (fuel' : ℕ) (e : Rig) (out' : O)
        → is_some (effect setup task t b).rig.planned ≡ is_some c.planned → Moves (FitSteps from setup) fuel c (effect setup task t b).lines f (effect setup task t b).rig
        → LeadsTo setup task t b (GoesOn g) d
        → PutsTo sink out (effect setup task t b).lines (next_fault (Ok (GoesOn g))) mid
        → Turning sink (FitSteps from setup) setup f (goes_on task (Some g) d) mid r fuel' e out' → Turning sink (FitSteps from setup) setup fuel c out r fuel' e out'
    turning_goes_on task t fuel c out b f g d mid r fuel' e out' same w l p h =
        turning_then fuel c out (effect setup task t b).lines f (goes_on task (Some g) d) mid r fuel' e out'
        (ap (λ (x : Rig). is_some x.planned) (sym l) ∙ same)
        (subst (λ (x : Rig). Moves (FitSteps from setup) fuel c (effect setup task t b).lines f x) l w) p h

  -- a whole turn, from what the first that is ready does
  module _ (setup : Setup) (c : Rig) (x : Entry) (xs : List Entry) (runs : c.running ≡ None) (first : c.ready ≡ x ∷ xs) (goes : c.outcome ≡ None) where
    resumed_begins : (fuel : ℕ) (lines : List (List ℕ)) → Begins (FitSteps in_turn setup) fuel (resumed x xs c) lines → Begins (TurnSteps setup) fuel c lines
    unfolding FitSteps TurnSteps
    resumed_begins fuel lines b = by_count b.count b.steps
      where
        by_count : (n : ℕ) → FitSteps in_turn setup n fuel (resumed x xs c) lines b.left b.last → Begins (TurnSteps setup) fuel c lines
        by_count zero h = record { count = zero; left = fuel; last = c; steps = (h.0, refl, refl) }
        by_count (suc n) h = record { count = suc n; left = b.left; last = b.last; steps = resumed_steps setup c x xs runs first goes n fuel lines b.left b.last h }

    resumed_turns : (fuel : ℕ) (lines : List (List ℕ)) (r : Result Turn NoMemory) (fuel' : ℕ) (e : Rig)
        → TurnsTo (FitSteps in_turn setup) setup fuel (resumed x xs c) lines r fuel' e → TurnsTo (TurnSteps setup) setup fuel c lines r fuel' e
    resumed_turns fuel lines (Ok Went) fuel' e h = (resumed_moves setup c x xs runs first goes fuel lines fuel' e h.0, h.1)
    resumed_turns fuel lines (Ok Due) fuel' e h = (resumed_moves setup c x xs runs first goes fuel lines fuel' e h.0, h.1, h.2)
    resumed_turns fuel lines (Ok (Over o)) fuel' e h = resumed_moves setup c x xs runs first goes fuel lines fuel' (record e { outcome = Some o }) h
    resumed_turns fuel lines (Ok turn.Spent) fuel' e h = resumed_short setup c x xs runs first goes fuel lines fuel' e h
    resumed_turns fuel lines (Ok WriteFault) fuel' e h = resumed_begins fuel lines h
    resumed_turns fuel lines (Err n) fuel' e h = resumed_begins fuel lines h

    pub turning_resumed : (fuel : ℕ) (out : O) (r : Result Turn NoMemory) (fuel' : ℕ) (e : Rig) (out' : O)
        → Turning sink (FitSteps in_turn setup) setup fuel (resumed x xs c) out r fuel' e out' → Turning sink (TurnSteps setup) setup fuel c out r fuel' e out'
    turning_resumed fuel out r fuel' e out' t = record { lines = t.lines; turns = resumed_turns fuel t.lines r fuel' e t.turns; puts = t.puts }

-- What a poll of a live task makes of its turn: steps up to the effect of what the task wants, or up to where the next step doesn't fit.
module _ (setup : Setup) (number : TaskNo) (b : Rig) (goes : b.outcome ≡ None) (fuel : ℕ) (task : Task) (g : Given) (t : Turned) (fuel' : ℕ) (rest : Task)
    (found : task_at number b.tasks ≡ Some task) (own : task.number ≡ number)
    (polled : Polled setup.functions (view_of setup b) fuel task (Some g) t fuel' rest) where
  poll : PollSteps setup number fuel (Some g) b t fuel' rest
  poll = polled_steps setup number b fuel task (Some g) t fuel' rest found own goes polled

  pub poll_moves : (t ≡ turned.Spent → ⊥)
      → Moves (FitSteps in_turn setup) fuel (goes_on number (Some g) b) (effect setup number t (kept number rest b)).lines fuel' (effect setup number t (kept number rest b)).rig
  poll_moves n = elim poll [ inl w ↦ w.1 | inr s ↦ absurd (n s.0) ]

  pub poll_short : t ≡ turned.Spent → Short (FitSteps in_turn setup) setup fuel (goes_on number (Some g) b) [] fuel' (kept number rest b)
  poll_short e = elim poll [ inl w ↦ absurd (w.0 e) | inr s ↦ s.1 ]
