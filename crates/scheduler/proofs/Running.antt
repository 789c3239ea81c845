-- What a poll of the task that has its turn, and then what it wanted, make of an engine.
use Rattle.std.proofs.Common.{◌≡◌, ◌≢◌, ℕ, ◌<◌, Option, None, Some, Result, Ok, Err, IsErr, refl, ap, sym, subst, ◌∙◌}
use Rattle.port_io.specs.Means.{SinkMeans, PutsTo}
use Rattle.port_io.specs.PutsPart.{PutsPart}
use Rattle.port_io.specs.declared.ports.NoMemory.{NoMemory}
use Rattle.gpi.specs.Content.{Content}
use Rattle.gpi.specs.Limits.{latest_time}
use Rattle.gpi.specs.Terms.{widths_of}
use Rattle.py_value.specs.declared.trigger.TaskNo.{TaskNo}
use Rattle.await_tree.specs.declared.cause.Given.{Given}
use Rattle.rig_model.specs.Task.Known.{KnowsGiven, KnowsTurned}
use Rattle.rig_model.specs.declared.task.task.Turned.{Turned}
use Rattle.rig_model.specs.declared.task.task.Turned.TheVariants as turned
use Rattle.run_state.specs.TestTasks.Live.{PollsOne}
use Rattle.run_state.specs.TestTasks.Tasks.{live_in}
use Rattle.rig_model.specs.Run.Effect.{effect, goes_on}
use Rattle.rig_model.specs.Run.Known.{IsKnown}
use Rattle.rig_model.specs.Run.Rig.{Rig, Setup, view_of}
use Rattle.rig_model.specs.Run.Step.{kept}
use Rattle.rig_model.specs.Parts.Steps.{FitSteps, in_turn}
use Rattle.scheduler.specs.Timely.{IsTimely}
use Rattle.scheduler.specs.Turns.{LeadsTo, Turning, next_fault, turn_fault}
use Rattle.scheduler.specs.declared.turned.Next.{Next}
use Rattle.scheduler.specs.declared.turned.Next.TheVariants.{GoesOn, Ends}
use Rattle.scheduler.specs.declared.turned.Turn.{Turn}
use Rattle.scheduler.specs.declared.turned.Turn.TheVariants as turn
use Rattle.run_view.specs.View as view
use Rattle.scheduler.specs.Setups as events
use Rattle.scheduler.specs.TestFits.{HasRoom, FitsAfter, FitsNext}
use Rattle.scheduler.specs.TestFits as test
use Rattle.scheduler.specs.Parts.{Means, parts_of}
use Rattle.scheduler.specs.declared.test.RunningTest.{RunningTest}
use Rattle.scheduler.specs.Engine.{rig_of, setup_of}
use Rattle.scheduler.specs.Fits.{FitsAt, FitsKernel}
use Rattle.scheduler.specs.declared.engine.Engine.{Engine}
use Rattle.scheduler.proofs.Fitting.{of_design, polled_is, polled_setup, polled_fits, polled_over}
use Rattle.scheduler.proofs.StepsLeft.{steps_left}
use Rattle.scheduler.proofs.TaskTurns.{Polling, polling_of, polling_in, leads_in, puts_in, spends, cut, ends, goes_further, goes_known, stopped_known, goes_given, goes_timely, goes_planned, goes_fewer, ends_known, ends_timely}

-- an error is no answer after which more is run
pub no_fault : (r : Result Turn NoMemory) → IsErr r → turn_fault r ≡ None → ⊥
no_fault (Ok t) h o = cc
no_fault (Err x) h o = cc

module _ {M W F : Type 0} (m : Means M W F) (e : Engine M W F) (k : Content) (number : TaskNo) (fits : FitsAt (Some number) m e k) (none : e.test.queue.planned ≡ None)
    (g : Given) (given_known : KnowsGiven (view_of (setup_of m e) (rig_of m e k)) g) (fuel : ℕ) (t : RunningTest M W F) (wish : Turned) (f : ℕ)
    (polls : PollsOne (m.functions e.test.tasks.maker) (view.view_of e.teller.flat.now k.state e.test.objects e.test.queues e.test.tasks.ended) fuel (live_in m.task e.test.tasks) number g wish f (live_in m.task t.tasks))
    (queue_is : t.queue ≡ e.test.queue) (rest_is : parts_of m t ≡ record (parts_of m e.test) { tasks = live_in m.task t.tasks })
    (maker_is : t.tasks.maker ≡ e.test.tasks.maker) (room : HasRoom m t) where
  abbrev b : Rig
  b = rig_of m e k

  abbrev after : Engine M W F
  after = record e { test = t }

  abbrev left : Rig
  left = kept number polls.rest b

  polling : Polling (setup_of m e) number b fuel g wish f polls.rest
  polling = polling_of (setup_of m e) number b fuel g wish f (live_in m.task t.tasks) polls

  is : rig_of m after k ≡ left
  is = polled_is m e k number fits t queue_is (live_in m.task t.tasks) rest_is polls.rest polls.left.stored_is

  setup_is : setup_of m after ≡ setup_of m e
  setup_is = polled_setup m e k number fits t queue_is (live_in m.task t.tasks) rest_is polls.rest polls.left.stored_is maker_is room polls.left.own polls.known

  -- ---- after the poll

  pub turn_fits : FitsAt (Some number) m after k
  turn_fits = polled_fits m e k number fits t queue_is (live_in m.task t.tasks) rest_is polls.rest polls.left.stored_is maker_is room polls.left.own polls.known

  pub spent_fits : FitsKernel m after k
  spent_fits = polled_over m e k number fits t queue_is (live_in m.task t.tasks) rest_is polls.rest polls.left.stored_is maker_is room polls.left.own polls.known

  pub wish_known : KnowsTurned (m.functions t.tasks.maker) (view_of (setup_of m after) (rig_of m after k)) wish
  wish_known =
      subst (λ (s : Setup). KnowsTurned s.functions (view_of s (rig_of m after k)) wish) (sym setup_is)
      (subst (λ (c : Rig). KnowsTurned (setup_of m e).functions (view_of (setup_of m e) c) wish) (sym is) polling.wanted)

  module _ (setup : Setup) (same : setup_of m e ≡ setup) where
    own_polling : Polling setup number b fuel g wish f polls.rest
    own_polling = polling_in setup (setup_of m e) number b fuel g wish f polls.rest same polling

    own_setup : setup_of m after ≡ setup
    own_setup = setup_is ∙ same

    module _ {O : Type 0} (sink : SinkMeans O) (out : O) where
      abbrev Comes : Result Turn NoMemory → ℕ → Rig → O → Type 0
      Comes r fuel' d out' = Turning sink (FitSteps in_turn setup) setup fuel (goes_on number (Some g) b) out r fuel' d out'

      pub spent_comes : wish ≡ turned.Spent → Comes (Ok turn.Spent) f (rig_of m after k) out
      spent_comes h = subst (λ (d : Rig). Comes (Ok turn.Spent) f d out) (sym is) (spends setup number b fuel g wish f polls.rest own_polling refl none sink out h)

      module _ (n : wish ≢ turned.Spent) where
        -- memory was short
        pub cut_comes : (r : Result Turn NoMemory) (d : Rig) (out' : O) → IsErr r → PutsPart sink.takes sink.told out (effect (setup_of m after) number wish (rig_of m after k)).lines out' → Comes r f d out'
        cut_comes r d out' h w =
            cut setup number b fuel g wish f polls.rest own_polling refl none sink out n r d out' h
            (subst (λ (c : Rig). PutsPart sink.takes sink.told out (effect setup number wish c).lines out') is
            (subst (λ (s : Setup). PutsPart sink.takes sink.told out (effect s number wish (rig_of m after k)).lines out') own_setup w))

        -- the turn ends
        pub ends_comes : (next : Next) (end : Turn) (d : Rig) (out' : O) → next ≡ Ends end → LeadsTo (setup_of m after) number wish (rig_of m after k) next d
            → PutsTo sink out (effect (setup_of m after) number wish (rig_of m after k)).lines (next_fault (Ok next)) out' → Comes (Ok end) f d out'
        ends_comes next end d out' h l w =
            ends setup number b fuel g wish f polls.rest own_polling refl none sink out n end d out'
            (leads_in setup (setup_of m after) number wish left (rig_of m after k) next (Ends end) d own_setup is h l)
            (puts_in sink setup (setup_of m after) number wish left (rig_of m after k) out out' (Ok next) (Ok (Ends end)) own_setup is (ap Ok h) w)

        -- the task goes on
        pub goes_comes : (next : Next) (g' : Given) (d : Rig) (mid : O) (r : Result Turn NoMemory) (fuel' : ℕ) (last : Rig) (out' : O) → next ≡ GoesOn g'
            → LeadsTo (setup_of m after) number wish (rig_of m after k) next d → PutsTo sink out (effect (setup_of m after) number wish (rig_of m after k)).lines (next_fault (Ok next)) mid
            → Turning sink (FitSteps in_turn setup) setup f (goes_on number (Some g') d) mid r fuel' last out' → Comes r fuel' last out'
        goes_comes next g' d mid r fuel' last out' h l w more =
            goes_further setup number b fuel g wish f polls.rest own_polling refl none sink out n g' d mid r fuel' last out'
            (leads_in setup (setup_of m after) number wish left (rig_of m after k) next (GoesOn g') d own_setup is h l)
            (puts_in sink setup (setup_of m after) number wish left (rig_of m after k) out mid (Ok next) (Ok (GoesOn g')) own_setup is (ap Ok h) w) more

    -- fewer steps are left
    pub goes_less : wish ≢ turned.Spent → (next : Next) (g' : Given) (d : Rig) → d.running ≡ None → next ≡ GoesOn g' → LeadsTo (setup_of m after) number wish (rig_of m after k) next d
        → steps_left in_turn setup f (goes_on number (Some g') d) < steps_left in_turn setup fuel (goes_on number (Some g) b)
    goes_less n next g' d r h l =
        goes_fewer setup number b fuel g wish f polls.rest own_polling refl none n g' d r
        (leads_in setup (setup_of m after) number wish left (rig_of m after k) next (GoesOn g') d own_setup is h l)

  -- ---- after what the task wanted

  module _ (n : wish ≢ turned.Spent) (t2 : RunningTest M W F) (k2 : Content) (maker2 : t2.tasks.maker ≡ t.tasks.maker) where
    abbrev then' : Engine M W F
    then' = record after { test = t2 }

    setup_stays : setup_of m then' ≡ setup_of m e
    setup_stays = ap (λ (x : M). events.setup_of (m.functions x) e.teller) maker2 ∙ setup_is

    pub same_setup : (setup : Setup) → setup_of m e ≡ setup → setup_of m then' ≡ setup
    same_setup setup same = setup_stays ∙ same

    -- the signals are as wide as they were
    wide : (turn : Option TaskNo) → test.FitsAt turn e.teller.flat.now m t2 k2 → widths_of k2.state.signals ≡ widths_of k.state.signals
    wide turn h = h.queue.queue.signals ∙ sym fits.test.queue.queue.signals

    leads_left : (next : Next) → LeadsTo (setup_of m after) number wish (rig_of m after k) next (rig_of m then' k2) → LeadsTo (setup_of m e) number wish left next (rig_of m then' k2)
    leads_left next l = leads_in (setup_of m e) (setup_of m after) number wish left (rig_of m after k) next next (rig_of m then' k2) setup_is is refl l

    fits_by : (turn : Option TaskNo) → test.FitsAt turn e.teller.flat.now m t2 k2 → IsKnown (setup_of m e) (rig_of m then' k2) → IsTimely latest_time (rig_of m then' k2) → FitsAt turn m then' k2
    fits_by turn h known timely = record {
      test = h;
      names = of_design e.teller.flat.now e.names k2.state fits.names.sound fits.names.nodes_are h.queue.queue.signals;
      known = subst (λ (s : Setup). IsKnown s (rig_of m then' k2)) (sym setup_stays) known;
      timely = timely;
    }

    -- the turn ends, and no put failed
    pub ends_fits : (next : Next) (end : Turn) → next ≡ Ends end → LeadsTo (setup_of m after) number wish (rig_of m after k) next (rig_of m then' k2)
        → FitsNext number next e.teller.flat.now m t2 k2 → turn_fault (Ok end) ≡ None → FitsKernel m then' k2
    ends_fits next end h l q o =
        let r : FitsNext number (Ends end) e.teller.flat.now m t2 k2 = subst (λ (x : Next). FitsNext number x e.teller.flat.now m t2 k2) h q in
        let l' : LeadsTo (setup_of m e) number wish left (Ends end) (rig_of m then' k2) = subst (λ (x : Next). LeadsTo (setup_of m e) number wish left x (rig_of m then' k2)) h (leads_left next l) in
        let x : test.FitsAt None e.teller.flat.now m t2 k2 = none_by end o r in
        fits_by None x
        (ends_known (setup_of m e) number b fuel g wish f polls.rest polling refl none n end (rig_of m then' k2) o l' fits.known given_known (wide None x))
        (ends_timely (setup_of m e) number b fuel g wish f polls.rest polling refl none n end (rig_of m then' k2) o l' fits.timely)
      where
        none_by : (end : Turn) → turn_fault (Ok end) ≡ None → FitsAfter end e.teller.flat.now m t2 k2 → test.FitsAt None e.teller.flat.now m t2 k2
        none_by turn.Went o r = r
        none_by turn.Due o r = r
        none_by (turn.Over outcome) o r = r
        none_by turn.Spent o r = r
        none_by turn.WriteFault o r = cc

    -- the task goes on
    module _ (next : Next) (g' : Given) (h : next ≡ GoesOn g') (l : LeadsTo (setup_of m after) number wish (rig_of m after k) next (rig_of m then' k2))
        (q : FitsNext number next e.teller.flat.now m t2 k2) where
      fits_then : test.FitsAt (Some number) e.teller.flat.now m t2 k2
      fits_then = let r : FitsNext number (GoesOn g') e.teller.flat.now m t2 k2 = subst (λ (x : Next). FitsNext number x e.teller.flat.now m t2 k2) h q in r

      leads_then : LeadsTo (setup_of m e) number wish left (GoesOn g') (rig_of m then' k2)
      leads_then = subst (λ (x : Next). LeadsTo (setup_of m e) number wish left x (rig_of m then' k2)) h (leads_left next l)

      known_then : IsKnown (setup_of m e) (goes_on number (Some g') (rig_of m then' k2))
      known_then = goes_known (setup_of m e) number b fuel g wish f polls.rest polling refl none n g' (rig_of m then' k2) refl leads_then fits.known given_known (wide (Some number) fits_then)

      pub goes_fits : FitsAt (Some number) m then' k2
      goes_fits =
          fits_by (Some number) fits_then
          (stopped_known (setup_of m e) number b fuel g wish f polls.rest polling refl none n g' (rig_of m then' k2) refl leads_then known_then)
          (goes_timely (setup_of m e) number b fuel g wish f polls.rest polling refl none n g' (rig_of m then' k2) refl leads_then fits.timely)

      pub next_known : KnowsGiven (view_of (setup_of m then') (rig_of m then' k2)) g'
      next_known =
          subst (λ (s : Setup). KnowsGiven (view_of s (rig_of m then' k2)) g') (sym setup_stays)
          (goes_given (setup_of m e) number b fuel g wish f polls.rest polling refl none n g' (rig_of m then' k2) refl leads_then known_then)

      pub next_planned : t2.queue.planned ≡ None
      next_planned = goes_planned (setup_of m e) number b fuel g wish f polls.rest polling refl none n g' (rig_of m then' k2) refl leads_then
