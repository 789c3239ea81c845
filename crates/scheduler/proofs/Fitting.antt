-- When an engine and a simulator fit, from what holds of their parts.
use Rattle.std.proofs.Common.{◌≡◌, ℕ, suc, ◌≤◌, Bool, List, [], ◌∷◌, length, Option, None, Some, Result, refl, ap, sym, subst, ◌∙◌, arith}
use Rattle.std.proofs.lemmas.List.{length-replicate}
use Rattle.gpi.specs.Content.{Content, opening}
use Rattle.gpi.specs.Design.{widths, start_map}
use Rattle.gpi.specs.Keys.{no_keys}
use Rattle.gpi.specs.Limits.{latest_time}
use Rattle.gpi.specs.Soundness.{IsSoundFlat}
use Rattle.gpi.specs.State.{State}
use Rattle.gpi.specs.Terms.{widths_of}
use Rattle.gpi.specs.declared.design.Flat.{Flat}
use Rattle.gpi.specs.declared.interface.Gpi.{Ghosts as GpiGhosts}
use Rattle.gpi.specs.declared.design.Node.{Node}
use Rattle.gpi.specs.declared.design.Signal.{Signal}
use Rattle.gpi.specs.declared.types.Counts.{Counts}
use Rattle.gpi.specs.declared.types.Key.TheVariants as key
use Rattle.gpi.proofs.Widths.{length_widths}
use Rattle.py_value.specs.declared.trigger.TaskNo.{TaskNo}
use Rattle.run_view.specs.RandomStream.Generator.{Generator}
use Rattle.await_tree.specs.SyncObjects.States.{none}
use Rattle.await_tree.specs.declared.cause.Given.{Given}
use Rattle.await_tree.specs.EndedTasks.Endings.{told_given}
use Rattle.port_io.specs.Means.{SinkMeans}
use Rattle.port_io.specs.declared.ports.NoMemory.{NoMemory}
use Rattle.gpi.specs.Events.{Event}
use Rattle.await_tree.specs.declared.wait_list.ready.Entry.{Entry}
use Rattle.scheduler.specs.Turns.{Turning}
use Rattle.scheduler.specs.declared.turned.Turn.{Turn}
use Rattle.scheduler.proofs.TurnLaws.{turning_resumed}
use Rattle.rig_model.specs.Task.Known.{AreSoundFunctions, KnowsGiven, KnowsWhole}
use Rattle.rig_model.specs.Task.Frame.{Task}
use Rattle.await_tree.specs.WaitList.Keys.{AreKeys}
use Rattle.rig_model.specs.Run.Case.{emptied, ended}
use Rattle.rig_model.specs.Run.Effect.{goes_on}
use Rattle.rig_model.specs.Run.Known.{IsKnown}
use Rattle.rig_model.specs.Run.Rig.{Rig, Setup, event_of, view_of}
use Rattle.rig_model.specs.Run.Serve.{ended_if}
use Rattle.rig_model.specs.Run.Step.{evented, kept}
use Rattle.rig_model.specs.Parts.Queue.{Leads, Queue, nothing_queued}
use Rattle.rig_model.specs.Parts.Steps.{FitSteps, TurnSteps, in_turn}
use Rattle.run_state.specs.Queue.Effects.{dropping, with_first}
use Rattle.run_state.specs.Queue.Fits.{Fits, IsBare, queue_of}
use Rattle.run_state.specs.declared.queue.queue.RunQueue.{RunQueue}
use Rattle.scheduler.specs.Timely.{IsEarly, IsTimely}
use Rattle.run_view.specs.View.{IsOf}
use Rattle.scheduler.specs.Setups as events
use Rattle.scheduler.specs.EffectLaws.Stands.{StandsIn}
use Rattle.scheduler.proofs.EffectLawsLemmas.Effects.{over_stands, rest_stands}
use Rattle.scheduler.specs.TestFits.{HasQueues, HasRoom}
use Rattle.scheduler.specs.Parts.{Means, Parts, rig_by, parts_of}
use Rattle.scheduler.specs.Parts as parts
use Rattle.scheduler.specs.declared.test.RunningTest.{RunningTest}
use Rattle.scheduler.specs.Engine.{rig_of, setup_of}
use Rattle.scheduler.specs.Fits.{FitsAt, FitsKernel, KeepsAll}
use Rattle.scheduler.specs.declared.engine.Engine.{Engine}
use Rattle.scheduler.proofs.EventTurns.{event_known, event_stands, event_timely}
use Rattle.scheduler.proofs.QueueLaws.{queues_made}
use Rattle.scheduler.proofs.Known.{bare_known, first_given, kept_known, told_known}

-- ---- signals of the design

count_widths : (ss : List Signal) → length (widths ss) ≡ length ss
count_widths [] = refl
count_widths (s ∷ ss) = ap suc (count_widths ss)

-- a simulator with a value of the right width for each signal has one for each
pub of_design : (flat : Flat) (nodes : List Node) (state : State) → IsSoundFlat flat → nodes ≡ flat.nodes → widths_of state.signals ≡ widths flat.signals → IsOf flat nodes state
of_design flat nodes state s n w = record {
  sound = s;
  nodes_are = n;
  values = sym (length_widths state.signals) ∙ ap length w ∙ count_widths flat.signals;
}

start_widths : (ss : List Signal) → widths_of (start_map ss) ≡ widths ss
start_widths [] = refl
start_widths (s ∷ ss) = rw (length-replicate s.width s.start, start_widths ss) refl

no_keys_are : AreKeys no_keys []
no_keys_are (key.At t) = refl
no_keys_are (key.Rise s) = refl
no_keys_are (key.Fall s) = refl
no_keys_are (key.Change s) = refl
no_keys_are key.ReadWrite = refl
no_keys_are key.ReadOnly = refl
no_keys_are key.NextStep = refl

-- a simulator that has just loaded the design
pub opening_bare : (flat : Flat) → IsBare flat (opening flat)
opening_bare flat = record { procs_are = refl; nets_are = refl; signals = start_widths flat.signals; keys_are = no_keys_are }

-- ---- nothing of a test is left

pub bare_stands : (state : State) (random : Generator) (counts : Counts) → StandsIn None (emptied state random counts)
bare_stands state random counts = record {
  placed_are = record { live = λ n h. absurd (omega arith); once = λ n. omega arith; started = λ n h. cc; ends = λ n h. absurd (omega arith) };
  live = omega arith;
}

pub bare_timely : (bound : ℕ) (state : State) (random : Generator) (counts : Counts) → IsEarly bound state → IsTimely bound (emptied state random counts)
bare_timely bound state random counts h = record { time = h.time; updates = h.updates; leaves = λ due k. cc; deadline = tt; planned = tt }

module _ {M W F : Type 0} (m : Means M W F) where
  -- an engine in which no test runs
  pub bare_fits : (e : Engine M W F) (k : Content) (random : Generator) → IsSoundFlat e.teller.flat.now → e.names ≡ e.teller.flat.now.nodes → AreSoundFunctions (m.functions e.test.tasks.maker)
      → Fits e.teller.flat.now m.waiting m.held e.test.queue k → HasRoom m e.test → IsEarly latest_time k.state → rig_of m e k ≡ emptied k.state random k.counts → FitsKernel m e k
  bare_fits e k random sound names functions queue room early is =
      let of : IsOf e.teller.flat.now e.names k.state = of_design e.teller.flat.now e.names k.state sound names queue.queue.signals in
      record {
        test = record { queue = queue; room = room; stands = subst (StandsIn None) (sym is) (bare_stands k.state random k.counts) };
        names = of;
        known = subst (IsKnown (setup_of m e)) (sym is) (bare_known (setup_of m e) e.names k.state random k.counts of functions);
        timely = subst (IsTimely latest_time) (sym is) (bare_timely latest_time k.state random k.counts early);
      }

  -- ---- the end of a test

  module _ (e : Engine M W F) (k k' : Content) (t : RunningTest M W F)
      (parts_are : parts_of m t ≡ record { tasks = []; endings = []; objects = none; queues = []; random = e.test.random }) (queue_is : queue_of m.waiting t.queue ≡ nothing_queued) where
    abbrev cleared : Parts
    cleared = record { tasks = []; endings = []; objects = none; queues = []; random = e.test.random }

    -- all is dropped
    pub cleared_is : Leads dropping (queue_of m.waiting e.test.queue) k nothing_queued k' → parts.rig_of m t k' ≡ ended (rig_of m e k)
    cleared_is l =
        ap (λ (p : Parts). rig_by p (queue_of m.waiting t.queue) k') parts_are
        ∙ ap (λ (q : Queue). rig_by cleared q k') queue_is
        ∙ sym (l (rig_by cleared (queue_of m.waiting e.test.queue) k))

    cleared_bare : parts.rig_of m t k' ≡ emptied k'.state e.test.random k'.counts
    cleared_bare =
        ap (λ (p : Parts). rig_by p (queue_of m.waiting t.queue) k') parts_are
        ∙ ap (λ (q : Queue). rig_by cleared q k') queue_is

    pub cleared_fits : (b : Bool) → FitsKernel m e k → t.tasks.maker ≡ e.test.tasks.maker → Fits e.teller.flat.now m.waiting m.held t.queue k' → HasRoom m t → k'.state ≡ k.state
        → FitsKernel m (record e { test = t; runs_test = b }) k'
    cleared_fits b fits maker queue room state =
        bare_fits (record e { test = t; runs_test = b }) k' e.test.random fits.names.sound fits.names.nodes_are
        (subst (λ (x : M). AreSoundFunctions (m.functions x)) (sym maker) fits.known.sound) queue room
        (subst (IsEarly latest_time) (sym state) (record { time = fits.timely.time; updates = fits.timely.updates })) cleared_bare

  -- ---- the first that is ready

  module _ (e : Engine M W F) (k : Content) (fits : FitsKernel m e k) (q : RunQueue W) (task : TaskNo) (g : Given)
      (first : queue_of m.waiting e.test.queue ≡ with_first task g (queue_of m.waiting q)) where
    abbrev taken_engine : Engine M W F
    taken_engine = record e { test = record e.test { queue = q } }

    abbrev x : Entry
    x = record { task = task; given = g }

    pub taken_ready : (rig_of m e k).ready ≡ x ∷ q.ready.entries
    taken_ready = ap (λ (y : Queue). y.ready) first

    taken_is : rig_of m taken_engine k ≡ (let r : Rig = record (rig_of m e k) { ready = q.ready.entries } in r)
    taken_is = ap (λ (y : Queue). rig_by (parts_of m e.test) (let z : Queue = record y { ready = q.ready.entries } in z) k) (sym first)

    -- what it is told is known
    pub taken_known : (told : Given) → told ≡ told_given g e.test.tasks.ended → KnowsGiven (view_of (setup_of m taken_engine) (rig_of m taken_engine k)) told
    taken_known told is =
        let c : Rig = rig_of m e k in
        subst (KnowsGiven (view_of (setup_of m e) c)) (sym is) (told_known (setup_of m e) c g fits.known (first_given (setup_of m e) c x q.ready.entries taken_ready fits.known))

    -- its turn is one of the whole
    pub taken_turning : {O : Type 0} (sink : SinkMeans O) (told : Given) (fuel : ℕ) (out : O) (r : Result Turn NoMemory) (fuel' : ℕ) (d : Rig) (out' : O) → told ≡ told_given g e.test.tasks.ended
        → Turning sink (FitSteps in_turn (setup_of m e)) (setup_of m e) fuel (goes_on task (Some told) (rig_of m taken_engine k)) out r fuel' d out'
        → Turning sink (TurnSteps (setup_of m e)) (setup_of m e) fuel (rig_of m e k) out r fuel' d out'
    taken_turning sink told fuel out r fuel' d out' is h =
        let c : Rig = rig_of m e k in
        turning_resumed sink (setup_of m e) c x q.ready.entries refl taken_ready refl fuel out r fuel' d out'
        (subst (λ (y : Given). Turning sink (FitSteps in_turn (setup_of m e)) (setup_of m e) fuel (goes_on task (Some y) (let s : Rig = record c { ready = q.ready.entries } in s)) out r fuel' d out') is
        (subst (λ (y : Rig). Turning sink (FitSteps in_turn (setup_of m e)) (setup_of m e) fuel (goes_on task (Some told) y) out r fuel' d out') taken_is h))

  -- ---- an event

  module _ (e : Engine M W F) (k k' : Content) (fits : FitsKernel m e k) (none : (rig_of m e k).ready ≡ []) (q : RunQueue W) (ev : Event) (late : Bool)
      (next : event_of (setup_of m e) (rig_of m e k) ≡ Some ev)
      (leads : (evented (setup_of m e) ev (rig_of m e k)).rig ≡ (ended_if late (rig_of m (record e { test = record e.test { queue = q } }) k')).rig) where
    abbrev evented_engine : Engine M W F
    evented_engine = record e { test = record e.test { queue = q } }

    pub evented_fits : Fits e.teller.flat.now m.waiting m.held q k' → q.ready.room ≡ e.test.queue.ready.room → FitsKernel m evented_engine k'
    evented_fits queue room =
        let c : Rig = rig_of m e k in
        let d : Rig = rig_of m evented_engine k' in
        record {
          test = record {
            queue = queue;
            room = record { whole = fits.test.room.whole; room_is = subst (λ (n : ℕ). length c.tasks ≤ n) (sym room) fits.test.room.room_is };
            stands = event_stands (setup_of m e) c refl none refl ev next late d leads refl fits.test.stands;
          };
          names = of_design e.teller.flat.now e.names k'.state fits.names.sound fits.names.nodes_are queue.queue.signals;
          known = event_known (setup_of m e) c refl none refl ev next late d leads fits.known (queue.queue.signals ∙ sym fits.test.queue.queue.signals);
          timely = event_timely (setup_of m e) c refl none refl ev next late d leads fits.timely;
        }

  -- ---- a poll

  module _ (e : Engine M W F) (k : Content) (number : TaskNo) (fits : FitsAt (Some number) m e k) (t : RunningTest M W F) where
    abbrev b : Rig
    b = rig_of m e k

    abbrev after : Engine M W F
    after = record e { test = t }

    module _ (queue_is : t.queue ≡ e.test.queue) (tasks : List Task) (rest_is : parts_of m t ≡ record (parts_of m e.test) { tasks = tasks })
        (rest : Task) (stored_is : tasks ≡ (kept number rest b).tasks) where
      -- what is left of the task is kept, and nothing else has changed
      pub polled_is : rig_of m after k ≡ kept number rest b
      polled_is =
          ap (λ (p : Parts). rig_by p (queue_of m.waiting t.queue) k) rest_is
          ∙ ap (λ (q : Queue). rig_by (record (parts_of m e.test) { tasks = tasks }) q k) (ap (queue_of m.waiting) queue_is)
          ∙ ap (λ (ts : List Task). rig_by (record (parts_of m e.test) { tasks = ts }) (queue_of m.waiting e.test.queue) k) stored_is

      module _ (maker_is : t.tasks.maker ≡ e.test.tasks.maker) (room : HasRoom m t) (own : rest.number ≡ number)
          (known : KnowsWhole (m.functions e.test.tasks.maker) (view_of (setup_of m e) b) rest) where
        pub polled_setup : setup_of m after ≡ setup_of m e
        polled_setup = ap (λ (x : M). events.setup_of (m.functions x) e.teller) maker_is

        after_known : IsKnown (setup_of m after) (rig_of m after k)
        after_known =
            subst (IsKnown (setup_of m after)) (sym polled_is)
            (subst (λ (s : Setup). IsKnown s (kept number rest b)) (sym polled_setup) (kept_known (setup_of m e) number rest b known fits.known))

        after_timely : IsTimely latest_time (rig_of m after k)
        after_timely = subst (IsTimely latest_time) (sym polled_is)
            (record { time = fits.timely.time; updates = fits.timely.updates; leaves = fits.timely.leaves; deadline = fits.timely.deadline; planned = fits.timely.planned })

        after_queue : Fits e.teller.flat.now m.waiting m.held t.queue k
        after_queue = subst (λ q. Fits e.teller.flat.now m.waiting m.held q k) (sym queue_is) fits.test.queue

        after_stands : StandsIn (Some number) (kept number rest b)
        after_stands = rest_stands number rest b own fits.test.stands

        -- the task has its turn still
        pub polled_fits : FitsAt (Some number) m after k
        polled_fits = record {
          test = record { queue = after_queue; room = room; stands = subst (StandsIn (Some number)) (sym polled_is) after_stands };
          names = fits.names;
          known = after_known;
          timely = after_timely;
        }

        -- the turn is over
        pub polled_over : FitsKernel m after k
        polled_over = record {
          test = record { queue = after_queue; room = room; stands = subst (StandsIn None) (sym polled_is) (over_stands number (kept number rest b) after_stands) };
          names = fits.names;
          known = after_known;
          timely = after_timely;
        }

-- the events of the queues were made
pub has_queues : {M W F : Type 0} (m : Means M W F) (turn : Option TaskNo) (e : Engine M W F) (k : Content) → FitsAt turn m e k → HasQueues e.test
has_queues m turn e k f = record {
  made = queues_made (view_of (setup_of m e) (rig_of m e k)) e.test.queues f.known.parts.queues_known;
  few = f.known.parts.queues_few;
}

-- what a turn keeps, where queue and simulator fit and what the tests share is the same
pub keeps_all : {M W F K : Type 0} (m : Means M W F) (gpi : GpiGhosts K) (flat : Flat) (d e : Engine M W F) (kernel : K)
    → setup_of m e ≡ setup_of m d → gpi.is_loaded kernel → Fits flat m.waiting m.held e.test.queue (gpi.content kernel) → KeepsAll m gpi d e kernel
keeps_all m gpi flat d e kernel setup loaded fits =
    record { setup = setup; loaded = loaded; keys = record { keys_are = fits.queue.keys_are; held_are = fits.queue.held_are } }
