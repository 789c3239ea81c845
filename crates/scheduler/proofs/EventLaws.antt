-- An event of the simulator, and what it fires.
use Rattle.std.proofs.Common.{◌≡◌, ℕ, ◌||◌, ◌&&◌, Bool, true, false, not, List, [], ◌∷◌, ◌++◌, length, Option, None, Some, refl, sym, ap, subst, ◌∙◌}
use Rattle.port_io.specs.Means.{SinkMeans}
use Rattle.port_io.specs.declared.ports.SinkFault.{SinkFault}
use Rattle.gpi.specs.Content.{Content, Does, Answers, IsChangeOf}
use Rattle.gpi.specs.Design.{Proc}
use Rattle.gpi.specs.Events.{Event, event}
use Rattle.gpi.specs.Keys.{has, among, same_key, set_of, fired_of}
use Rattle.gpi.specs.State.{State, is_end}
use Rattle.gpi.specs.Terms.{widths_of}
use Rattle.gpi.specs.declared.design.Flat.{Flat}
use Rattle.gpi.specs.declared.types.Advance.TheVariants as advance
use Rattle.gpi.specs.declared.types.Counts.{Counts}
use Rattle.gpi.specs.declared.types.Key.{Key}
use Rattle.gpi.specs.declared.types.Key.TheVariants as key
use Rattle.gpi.specs.declared.types.Moved.{Moved}
use Rattle.gpi.proofs.SameKeys.{event_same}
use Rattle.test_meaning.specs.Body.BodyTrees.{Function}
use Rattle.await_tree.specs.WaitList.Counts.{counts_after, primed_keys, raised_times, removed_keys}
use Rattle.await_tree.specs.WaitList.Keys.{AreAlike, AreFired, AreKeys, AreKeysBut, Rekeyed, without_all}
use Rattle.await_tree.specs.WaitList.Waiting.{Waiting, all_waiting, all_woken, fired_keys, keys_of, named, phase_key, time_key}
use Rattle.await_tree.specs.declared.wait_list.ready.Entry.{Entry}
use Rattle.rig_model.specs.Run.Counts.{counted}
use Rattle.rig_model.specs.Run.Rig.{Rig, Setup, After, event_of, is_any, procs, told_lines}
use Rattle.rig_model.specs.Run.Serve.{ended_if, flushed_if, is_due, not_due, served}
use Rattle.rig_model.specs.Run.Step.{evented}
use Rattle.rig_model.specs.Parts.Fits.{FitsQueue, ahead}
use Rattle.rig_model.specs.Parts.Queue.{Leads, Queue, queue_awaited, queue_held, rig_amid, rig_at}
use Rattle.run_state.specs.Queue.Still.{AreStill}
use Rattle.run_state.proofs.QueueLemmas.KeyLaws.{among-append, among_named, among_without_all, same_is}
use Rattle.run_state.proofs.QueueLemmas.Rekeys.{keys_awaited, rekeyed_counts}
use Rattle.run_state.proofs.QueueLemmas.StillLaws.{served_still}
use Rattle.run_state.proofs.QueueLemmas.Tests.{and_false, and_true, or_left}
use Rattle.scheduler.specs.Amid.{Serves, StandsAmid}
use Rattle.scheduler.specs.Evented.{IsEvented}
use Rattle.scheduler.specs.Fires.{Fires}
use Rattle.scheduler.specs.Puts.{PutsOn}
use Rattle.scheduler.specs.Setups.{setup_of}
use Rattle.scheduler.specs.declared.teller.Teller.{Teller}
use Rattle.scheduler.proofs.DepositLaws.{amid_but, among_held, but_others, has_set, unregistered}
use Rattle.scheduler.proofs.FireLaws.{event_fires, told_back}
use Rattle.scheduler.proofs.FlushLaws.{same_unless}
use Rattle.scheduler.proofs.PutLaws.{puts_on_none, puts_on_then}
use Rattle.scheduler.proofs.ServeLaws.{all_fit, among_awaited, are_named, serve_keys_is, served_keys}
use Rattle.scheduler.proofs.SignalLaws.{same_count}

-- ---- outside of an event

-- so a write leads from the one queue and simulator to the other
pub put_leads : {O : Type 0} (sink : SinkMeans O) (effect : Rig → After) (flat : Flat) (room : ℕ) (q : Queue) (k : Content) (held' : List Key) (q' : Queue) (k' : Content)
    (out : O) (fault' : Option SinkFault) (out' : O) → Serves sink effect flat room [] k.counts q k held' q' k' None out fault' out' → Leads (λ c. (effect c).rig) q k q' k'
put_leads sink effect flat room q k held' q' k' out fault' out' s c = s.leads c ∙ ap (λ (n : Counts). rig_amid [] n q' k'.state c) (sym s.stands.counts_are)

-- a queue and a simulator that fit stand so, while nothing is to be served
pub fits_amid : (flat : Flat) (room : ℕ) (held : List Key) (q : Queue) (k : Content) → FitsQueue flat room held q k → AreStill q.waiting → StandsAmid flat room [] k.counts held q k
fits_amid flat room held q k f still = record {
  procs_are = f.procs_are;
  nets_are = f.nets_are;
  signals = f.signals;
  keys_are = keys_awaited held q k (record { keys_are = f.keys_are; held_are = f.held_are });
  held_are = λ x h. f.held_are x;
  counts_are = refl;
  writes = f.writes;
  room_is = f.room_is;
  still = still;
}

-- and so the other way round
pub amid_fits : (flat : Flat) (room : ℕ) (counts : Counts) (held : List Key) (q : Queue) (k : Content) → StandsAmid flat room [] counts held q k → FitsQueue flat room held q k
amid_fits flat room counts held q k s = record {
  procs_are = s.procs_are;
  nets_are = s.nets_are;
  signals = s.signals;
  keys_are = λ x.
      s.keys_are x
      ∙ among_awaited x [] q
      ∙ and_true (among x (keys_of q.waiting) || among x (queue_held q))
      ∙ ap (λ (b : Bool). among x (keys_of q.waiting) || b) (sym (s.held_are x refl))
      ∙ sym (among_named x q.waiting held);
  held_are = λ x. s.held_are x refl;
  writes = s.writes;
  room_is = s.room_is;
}

-- ---- times that are due

-- a key that hasn't fired is that of a time exactly where it was
due_free : (fired : List Key) (time : Option ℕ) (x : Key) → among x fired ≡ false → among x (time_key (not_due fired time)) ≡ among x (time_key time)
due_free fired None x h = refl
due_free fired (Some t) x h = decided (among (key.At t) fired) refl
  where
    unlike : (b : Bool) → same_key x (key.At t) ≡ b → among (key.At t) fired ≡ true → among x (time_key (Some t)) ≡ false
    unlike true e m = absurd (let z : true ≡ false = sym (ap (λ (y : Key). among y fired) (same_is x (key.At t) e) ∙ m) ∙ h in cc)
    unlike false e m = rw e refl

    decided : (b : Bool) → among (key.At t) fired ≡ b → among x (time_key (not_due fired (Some t))) ≡ among x (time_key (Some t))
    decided true e = rw e (sym (unlike (same_key x (key.At t)) refl e))
    decided false e = rw e refl

-- the key of a time that isn't due hasn't fired
due_gone : (fired : List Key) (time : Option ℕ) (x : Key) → among x (time_key (not_due fired time)) ≡ true → among x fired ≡ false
due_gone fired None x m = cc
due_gone fired (Some t) x m = decided (among (key.At t) fired) refl
  where
    unfired_time : (b : Bool) → same_key x (key.At t) ≡ b → (same_key x (key.At t) || false) ≡ true → among (key.At t) fired ≡ false → among x fired ≡ false
    unfired_time true e n f = ap (λ (y : Key). among y fired) (same_is x (key.At t) e) ∙ f
    unfired_time false e n f = absurd (let z : false ≡ true = sym (rw e refl) ∙ n in cc)

    decided : (b : Bool) → among (key.At t) fired ≡ b → among x fired ≡ false
    decided true e = absurd (let z : false ≡ true = rw e at m in cc)
    decided false e = unfired_time (same_key x (key.At t)) refl (rw e at m) e

-- a deadline and a planned start among these keys are none any more
abbrev pub taken : List Key → Queue → Queue
taken fired q = record q { deadline = not_due fired q.deadline; planned = not_due fired q.planned }

-- what goes out from there goes out from where the times were taken
pub from_taken : {O : Type 0} (sink : SinkMeans O) (effect : Rig → After) (flat : Flat) (room : ℕ) (fired : List Key) (counts : Counts) (held : List Key) (q : Queue) (d p : Option ℕ) (k : Content)
    (held' : List Key) (q' : Queue) (k' : Content) (f : Option SinkFault) (o : O) (f' : Option SinkFault) (o' : O) → d ≡ not_due fired q.deadline → p ≡ not_due fired q.planned
    → (StandsAmid flat room fired counts held (record q { deadline = d; planned = p }) k
    → Serves sink effect flat room fired counts (record q { deadline = d; planned = p }) k held' q' k' f o f' o')
    → StandsAmid flat room fired counts held (taken fired q) k → Serves sink effect flat room fired counts (taken fired q) k held' q' k' f o f' o'
from_taken sink effect flat room fired counts held q d p k held' q' k' f o f' o' d_is p_is h =
    subst (λ (x : Queue). StandsAmid flat room fired counts held x k → Serves sink effect flat room fired counts x k held' q' k' f o f' o') is h
  where
    is : record q { deadline = d; planned = p } ≡ taken fired q
    is = ap (λ (x : Option ℕ). (let r : Queue = record q { deadline = x; planned = p } in r)) d_is
        ∙ ap (λ (x : Option ℕ). (let r : Queue = record q { deadline = not_due fired q.deadline; planned = x } in r)) p_is

-- a key that hasn't fired is held as before
taken_free : (fired : List Key) (q : Queue) (x : Key) → among x fired ≡ false → among x (queue_held q) ≡ among x (queue_held (taken fired q))
taken_free fired q x h =
    among_held x q
    ∙ rw (sym (due_free fired q.deadline x h), sym (due_free fired q.planned x h)) refl
    ∙ sym (among_held x (taken fired q))

-- ---- the next event

abbrev pub event_at : Content → Option Event
event_at k = event k.procs k.state k.keys

-- The simulator has done its next event.
pub record Advances (k : Content) (m : Moved) (k' : Content) : Type 0 where
  pub event : Event
  pub next : event_at k ≡ Some event
  pub change_is : m.change ≡ event.told
  pub fired_is : m.fired ≡ fired_of event.fired
  pub done : Does k event k'

pub advances_of : (k : Content) (m : Moved) (k' : Content) → Answers k (event_at k) (advance.Moved m) k' → Advances k m k'
advances_of k m k' a = by_event (event_at k) refl a
  where
    moved_is : (x y : Moved) → advance.Moved x ≡ advance.Moved y → x ≡ y
    moved_is x y h = cc

    by_event : (o : Option Event) → event_at k ≡ o → Answers k o (advance.Moved m) k' → Advances k m k'
    by_event None q h = absurd (let e : advance.Moved m ≡ advance.Idle = h.0 in cc)
    by_event (Some e) q h =
        let is : m ≡ record { change = e.told; fired = fired_of e.fired } = moved_is m (record { change = e.told; fired = fired_of e.fired }) h.0 in
        record { event = e; next = q; change_is = ap (λ (x : Moved). x.change) is; fired_is = ap (λ (x : Moved). x.fired) is; done = h.1 }

-- ---- its keys are to be served

module _ (flat : Flat) (room : ℕ) (held : List Key) (q : Queue) (k k1 : Content) (f : FitsQueue flat room held q k) (still : AreStill q.waiting) (m : Moved) (a : Advances k m k1)
    (as_wide : widths_of k1.state.signals ≡ widths_of k.state.signals) where
  fires : Fires a.event
  fires = event_fires k.procs k.state k.keys a.event a.next

  abbrev own : List Key
  own = fired_keys m.fired

  pub own_is : own ≡ a.event.fired
  own_is = ap fired_keys a.fired_is ∙ told_back a.event.fired fires.few

  -- the read-write phase fires alone
  pub event_alone : among key.ReadWrite own ≡ true → own ≡ key.ReadWrite ∷ []
  event_alone h = own_is ∙ fires.alone (sym (ap (among key.ReadWrite) own_is) ∙ h)

  -- and then writes may go out
  pub event_open : among key.ReadWrite own ≡ true → is_end k1.state.region ≡ false
  event_open h = ap (λ (st : State). is_end st.region) a.done.state ∙ ap is_end (fires.settled (sym (ap (among key.ReadWrite) own_is) ∙ h))

  -- while a write is staged the runner holds that phase
  pub event_held : is_any q.staged ≡ true → among key.ReadWrite held ≡ true
  event_held h = f.held_are key.ReadWrite ∙ among_held key.ReadWrite q ∙ rw h refl

  pub event_amid : StandsAmid flat room own k.counts held (taken own q) k1
  event_amid = record {
    procs_are = a.done.procs ∙ f.procs_are;
    nets_are = a.done.nets ∙ f.nets_are;
    signals = as_wide ∙ f.signals;
    keys_are = λ x.
        a.done.keys x
        ∙ ap (λ (ks : List Key). has x k.keys && not (among x ks)) (sym own_is)
        ∙ ap (λ (b : Bool). b && not (among x own)) (f.keys_are x ∙ among_named x q.waiting held ∙ ap (λ (b : Bool). among x (keys_of q.waiting) || b) (f.held_are x))
        ∙ same_unless (among x (keys_of q.waiting)) (among x (queue_held q)) (among x (queue_held (taken own q))) (among x own) (taken_free own q x)
        ∙ sym (among_awaited x own (taken own q));
    held_are = λ x h. f.held_are x ∙ taken_free own q x h;
    counts_are = a.done.counts ∙ ap (λ (ks : List Key). ahead ks k.counts) (sym own_is);
    writes = f.writes;
    room_is = f.room_is;
    still = still;
  }

  module _ (n2 : Counts) (held2 : List Key) (q2 : Queue) (k2 : Content) (s : StandsAmid flat room own n2 held2 q2 k2) where
    -- what the waiting part asks before it serves them
    pub event_fired : IsChangeOf (length k.state.signals) m.change → AreFired k2 own
    event_fired h = record {
      apart = rw own_is fires.apart;
      out = unregistered flat room own held2 n2 q2 k2 s;
      signals = λ x n. fires.signals k2 told x (sym (ap (among x) own_is) ∙ n);
    }
      where
        as_many : length k.state.signals ≡ length k2.state.signals
        as_many = same_count k.state.signals k2.state.signals (f.signals ∙ sym s.signals)

        told : IsChangeOf (length k2.state.signals) a.event.told
        told = subst (λ (n : ℕ). IsChangeOf n a.event.told) as_many (rw a.change_is at h)

    pub event_but : AreKeysBut k2.keys (own ++ held2) (named q2.waiting held2)
    event_but = but_others k2.keys own (own ++ held2) (named q2.waiting held2)
        (λ x n. among-append x own held2 ∙ or_left (among x own) (among x held2) n) (amid_but flat room own held2 n2 q2 k2 s)

    -- ---- they are served

    module _ (k3 : Content) (held3 : List Key) (ready3 : List Entry) (waiting3 : List Waiting)
        (deadline_is : q2.deadline ≡ not_due own q.deadline) (planned_is : q2.planned ≡ not_due own q.planned) (staged_is : among key.ReadWrite own ≡ true → q2.staged ≡ [])
        (waiting_is : waiting3 ≡ all_waiting own q2.waiting) (held_is : AreAlike held3 (without_all own held2)) (ready_is : ready3 ≡ q2.ready ++ all_woken own q2.waiting)
        (r : Rekeyed k2 k3 own (named q2.waiting held2) (named waiting3 held3)) where
      abbrev q3 : Queue
      q3 = record q2 { ready = ready3; waiting = waiting3 }

      phase_gone : (x : Key) → among x own ≡ true → among x (phase_key (is_any q2.staged)) ≡ false
      phase_gone x h = decided (is_any q2.staged) refl
        where
          alike : (b : Bool) → same_key x key.ReadWrite ≡ b → is_any q2.staged ≡ true → (same_key x key.ReadWrite || false) ≡ false
          alike true e t = absurd (let z : q2.staged ≡ [] = staged_is (ap (λ (y : Key). among y own) (sym (same_is x key.ReadWrite e)) ∙ h) in let y : true ≡ false = sym t ∙ ap is_any z in cc)
          alike false e t = rw e refl

          decided : (b : Bool) → is_any q2.staged ≡ b → among x (phase_key (is_any q2.staged)) ≡ false
          decided true e = rw e (alike (same_key x key.ReadWrite) refl e)
          decided false e = rw e refl

      time_gone : (x : Key) → among x own ≡ true → (time now : Option ℕ) → now ≡ not_due own time → among x (time_key now) ≡ false
      time_gone x h time now e = decided (among x (time_key now)) refl
        where
          decided : (b : Bool) → among x (time_key now) ≡ b → among x (time_key now) ≡ false
          decided true m = absurd (let z : among x own ≡ false = due_gone own time x (rw e at m) in let y : true ≡ false = sym h ∙ z in cc)
          decided false m = m

      -- the queue holds none of them any more
      free : (x : Key) → among x own ≡ true → among x (queue_held q2) ≡ false
      free x h = among_held x q2 ∙ rw (phase_gone x h, time_gone x h q.deadline q2.deadline deadline_is, time_gone x h q.planned q2.planned planned_is) refl

      before : (x : Key) → has x k2.keys ≡ (among x (queue_awaited [] q2) && not (among x own))
      before x =
          s.keys_are x
          ∙ among_awaited x own q2
          ∙ ap (λ (b : Bool). b && not (among x own)) (sym (among_awaited x [] q2 ∙ and_true (among x (keys_of q2.waiting) || among x (queue_held q2))))

      held_amid : (x : Key) → among x [] ≡ false → among x own ≡ false → among x held2 ≡ among x (queue_held q2)
      held_amid x o h = s.held_are x h

      apart : (x : Key) → among x own ≡ true → among x [] ≡ false
      apart x h = refl

      keys_then : AreKeys k3.keys (queue_awaited [] q3)
      keys_then = served_keys k2 k3 own [] held2 held3 q2 q3 waiting_is refl held_is before held_amid free apart r

      held_then : (x : Key) → among x held3 ≡ among x (queue_held q3)
      held_then x = held_is x ∙ among_without_all x own held2 ∙ decided (among x own) refl
        where
          decided : (b : Bool) → among x own ≡ b → (among x held2 && not (among x own)) ≡ among x (queue_held q2)
          decided true e = rw e (and_false (among x held2)) ∙ sym (free x e)
          decided false e = rw e (and_true (among x held2)) ∙ s.held_are x e

      -- the counts of the configuration
      abbrev after : Counts
      after = counts_after own (queue_awaited own q2) (queue_awaited [] q3) n2

      counts_then : k3.counts ≡ after
      counts_then =
          rekeyed_counts k2 k3 own (named q2.waiting held2) (named q3.waiting held3) own (queue_awaited own q2) (queue_awaited [] q3) r
          (λ x. s.keys_are x ∙ same x)
          keys_then
          (λ x h. (let b : AreKeysBut k2.keys own (named q2.waiting held2) = amid_but flat room own held2 n2 q2 k2 s in b.within x (s.keys_are x ∙ h)))
          (are_named k2 k3 own [] held2 held3 q2 q3 waiting_is refl held_is before held_amid free apart r)
          ∙ ap (λ (n : Counts). (let d : Counts = record n {
            primed = raised_times (primed_keys own (queue_awaited own q2) (queue_awaited [] q3)) n.primed;
            removed = raised_times (removed_keys own (queue_awaited own q2) (queue_awaited [] q3)) n.removed;
          } in d)) s.counts_are
        where
          same : (x : Key) → among x (queue_awaited own q2) ≡ (among x (queue_awaited own q2) && not (among x own))
          same x = among_awaited x own q2 ∙ sym (ap (λ (b : Bool). b && not (among x own)) (among_awaited x own q2) ∙ twice (among x (keys_of q2.waiting) || among x (queue_held q2)) (among x own))
            where
              twice : (a b : Bool) → ((a && not b) && not b) ≡ (a && not b)
              twice true true = refl
              twice true false = refl
              twice false b = refl

      stands_then : StandsAmid flat room [] after held3 q3 k3
      stands_then = record {
        procs_are = r.procs ∙ s.procs_are;
        nets_are = r.nets ∙ s.nets_are;
        signals = ap (λ (st : State). widths_of st.signals) r.state ∙ s.signals;
        keys_are = keys_then;
        held_are = λ x h. held_then x;
        counts_are = counts_then;
        writes = s.writes;
        room_is = all_fit own q2.waiting waiting3 q2.ready ready3 room waiting_is ready_is s.room_is;
        still = subst AreStill (sym waiting_is) (served_still own q2.waiting s.still);
      }

      pub event_fits : FitsQueue flat room held3 q3 k3
      event_fits = amid_fits flat room after held3 q3 k3 stands_then

      pub event_still : AreStill waiting3
      event_still = stands_then.still

      module _ (functions : List Function) (trace : Bool) (c : Rig) where
        abbrev setup : Setup
        setup = record { functions = functions; flat = flat; trace = trace }

        abbrev flush_of : List Key → State → After
        flush_of ks st = flushed_if setup (among key.ReadWrite ks) (rig_amid ks k.counts (taken ks q) st c)

        abbrev mid : Rig
        mid = rig_amid own n2 q2 k2.state c

        -- the event is the configuration's
        pub event_next : event_of setup (rig_at q k c) ≡ Some a.event
        event_next =
            event_same (procs setup) k.state (set_of (queue_awaited [] q)) k.keys
            (λ x. has_set (queue_awaited [] q) x ∙ sym (keys_awaited held q k (record { keys_are = f.keys_are; held_are = f.held_are }) x))
            ∙ ap (λ (ps : List Proc). event ps k.state k.keys) (sym f.procs_are)
            ∙ a.next

        after_is : (served own [] mid).rig ≡ rig_at q3 k3 c
        after_is =
            ap (counted own mid) (serve_keys_is own [] mid
            ∙ ap (λ (es : List Entry). rig_amid [] n2 (record q2 { ready = es; waiting = all_waiting own q2.waiting }) k2.state c) (sym ready_is)
            ∙ ap (λ (ws : List Waiting). rig_amid [] n2 (record q2 { ready = ready3; waiting = ws }) k2.state c) (sym waiting_is)
            ∙ ap (λ (st : State). rig_amid [] n2 q3 st c) (sym r.state))
            ∙ ap (λ (n : Counts). rig_amid [] n q3 k3.state c) (sym counts_then)

        same_flush : flush_of a.event.fired a.event.state ≡ flush_of own k1.state
        same_flush = ap (λ (ks : List Key). flush_of ks a.event.state) (sym own_is) ∙ ap (flush_of own) (sym a.done.state)

        module _ (leads : (flush_of own k1.state).rig ≡ mid) where
          -- the event leads there
          pub event_leads : (evented setup a.event (rig_at q k c)).rig ≡ (ended_if (is_due own q.deadline) (rig_at q3 k3 c)).rig
          event_leads =
              ap (λ (x : After). (ended_if (is_due a.event.fired q.deadline) (served a.event.fired [] x.rig).rig).rig) same_flush
              ∙ ap (λ (ks : List Key). (ended_if (is_due ks q.deadline) (served ks [] (flush_of own k1.state).rig).rig).rig) (sym own_is)
              ∙ ap (λ (d : Rig). (ended_if (is_due own q.deadline) (served own [] d).rig).rig) leads
              ∙ ap (λ (d : Rig). (ended_if (is_due own q.deadline) d).rig) after_is

          ended_lines : (b : Bool) (d : Rig) → (ended_if b d).lines ≡ []
          ended_lines true d = refl
          ended_lines false d = refl

          -- and its lines are these
          pub event_puts : {O : Type 0} (sink : SinkMeans O) (out : O) (time : ℕ) (f1 : Option SinkFault) (o1 : O) (f2 : Option SinkFault) (o2 : O) → time ≡ k.state.time
              → PutsOn sink None out (told_lines setup time m.change) f1 o1 → PutsOn sink f1 o1 (flush_of own k1.state).lines f2 o2
              → PutsOn sink None out (evented setup a.event (rig_at q k c)).lines f2 o2
          event_puts sink out time f1 o1 f2 o2 t first more =
              let told_are : told_lines setup time m.change ≡ told_lines setup k.state.time a.event.told = ap (λ (n : ℕ). told_lines setup n m.change) t ∙ ap (told_lines setup k.state.time) a.change_is in
              let end : Rig = (served a.event.fired [] (flush_of a.event.fired a.event.state).rig).rig in
              let flush : PutsOn sink f1 o1 (flush_of a.event.fired a.event.state).lines f2 o2 = subst (λ (x : After). PutsOn sink f1 o1 x.lines f2 o2) (sym same_flush) more in
              let serve : PutsOn sink f1 o1 ((flush_of a.event.fired a.event.state).lines ++ []) f2 o2
              = puts_on_then sink f1 o1 (flush_of a.event.fired a.event.state).lines f2 o2 [] f2 o2 flush (puts_on_none sink f2 o2) in
              let late : PutsOn sink f2 o2 (ended_if (is_due a.event.fired q.deadline) end).lines f2 o2
              = subst (λ (ls : List (List ℕ)). PutsOn sink f2 o2 ls f2 o2) (sym (ended_lines (is_due a.event.fired q.deadline) end)) (puts_on_none sink f2 o2) in
              puts_on_then sink None out (told_lines setup k.state.time a.event.told) f1 o1 (((flush_of a.event.fired a.event.state).lines ++ []) ++ (ended_if (is_due a.event.fired q.deadline) end).lines) f2 o2
              (subst (λ (ls : List (List ℕ)). PutsOn sink None out ls f1 o1) told_are first)
              (puts_on_then sink f1 o1 ((flush_of a.event.fired a.event.state).lines ++ []) f2 o2 (ended_if (is_due a.event.fired q.deadline) end).lines f2 o2 serve late)

-- The event is done: it leads there, whatever the rest of the configuration is, and its lines were put.
pub event_done : {O : Type 0} (sink : SinkMeans O) (t : Teller) (room : ℕ) (held : List Key) (q : Queue) (k k1 : Content) (f : FitsQueue t.flat.now room held q k) (still : AreStill q.waiting) (m : Moved) (a : Advances k m k1)
    (as_wide : widths_of k1.state.signals ≡ widths_of k.state.signals) (held2 : List Key) (q2 : Queue) (k2 k3 : Content) (held3 : List Key) (ready3 : List Entry) (waiting3 : List Waiting)
    (deadline_is : q2.deadline ≡ not_due (fired_keys m.fired) q.deadline) (planned_is : q2.planned ≡ not_due (fired_keys m.fired) q.planned) (staged_is : among key.ReadWrite (fired_keys m.fired) ≡ true → q2.staged ≡ [])
    (waiting_is : waiting3 ≡ all_waiting (fired_keys m.fired) q2.waiting) (held_is : AreAlike held3 (without_all (fired_keys m.fired) held2)) (ready_is : ready3 ≡ q2.ready ++ all_woken (fired_keys m.fired) q2.waiting)
    (r : Rekeyed k2 k3 (fired_keys m.fired) (named q2.waiting held2) (named waiting3 held3))
    (is_late : Bool) (time : ℕ) (out : O) (f1 : Option SinkFault) (o1 : O) (f2 : Option SinkFault) (o2 : O)
    → is_late ≡ is_due (fired_keys m.fired) q.deadline → time ≡ k.state.time
    → ((functions : List Function) → PutsOn sink None out (told_lines (setup_of functions t) time m.change) f1 o1)
    → ((functions : List Function) → Serves sink (flushed_if (setup_of functions t) (among key.ReadWrite (fired_keys m.fired))) t.flat.now room (fired_keys m.fired) k.counts
    (taken (fired_keys m.fired) q) k1 held2 q2 k2 f1 o1 f2 o2)
    → IsEvented sink t q k is_late (record q2 { ready = ready3; waiting = waiting3 }) k3 out f2 o2
event_done sink t room held q k k1 f still m a as_wide held2 q2 k2 k3 held3 ready3 waiting3 deadline_is planned_is staged_is waiting_is held_is ready_is r is_late time out f1 o1 f2 o2 late now told fl = record {
  event = a.event;
  next = λ functions c. event_next t.flat.now room held q k k1 f still m a as_wide (fl functions).after held2 q2 k2 (fl functions).stands k3 held3 ready3 waiting3 deadline_is planned_is staged_is waiting_is held_is ready_is r functions t.trace c;
  leads = λ functions c.
      event_leads t.flat.now room held q k k1 f still m a as_wide (fl functions).after held2 q2 k2 (fl functions).stands k3 held3 ready3 waiting3 deadline_is planned_is staged_is waiting_is held_is ready_is r functions t.trace c
      ((fl functions).leads c)
      ∙ ap (λ (b : Bool). (ended_if b (rig_at (record q2 { ready = ready3; waiting = waiting3 }) k3 c)).rig) (sym late);
  puts = λ functions c.
      event_puts t.flat.now room held q k k1 f still m a as_wide (fl functions).after held2 q2 k2 (fl functions).stands k3 held3 ready3 waiting3 deadline_is planned_is staged_is waiting_is held_is ready_is r functions t.trace c
      ((fl functions).leads c) sink out time f1 o1 f2 o2 now (told functions) ((fl functions).puts c);
}
