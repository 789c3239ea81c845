-- A write is done at once, and its keys are served.
use Rattle.std.proofs.Common.{◌≡◌, ℕ, ◌<◌, ◌==◌, ◌||◌, ◌&&◌, Bool, true, false, not, if◌then◌else◌, List, [], ◌∷◌, ◌++◌, length, Option, None, Some, get_or, refl, sym, ap, subst, ◌∙◌}
use Rattle.std.proofs.lemmas.List.{get_or-set_same}
use Rattle.std.specs.Prelude.{slice_set}
use Rattle.port_io.specs.Means.{SinkMeans}
use Rattle.port_io.specs.declared.ports.SinkFault.{SinkFault}
use Rattle.four_value.specs.declared.Digit.{Digit}
use Rattle.four_value.specs.declared.Digit.TheVariants.{Zero, One, X, Z}
use Rattle.four_value.specs.Vector.{same_digits}
use Rattle.gpi.specs.Content.{Content, Does}
use Rattle.gpi.specs.Design.{Proc}
use Rattle.gpi.specs.Events.{Event, edge_keys, force, hidden_at, put, put_over, release, release_over, show, stored_at, tells, unseen, value_at, with_hidden}
use Rattle.gpi.specs.Keys.{AreSame, Keys, has, among, holds, set_of, times_of, fired_of}
use Rattle.gpi.specs.State.{State, woken}
use Rattle.gpi.specs.Terms.{widths_of}
use Rattle.gpi.specs.declared.design.Flat.{Flat}
use Rattle.gpi.specs.declared.types.Counts.{Counts}
use Rattle.gpi.specs.declared.types.Fired.{Fired}
use Rattle.gpi.specs.declared.types.Key.{Key}
use Rattle.gpi.specs.declared.types.Key.TheVariants as key
use Rattle.gpi.specs.declared.types.Report.{Report}
use Rattle.gpi.specs.declared.types.SigId.{SigId}
use Rattle.gpi.specs.declared.types.Told.{Told}
use Rattle.gpi.specs.declared.types.Write.{Write}
use Rattle.gpi.specs.declared.types.Write.TheVariants.{Plain, Force, Freeze, Release}
use Rattle.gpi.proofs.SameKeys.{force_same, put_same, release_same}
use Rattle.run_view.specs.declared.signal_port.staged.Staged.{Staged}
use Rattle.test_meaning.specs.Body.BodyTrees.{Function}
use Rattle.await_tree.specs.WaitList.Counts.{counts_after, primed_keys, raised_times, removed_keys}
use Rattle.await_tree.specs.WaitList.Keys.{AreAlike, AreFired, AreKeys, AreKeysBut, Rekeyed, without_all}
use Rattle.await_tree.specs.WaitList.Waiting.{Waiting, all_waiting, all_woken, fired_keys, keys_of, named, phase_key, time_key}
use Rattle.await_tree.specs.declared.wait_list.ready.Entry.{Entry}
use Rattle.rig_model.specs.Run.Counts.{counted}
use Rattle.rig_model.specs.Run.Rig.{Rig, Setup, is_any, nets, procs, told_lines}
use Rattle.rig_model.specs.Run.Serve.{after_put, deposit, not_due, serve_keys, with_fired, written}
use Rattle.rig_model.specs.Parts.Fits.{IsSoundWrite, ahead}
use Rattle.rig_model.specs.Parts.Queue.{Queue, queue_awaited, queue_held, rig_amid}
use Rattle.run_state.specs.Queue.Still.{AreStill}
use Rattle.run_state.proofs.QueueLemmas.KeyLaws.{among-append, among_named, among_without_all}
use Rattle.run_state.proofs.QueueLemmas.Rekeys.{rekeyed_counts}
use Rattle.run_state.proofs.QueueLemmas.StillLaws.{served_still}
use Rattle.run_state.proofs.QueueLemmas.Tests.{and_false, left_of_and, right_of_and}
use Rattle.scheduler.specs.Amid.{IsAmidHeld, Serves, StandsAmid}
use Rattle.scheduler.specs.Fires.{IsEdge, PutFires}
use Rattle.scheduler.specs.Puts.{PutsOn}
use Rattle.scheduler.specs.Written.{written_in}
use Rattle.scheduler.proofs.FireLaws.{act_fires, told_back}
use Rattle.scheduler.proofs.ServeLaws.{ahead_both, all_fit, among_awaited, are_named, not_true, serve_keys_is, served_keys, were_named}
use Rattle.scheduler.proofs.SignalLaws.{is_inside}

-- ---- keys of edges

edge_phase : (b : Bool) (x : Key) → IsEdge x → among x (phase_key b) ≡ false
edge_phase true (key.Rise s) h = refl
edge_phase true (key.Fall s) h = refl
edge_phase true (key.Change s) h = refl
edge_phase true (key.At t) h = absurd h
edge_phase true key.ReadWrite h = absurd h
edge_phase true key.ReadOnly h = absurd h
edge_phase true key.NextStep h = absurd h
edge_phase false x h = refl

edge_time : (o : Option ℕ) (x : Key) → IsEdge x → among x (time_key o) ≡ false
edge_time (Some t) (key.Rise s) h = refl
edge_time (Some t) (key.Fall s) h = refl
edge_time (Some t) (key.Change s) h = refl
edge_time (Some t) (key.At u) h = absurd h
edge_time (Some t) key.ReadWrite h = absurd h
edge_time (Some t) key.ReadOnly h = absurd h
edge_time (Some t) key.NextStep h = absurd h
edge_time None x h = refl

-- the keys that the runner holds
pub among_held : (x : Key) (q : Queue) → among x (queue_held q) ≡ ((among x (phase_key (is_any q.staged)) || among x (time_key q.deadline)) || among x (time_key q.planned))
among_held x q =
    among-append x (phase_key (is_any q.staged) ++ time_key q.deadline) (time_key q.planned)
    ∙ ap (λ (b : Bool). b || among x (time_key q.planned)) (among-append x (phase_key (is_any q.staged)) (time_key q.deadline))

-- the runner holds no edge
edge_unheld : (q : Queue) (x : Key) → IsEdge x → among x (queue_held q) ≡ false
edge_unheld q x h = among_held x q ∙ rw (edge_phase (is_any q.staged) x h, edge_time q.deadline x h, edge_time q.planned x h) refl

-- no time is among edges
undue : (ks : List Key) (time : Option ℕ) → ((k : Key) → among k ks ≡ true → IsEdge k) → not_due ks time ≡ time
undue ks None h = refl
undue ks (Some t) h = decided (among (key.At t) ks) refl
  where
    decided : (b : Bool) → among (key.At t) ks ≡ b → not_due ks (Some t) ≡ Some t
    decided true e = absurd (h (key.At t) e)
    decided false e = rw e refl

-- ---- what the simulator is asked

held_times : (t : ℕ) (ks : List Key) → holds t (times_of ks) ≡ among (key.At t) ks
held_times t [] = refl
held_times t (key.At u ∷ ks) = ap (λ (b : Bool). (t == u) || b) (held_times t ks)
held_times t (key.Rise s ∷ ks) = held_times t ks
held_times t (key.Fall s ∷ ks) = held_times t ks
held_times t (key.Change s ∷ ks) = held_times t ks
held_times t (key.ReadWrite ∷ ks) = held_times t ks
held_times t (key.ReadOnly ∷ ks) = held_times t ks
held_times t (key.NextStep ∷ ks) = held_times t ks

-- the set of a list has the keys of the list
pub has_set : (ks : List Key) → AreKeys (set_of ks) ks
has_set ks (key.At t) = held_times t ks
has_set ks (key.Rise s) = refl
has_set ks (key.Fall s) = refl
has_set ks (key.Change s) = refl
has_set ks key.ReadWrite = refl
has_set ks key.ReadOnly = refl
has_set ks key.NextStep = refl

-- ---- the change that a write tells

same_self : (xs : List Digit) → same_digits xs xs ≡ true
same_self [] = refl
same_self (Zero ∷ xs) = same_self xs
same_self (One ∷ xs) = same_self xs
same_self (X ∷ xs) = same_self xs
same_self (Z ∷ xs) = same_self xs

-- the change of a signal that showed the one value and shows the other
abbrev shown_change : SigId → List Digit → List Digit → Option Told
shown_change sig old new = if same_digits old new then None else Some (record { sig = sig; bits = new })

unchanged : (sig : SigId) (ds : List Digit) → shown_change sig ds ds ≡ None
unchanged sig ds = rw (same_self ds) refl

changed : (sig : SigId) (old new : List Digit) → same_digits old new ≡ false → shown_change sig old new ≡ Some (record { sig = sig; bits = new })
changed sig old new h = rw h refl

-- what a write leaves where the value of its signal changes, and where it doesn't
abbrev change_by : Bool → List Proc → State → Keys → Report → Event
change_by b ps s keys c =
    if b then unseen s else record {
      state = record s { signals = slice_set s.signals c.sig.0 c.after; active = s.active ++ woken 0 ps (c ∷ []) s.active };
      told = tells c;
      fired = edge_keys c keys;
    }

-- what is told is the change of the signal from the value that it showed
abbrev TellsChange : State → SigId → Event → Type 0
TellsChange s sig e = e.told ≡ shown_change sig (value_at s sig) (value_at e.state sig)

module _ (ps : List Proc) (s : State) (keys : Keys) (sig : SigId) (inside : sig.0 < length s.signals) where
  show_tells : (bits : List Digit) → TellsChange s sig (show ps s keys sig bits)
  show_tells bits = by_test (same_digits (value_at s sig) bits) refl
    where
      by_test : (b : Bool) → same_digits (value_at s sig) bits ≡ b → TellsChange s sig (change_by b ps s keys (record { sig = sig; before = value_at s sig; after = bits }))
      by_test true h = sym (unchanged sig (value_at s sig))
      by_test false h =
          sym (changed sig (value_at s sig) bits h) ∙ ap (shown_change sig (value_at s sig)) (sym (get_or-set_same s.signals sig.0 bits [] inside))

  put_over_tells : (bits : List Digit) (o : Option (List Digit)) → TellsChange s sig (put_over o ps s keys sig bits)
  put_over_tells bits None = show_tells bits
  put_over_tells bits (Some ds) = sym (unchanged sig (value_at s sig))

-- where the hidden value alone has changed before
hidden_tells : (ps : List Proc) (s : State) (keys : Keys) (sig : SigId) (o : Option (List Digit)) (bits : List Digit) → sig.0 < length s.signals
    → TellsChange s sig (show ps (with_hidden s sig o) keys sig bits)
hidden_tells ps s keys sig o bits inside = show_tells ps (with_hidden s sig o) keys sig inside bits

release_tells : (ps : List Proc) (s : State) (keys : Keys) (sig : SigId) (o : Option (List Digit)) (net : Bool) → sig.0 < length s.signals
    → TellsChange s sig (release_over o net ps s keys sig)
release_tells ps s keys sig None net inside = sym (unchanged sig (value_at s sig))
release_tells ps s keys sig (Some ds) true inside = hidden_tells ps s keys sig None ds inside
release_tells ps s keys sig (Some ds) false inside = sym (unchanged sig (value_at s sig))

write_tells : (k : Content) (sig : SigId) → sig.0 < length k.state.signals → (act : Write) → TellsChange k.state sig (written_in k sig act)
write_tells k sig inside (Plain bits) = put_over_tells k.procs k.state k.keys sig inside bits (hidden_at k.state sig)
write_tells k sig inside (Force bits) = hidden_tells k.procs k.state k.keys sig (Some (stored_at k.state sig)) bits inside
write_tells k sig inside Freeze = hidden_tells k.procs k.state k.keys sig (Some (stored_at k.state sig)) (value_at k.state sig) inside
write_tells k sig inside Release = release_tells k.procs k.state k.keys sig (hidden_at k.state sig) (get_or k.nets sig.0 false) inside

-- the lines of the change that a write tells
pub told_same : (setup : Setup) (k k1 : Content) (sig : SigId) (act : Write) (old new : List Digit) (time : ℕ) (change : Option Told) → sig.0 < length k.state.signals → time ≡ k.state.time
    → old ≡ value_at k.state sig → new ≡ value_at k1.state sig → k1.state ≡ (written_in k sig act).state
    → change ≡ (if same_digits old new then None else Some (record { sig = sig; bits = new }))
    → told_lines setup time change ≡ told_lines setup k.state.time (written_in k sig act).told
told_same setup k k1 sig act old new time change inside t o n done h =
    ap (λ (m : ℕ). told_lines setup m change) t
    ∙ ap (told_lines setup k.state.time)
    (h
    ∙ ap (λ (ds : List Digit). shown_change sig ds new) o
    ∙ ap (shown_change sig (value_at k.state sig)) (n ∙ ap (λ (s : State). value_at s sig) done)
    ∙ sym (write_tells k sig inside act))

-- ---- what the simulator does is what is done for the configuration

written_is : (setup : Setup) (k : Content) (keys : Keys) (sig : SigId) → k.procs ≡ procs setup → k.nets ≡ nets setup → AreSame k.keys keys → (act : Write)
    → written_in k sig act ≡ written setup k.state keys sig act
written_is setup k keys sig p n h (Plain bits) =
    ap (λ (ps : List Proc). put ps k.state k.keys sig bits) p ∙ put_same (procs setup) k.state k.keys keys h sig bits
written_is setup k keys sig p n h (Force bits) =
    ap (λ (ps : List Proc). force ps k.state k.keys sig bits) p ∙ force_same (procs setup) k.state k.keys keys h sig bits
written_is setup k keys sig p n h Freeze =
    ap (λ (ps : List Proc). force ps k.state k.keys sig (value_at k.state sig)) p ∙ force_same (procs setup) k.state k.keys keys h sig (value_at k.state sig)
written_is setup k keys sig p n h Release =
    ap (λ (ps : List Proc). release ps k.nets k.state k.keys sig) p
    ∙ ap (λ (ns : List Bool). release (procs setup) ns k.state k.keys sig) n
    ∙ release_same (procs setup) (nets setup) k.state k.keys keys h sig

-- ---- registered keys

named_unless : (w h qh o : Bool) → (o ≡ false → h ≡ qh) → ((w || qh) && not o) ≡ true → (w || h) ≡ true
named_unless true h qh o same m = refl
named_unless false h qh o same m = same (not_true o (right_of_and qh (not o) m)) ∙ left_of_and qh (not o) m

fired_unless : (w h qh o : Bool) → (o ≡ false → h ≡ qh) → (w || h) ≡ true → ((w || qh) && not o) ≡ false → o ≡ true
fired_unless w h qh true same m n = refl
fired_unless true h qh false same m n = absurd (let z : true ≡ false = n in cc)
fired_unless false h qh false same m n = absurd (let e : h ≡ qh = same refl in let z : qh ≡ false = sym (yes qh) ∙ n in cc)
  where
    yes : (b : Bool) → (b && true) ≡ b
    yes true = refl
    yes false = refl

module _ (flat : Flat) (room : ℕ) (fired held : List Key) (counts : Counts) (q : Queue) (k : Content) (s : StandsAmid flat room fired counts held q k) where
  has_is : (x : Key) → has x k.keys ≡ ((among x (keys_of q.waiting) || among x (queue_held q)) && not (among x fired))
  has_is x = s.keys_are x ∙ among_awaited x fired q

  -- no key is registered that is still to be served
  pub unregistered : (x : Key) → among x fired ≡ true → has x k.keys ≡ false
  unregistered x m = has_is x ∙ rw m (and_false (among x (keys_of q.waiting) || among x (queue_held q)))

  pub unfired : (x : Key) → has x k.keys ≡ true → among x fired ≡ false
  unfired x m = not_true (among x fired) (right_of_and (among x (keys_of q.waiting) || among x (queue_held q)) (not (among x fired)) (sym (has_is x) ∙ m))

  -- the registered keys are the named ones, but for those that are still to be served
  pub amid_but : AreKeysBut k.keys fired (named q.waiting held)
  amid_but = record {
    within = λ x m. among_named x q.waiting held ∙ named_unless (among x (keys_of q.waiting)) (among x held) (among x (queue_held q)) (among x fired) (s.held_are x) (sym (has_is x) ∙ m);
    rest = λ x m n. fired_unless (among x (keys_of q.waiting)) (among x held) (among x (queue_held q)) (among x fired) (s.held_are x) (sym (among_named x q.waiting held) ∙ m) (sym (has_is x) ∙ n);
  }

-- the others may be more
pub but_others : (keys : Keys) (a b ks : List Key) → ((x : Key) → among x a ≡ true → among x b ≡ true) → AreKeysBut keys a ks → AreKeysBut keys b ks
but_others keys a b ks more p = record { within = p.within; rest = λ x m h. more x (p.rest x m h) }

-- keys leave the registered ones, and are named on
pub but_fewer : (keys keys' : Keys) (gone others ks : List Key) → ((x : Key) → has x keys' ≡ (has x keys && not (among x gone))) → AreKeysBut keys others ks → AreKeysBut keys' (gone ++ others) ks
but_fewer keys keys' gone others ks d b = record {
  within = λ x h. b.within x (left_of_and (has x keys) (not (among x gone)) (sym (d x) ∙ h));
  rest = λ x m h. among-append x gone others ∙ decided x (among x gone) refl m h;
}
  where
    had : (a : Bool) → (a && true) ≡ false → a ≡ false
    had true h = h
    had false h = refl

    decided : (x : Key) (g : Bool) → among x gone ≡ g → among x ks ≡ true → has x keys' ≡ false → (among x gone || among x others) ≡ true
    decided x true g m h = rw g refl
    decided x false g m h = rw g (b.rest x m (had (has x keys) (sym (d x ∙ ap (λ (c : Bool). has x keys && not c) g) ∙ h)))

-- ---- before the keys are served

-- the write is done, and its keys are told
module _ (flat : Flat) (room : ℕ) (held : List Key) (q : Queue) (k k1 : Content) (write : Staged) (fired : Fired)
    (fired_is : fired ≡ fired_of (written_in k write.sig write.act).fired) (done : Does k (written_in k write.sig write.act) k1)
    (as_wide : widths_of k1.state.signals ≡ widths_of k.state.signals) where
  abbrev e : Event
  e = written_in k write.sig write.act

  fires : PutFires k.keys write.sig e
  fires = act_fires k write.sig write.act

  told_keys : fired_keys fired ≡ e.fired
  told_keys = ap fired_keys fired_is ∙ told_back e.fired fires.few

  told_among : (x : Key) → among x (fired_keys fired) ≡ among x e.fired
  told_among x = ap (among x) told_keys

  gone : (x : Key) → has x k1.keys ≡ (has x k.keys && not (among x (fired_keys fired)))
  gone x = done.keys x ∙ ap (λ (ks : List Key). has x k.keys && not (among x ks)) (sym told_keys)

  -- what the waiting part asks before it serves them
  pub put_but : IsAmidHeld flat room held q k → AreKeysBut k1.keys (fired_keys fired ++ held) (named q.waiting held)
  put_but a =
      but_fewer k.keys k1.keys (fired_keys fired) held (named q.waiting held) gone
      (but_others k.keys a.fired held (named q.waiting held) a.covered (amid_but flat room a.fired held a.amid.counts q k a.amid.stands))

  pub put_fired : IsAmidHeld flat room held q k → IsSoundWrite flat.signals write → AreFired k1 (fired_keys fired)
  put_fired a sound = record {
    apart = rw told_keys fires.apart;
    out = λ x m. gone x ∙ rw m (and_false (has x k.keys));
    signals = λ x m. fires.signals k1 (is_inside k1.state.signals flat.signals write.sig (as_wide ∙ a.amid.stands.signals) sound.0) x (sym (told_among x) ∙ m);
  }

-- ---- its keys are served

module _ (flat : Flat) (room : ℕ) (held held' : List Key) (q : Queue) (k k1 k2 : Content) (write : Staged) (fired : Fired) (ready' : List Entry) (waiting' : List Waiting)
    (fired_is : fired ≡ fired_of (written_in k write.sig write.act).fired) (done : Does k (written_in k write.sig write.act) k1)
    (as_wide : widths_of k1.state.signals ≡ widths_of k.state.signals)
    (waiting_is : waiting' ≡ all_waiting (fired_keys fired) q.waiting) (held_is : AreAlike held' (without_all (fired_keys fired) held))
    (ready_is : ready' ≡ q.ready ++ all_woken (fired_keys fired) q.waiting) (r : Rekeyed k1 k2 (fired_keys fired) (named q.waiting held) (named waiting' held')) where
  abbrev own : Event
  own = written_in k write.sig write.act

  abbrev q' : Queue
  q' = record q { ready = ready'; waiting = waiting' }

  own_fires : PutFires k.keys write.sig own
  own_fires = act_fires k write.sig write.act

  keys_are : fired_keys fired ≡ own.fired
  keys_are = ap fired_keys fired_is ∙ told_back own.fired own_fires.few

  own_among : (x : Key) → among x (fired_keys fired) ≡ true → among x own.fired ≡ true
  own_among x m = ap (among x) (sym keys_are) ∙ m

  left : (x : Key) → has x k1.keys ≡ (has x k.keys && not (among x (fired_keys fired)))
  left x = done.keys x ∙ ap (λ (ks : List Key). has x k.keys && not (among x ks)) (sym keys_are)

  free : (x : Key) → among x (fired_keys fired) ≡ true → among x (queue_held q) ≡ false
  free x m = edge_unheld q x (own_fires.edges x (own_among x m))

  module _ (others : List Key) (counts : Counts) (s : StandsAmid flat room others counts held q k) where
    apart : (x : Key) → among x (fired_keys fired) ≡ true → among x others ≡ false
    apart x m = unfired flat room others held counts q k s x (own_fires.there x (own_among x m))

    held_amid : (x : Key) → among x others ≡ false → among x (fired_keys fired) ≡ false → among x held ≡ among x (queue_held q)
    held_amid x o f = s.held_are x o

    before : (x : Key) → has x k1.keys ≡ (among x (queue_awaited others q) && not (among x (fired_keys fired)))
    before x = left x ∙ ap (λ (b : Bool). b && not (among x (fired_keys fired))) (s.keys_are x)

    -- the runner holds on what it held
    pub put_held : AreAlike held' held
    put_held x = held_is x ∙ among_without_all x (fired_keys fired) held ∙ decided (among x (fired_keys fired)) refl
      where
        decided : (f : Bool) → among x (fired_keys fired) ≡ f → (among x held && not (among x (fired_keys fired))) ≡ among x held
        decided true m = rw (s.held_are x (apart x m) ∙ free x m) refl
        decided false m = rw m (yes (among x held))
          where
            yes : (b : Bool) → (b && true) ≡ b
            yes true = refl
            yes false = refl

    keys_then : AreKeys k2.keys (queue_awaited others q')
    keys_then = served_keys k1 k2 (fired_keys fired) others held held' q q' waiting_is refl held_is before held_amid free apart r

    -- the counts of the configuration
    abbrev after : Counts
    after = counts_after own.fired (queue_awaited others q) (queue_awaited others q') counts

    counted_as : k2.counts ≡ counts_after own.fired (queue_awaited others q) (queue_awaited others q') k.counts
    counted_as =
        rekeyed_counts k1 k2 (fired_keys fired) (named q.waiting held) (named q'.waiting held') own.fired (queue_awaited others q) (queue_awaited others q') r
        (λ x. done.keys x ∙ ap (λ (b : Bool). b && not (among x own.fired)) (s.keys_are x))
        keys_then
        (were_named k1 k2 (fired_keys fired) others held held' q q' waiting_is refl held_is before held_amid free apart r)
        (are_named k1 k2 (fired_keys fired) others held held' q q' waiting_is refl held_is before held_amid free apart r)
        ∙ ap (λ (n : Counts). (let d : Counts = record n {
          primed = raised_times (primed_keys own.fired (queue_awaited others q) (queue_awaited others q')) n.primed;
          removed = raised_times (removed_keys own.fired (queue_awaited others q) (queue_awaited others q')) n.removed;
        } in d)) done.counts

    counts_then : k2.counts ≡ ahead others after
    counts_then =
        counted_as
        ∙ ap (counts_after own.fired (queue_awaited others q) (queue_awaited others q')) s.counts_are
        ∙ ahead_both own.fired others (record after { fired = counts.fired })

    stands_then : StandsAmid flat room others after held' q' k2
    stands_then = record {
      procs_are = r.procs ∙ done.procs ∙ s.procs_are;
      nets_are = r.nets ∙ done.nets ∙ s.nets_are;
      signals = ap (λ (st : State). widths_of st.signals) r.state ∙ as_wide ∙ s.signals;
      keys_are = keys_then;
      held_are = λ x o. put_held x ∙ s.held_are x o;
      counts_are = counts_then;
      writes = s.writes;
      room_is = all_fit (fired_keys fired) q.waiting waiting' q.ready ready' room waiting_is ready_is s.room_is;
      still = subst AreStill (sym waiting_is) (served_still (fired_keys fired) q.waiting s.still);
    }

    module _ (functions : List Function) (trace : Bool) where
      abbrev setup : Setup
      setup = record { functions = functions; flat = flat; trace = trace }

      -- a write does what it does for the configuration
      put_is : own ≡ written setup k.state (set_of (queue_awaited others q)) write.sig write.act
      put_is = written_is setup k (set_of (queue_awaited others q)) write.sig s.procs_are s.nets_are (λ x. s.keys_are x ∙ sym (has_set (queue_awaited others q) x)) write.act

      module _ (c : Rig) where
        abbrev begun : Rig
        begun = rig_amid others counts q k.state c

        abbrev amid_of : List Entry → List Waiting → Option ℕ → Option ℕ → State → Rig
        amid_of es ws d p st = rig_amid others counts (record q { ready = es; waiting = ws; deadline = d; planned = p }) st c

        served_rig : serve_keys own.fired others (with_fired own.fired (record begun { sim = own.state })) ≡ rig_amid others counts q' k2.state c
        served_rig =
            serve_keys_is own.fired others (with_fired own.fired (record begun { sim = own.state }))
            ∙ ap (λ (d : Option ℕ). amid_of (q.ready ++ all_woken own.fired q.waiting) (all_waiting own.fired q.waiting) d (not_due own.fired q.planned) own.state) (undue own.fired q.deadline own_fires.edges)
            ∙ ap (λ (p : Option ℕ). amid_of (q.ready ++ all_woken own.fired q.waiting) (all_waiting own.fired q.waiting) q.deadline p own.state) (undue own.fired q.planned own_fires.edges)
            ∙ ap (λ (ks : List Key). amid_of (q.ready ++ all_woken ks q.waiting) (all_waiting ks q.waiting) q.deadline q.planned own.state) (sym keys_are)
            ∙ ap (λ (es : List Entry). amid_of es (all_waiting (fired_keys fired) q.waiting) q.deadline q.planned own.state) (sym ready_is)
            ∙ ap (λ (ws : List Waiting). amid_of ready' ws q.deadline q.planned own.state) (sym waiting_is)
            ∙ ap (λ (st : State). rig_amid others counts q' st c) (sym (r.state ∙ done.state))

        put_leads : (after_put setup own begun).rig ≡ rig_amid others after q' k2.state c
        put_leads = ap (λ (d : Rig). counted own.fired begun d) served_rig

        pub deposit_leads : (deposit setup write.sig write.act begun).rig ≡ rig_amid others after q' k2.state c
        deposit_leads = ap (λ (x : Event). (after_put setup x begun).rig) (sym put_is) ∙ put_leads

        pub deposit_lines : told_lines setup k.state.time own.told ≡ (deposit setup write.sig write.act begun).lines
        deposit_lines = ap (λ (x : Event). (after_put setup x begun).lines) put_is

    -- the write is done, its change is told, and its keys are served
    pub put_serves : {O : Type 0} (sink : SinkMeans O) (functions : List Function) (trace : Bool) (fault : Option SinkFault) (out : O) (fault' : Option SinkFault) (out' : O)
        → PutsOn sink fault out (told_lines (record { functions = functions; flat = flat; trace = trace }) k.state.time own.told) fault' out'
        → Serves sink (deposit (record { functions = functions; flat = flat; trace = trace }) write.sig write.act) flat room others counts q k held' q' k2 fault out fault' out'
    put_serves sink functions trace fault out fault' out' p = record {
      after = after;
      stands = stands_then;
      leads = deposit_leads functions trace;
      puts = λ c. subst (λ (ls : List (List ℕ)). PutsOn sink fault out ls fault' out') (deposit_lines functions trace c) p;
    }
