-- What staging, times and the drop of all do, each as one effect.
use Rattle.std.proofs.Common.{◌≡◌, ◌+◌, ◌≤◌, ℕ, Bool, true, false, not, List, [], ◌∷◌, length, refl, sym, ap, ◌∙◌, subst, arith}
use Rattle.std.specs.Prelude.{Option, None, Some}
use Rattle.gpi.specs.Content.{Content}
use Rattle.gpi.specs.Keys.{has, among, same_key}
use Rattle.gpi.specs.State.{State}
use Rattle.gpi.specs.Terms.{widths_of}
use Rattle.gpi.specs.declared.design.Flat.{Flat}
use Rattle.gpi.specs.declared.types.Key.{Key}
use Rattle.gpi.specs.declared.types.Key.TheVariants.{At, ReadWrite}
use Rattle.gpi.specs.declared.types.SigId.{SigId}
use Rattle.gpi.specs.declared.types.Write.{Write}
use Rattle.run_view.specs.SignalPort.Staging.{restaged}
use Rattle.run_view.specs.declared.signal_port.staged.Staged.{Staged}
use Rattle.await_tree.specs.WaitList.Keys.{AreAlike, AreKeys, Rekeyed, without}
use Rattle.await_tree.specs.WaitList.Waiting.{Waiting, held_keys, keys_of, named}
use Rattle.await_tree.specs.declared.wait_list.ready.Entry.{Entry}
use Rattle.rig_model.specs.Run.Rig.{is_any}
use Rattle.rig_model.specs.Parts.Fits.{AreSoundWrites, FitsQueue, IsSoundWrite, KeepsQueue}
use Rattle.rig_model.specs.Parts.Queue.{Queue, Leads, nothing_queued, queue_awaited, queue_held, rig_amid}
use Rattle.run_state.specs.Queue.Effects.{dropping, giving_up, planning, staging}
use Rattle.run_state.specs.Queue.Sheds.{Sheds}
use Rattle.run_state.proofs.QueueLemmas.Tests.{left_of_and, or_left, or_right}
use Rattle.run_state.proofs.QueueLemmas.KeyLaws.{among-without, among_named, first, named_alike, named_less}
use Rattle.run_state.proofs.QueueLemmas.CountLaws.{counts_still}
use Rattle.run_state.proofs.QueueLemmas.Rekeys.{awaited_named, counted_leads, rekeyed_keys}
use Rattle.run_state.proofs.QueueLemmas.HeldLaws.{alike_there, alike_trans, any_restaged, deadline_held, phase_held, planned_held, staged_held, without_again, without_alike}
use Rattle.run_state.proofs.QueueLemmas.WaitLaws.{held_more}
use Rattle.run_state.proofs.QueueLemmas.FitLaws.{fits_room, sheds_of, sound_restaged}
use Rattle.run_state.proofs.QueueLemmas.CallLaws.{holds_fits, holds_keeps, holds_leads, sheds_keeps, sheds_leads, with_tasks}

-- with these writes staged, and these tasks waiting
abbrev pub with_writes : List Staged → List Waiting → Queue → Queue
with_writes ss ws q = record q { staged = ss; waiting = ws }

-- with no deadline, or no planned start, and these tasks waiting
abbrev pub without_deadline : List Waiting → Queue → Queue
without_deadline ws q = record q { deadline = None; waiting = ws }

abbrev pub without_planned : List Waiting → Queue → Queue
without_planned ws q = record q { planned = None; waiting = ws }

-- ---- the first write is staged

-- the phase isn't held where nothing is staged
pub phase_free : (held : List Key) (q : Queue) (k : Content) → KeepsQueue held q k → q.staged ≡ [] → among ReadWrite held ≡ false
phase_free held q k p e = p.held_are ReadWrite ∙ phase_held (is_any q.staged) q.deadline q.planned ∙ ap is_any e

module _ (q : Queue) (ss : List Staged) (ws : List Waiting) (sig : SigId) (act : Write) (held held' : List Key) (k k' : Content) (p : KeepsQueue held q k)
    (none : q.staged ≡ []) (s : ss ≡ restaged sig act q.staged) (w : ws ≡ q.waiting) (more : AreAlike held' (ReadWrite ∷ held))
    (r : Rekeyed k k' (ReadWrite ∷ []) (named q.waiting held) (named ws held')) where
  first_alike : AreAlike (queue_held (with_writes ss ws q)) (ReadWrite ∷ queue_held q)
  first_alike x =
      ap (λ (b : Bool). among x (held_keys b q.deadline q.planned)) (ap is_any s ∙ any_restaged sig act q.staged)
      ∙ staged_held q.deadline q.planned x
      ∙ ap (λ (ts : List Staged). among x (ReadWrite ∷ held_keys (is_any ts) q.deadline q.planned)) (sym none)

  pub first_keeps : KeepsQueue held' (with_writes ss ws q) k'
  first_keeps = holds_keeps q (with_writes ss ws q) ReadWrite held held' k k' p w more first_alike r

  pub first_leads : Leads (staging sig act) q k (with_writes ss ws q) k'
  first_leads = holds_leads q (with_writes ss ws q) ReadWrite held held' k k' p w more first_alike r
      (λ c. record c { staged = restaged sig act c.staged })
      (λ c. ap (λ (ts : List Staged). rig_amid [] k.counts (with_writes ts q.waiting q) k.state c) (sym s)
      ∙ ap (λ (vs : List Waiting). rig_amid [] k.counts (with_writes ss vs q) k.state c) (sym w))

  pub first_fits : (flat : Flat) (room : ℕ) → IsSoundWrite flat.signals (record { sig = sig; act = act }) → FitsQueue flat room held q k
      → FitsQueue flat room held' (with_writes ss ws q) k'
  first_fits flat room sound f = holds_fits q (with_writes ss ws q) ReadWrite held held' k k' p w more first_alike r flat room f refl
      (subst (AreSoundWrites flat.signals) (sym s) (sound_restaged flat.signals sig act q.staged sound f.writes))

-- the phase is held, and is let go again where memory is wanting for the write
module _ (q : Queue) (ws : List Waiting) (held held1 : List Key) (k k1 : Content) (p : KeepsQueue held q k) (w : ws ≡ q.waiting) (more : AreAlike held1 (ReadWrite ∷ held))
    (r : Rekeyed k k1 (ReadWrite ∷ []) (named q.waiting held) (named ws held1)) where
  pub phase_keys : AreKeys k1.keys (named ws held1)
  phase_keys = rekeyed_keys k k1 (ReadWrite ∷ []) (named q.waiting held) (named ws held1) p.keys_are
      (λ y m. held_more y ReadWrite q.waiting held held1 more (sym (ap (λ (vs : List Waiting). among y (named vs held1)) w) ∙ m)) r

  pub phase_registered : has ReadWrite k1.keys ≡ true
  phase_registered =
      phase_keys ReadWrite ∙ among_named ReadWrite ws held1
      ∙ or_right (among ReadWrite (keys_of ws)) (among ReadWrite held1) (more ReadWrite ∙ first ReadWrite held)

  module _ (ss : List Staged) (vs : List Waiting) (held2 : List Key) (k2 : Content) (none : among ReadWrite held ≡ false) (s : ss ≡ q.staged) (v : vs ≡ ws)
      (a : AreAlike held2 (without ReadWrite held1)) (b : Rekeyed k1 k2 [] (named ws held1) (named vs held2)) where
    again_less : (y : Key) → among y held2 ≡ true → among y held1 ≡ true
    again_less y m = left_of_and (among y held1) (not (same_key ReadWrite y)) (sym (among-without y ReadWrite held1) ∙ sym (a y) ∙ m)

    again_named : (y : Key) → among y (named vs held2) ≡ true → among y (named ws held1) ≡ true
    again_named y m = named_less y ws ws held1 held2 (λ e. e) (again_less y) (sym (ap (λ (us : List Waiting). among y (named us held2)) v) ∙ m)

    pub again_keeps : KeepsQueue held2 (with_writes ss vs q) k2
    again_keeps = record {
      keys_are = rekeyed_keys k1 k2 [] (named ws held1) (named vs held2) phase_keys (λ y m. or_left (among y (named ws held1)) false (again_named y m)) b;
      held_are = λ y. without_again ReadWrite held held1 held2 none more a y ∙ p.held_are y ∙ ap (λ (ts : List Staged). among y (held_keys (is_any ts) q.deadline q.planned)) (sym s);
    }

    pub again_fits : (flat : Flat) (room : ℕ) → FitsQueue flat room held q k → FitsQueue flat room held2 (with_writes ss vs q) k2
    again_fits flat room f = record {
      procs_are = b.procs ∙ r.procs ∙ f.procs_are;
      nets_are = b.nets ∙ r.nets ∙ f.nets_are;
      signals = ap (λ (t : State). widths_of t.signals) (b.state ∙ r.state) ∙ f.signals;
      keys_are = again_keeps.keys_are;
      held_are = again_keeps.held_are;
      writes = subst (AreSoundWrites flat.signals) (sym s) f.writes;
      room_is = subst (λ (us : List Waiting). length q.ready + length us ≤ room) (sym (v ∙ w)) f.room_is;
    }

-- ---- a further write is staged

module _ (q : Queue) (ss : List Staged) (sig : SigId) (act : Write) (held : List Key) (k : Content) (p : KeepsQueue held q k)
    (some : is_any q.staged ≡ true) (s : ss ≡ restaged sig act q.staged) where
  more_held : queue_held (with_writes ss q.waiting q) ≡ queue_held q
  more_held = ap (λ (b : Bool). held_keys b q.deadline q.planned) (ap is_any s ∙ any_restaged sig act q.staged ∙ sym some)

  pub more_keeps : KeepsQueue held (with_writes ss q.waiting q) k
  more_keeps = record { keys_are = p.keys_are; held_are = λ x. p.held_are x ∙ ap (among x) (sym more_held) }

  pub more_leads : Leads (staging sig act) q k (with_writes ss q.waiting q) k
  more_leads = counted_leads (λ c. record c { staged = restaged sig act c.staged }) q (with_writes ss q.waiting q) k k refl
      (sym (counts_still (queue_awaited [] q) (queue_awaited [] (with_writes ss q.waiting q)) k.counts
      (λ x. ap (among x) (awaited_named q ∙ ap (named q.waiting) (sym more_held) ∙ sym (awaited_named (with_writes ss q.waiting q))))))
      (λ c. ap (λ (ts : List Staged). rig_amid [] k.counts (with_writes ts q.waiting q) k.state c) (sym s))

  pub more_fits : (flat : Flat) (room : ℕ) → IsSoundWrite flat.signals (record { sig = sig; act = act }) → FitsQueue flat room held q k
      → FitsQueue flat room held (with_writes ss q.waiting q) k
  more_fits flat room sound f = record {
    procs_are = f.procs_are;
    nets_are = f.nets_are;
    signals = f.signals;
    keys_are = more_keeps.keys_are;
    held_are = more_keeps.held_are;
    writes = subst (AreSoundWrites flat.signals) (sym s) (sound_restaged flat.signals sig act q.staged sound f.writes);
    room_is = f.room_is;
  }

-- ---- times

module _ (q q1 : Queue) (due : ℕ) (held held' : List Key) (k k' : Content) (p : KeepsQueue held q k) (e : q1 ≡ q) (more : AreAlike held' (At due ∷ held))
    (r : Rekeyed k k' (At due ∷ []) (named q.waiting held) (named q1.waiting held')) where
  same_waiting : q1.waiting ≡ q.waiting
  same_waiting = ap (λ (o : Queue). o.waiting) e

  same_ready : q1.ready ≡ q.ready
  same_ready = ap (λ (o : Queue). o.ready) e

  -- a deadline is set
  module _ (none : q.deadline ≡ None) where
    deadline_alike : AreAlike (queue_held (record q1 { deadline = Some due })) (At due ∷ queue_held q)
    deadline_alike x =
        ap (λ (o : Queue). among x (held_keys (is_any o.staged) (Some due) o.planned)) e
        ∙ deadline_held (is_any q.staged) due q.planned x
        ∙ ap (λ (d : Option ℕ). among x (At due ∷ held_keys (is_any q.staged) d q.planned)) (sym none)

    pub deadline_keeps : KeepsQueue held' (record q1 { deadline = Some due }) k'
    deadline_keeps = holds_keeps q (record q1 { deadline = Some due }) (At due) held held' k k' p same_waiting more deadline_alike r

    pub deadline_leads : Leads (giving_up due) q k (record q1 { deadline = Some due }) k'
    deadline_leads = holds_leads q (record q1 { deadline = Some due }) (At due) held held' k k' p same_waiting more deadline_alike r
        (λ c. record c { deadline = Some due }) (λ c. ap (λ (o : Queue). rig_amid [] k.counts (record o { deadline = Some due }) k.state c) (sym e))

    pub deadline_fits : (flat : Flat) (room room' : ℕ) → room' ≡ room → FitsQueue flat room held q k → FitsQueue flat room' held' (record q1 { deadline = Some due }) k'
    deadline_fits flat room room' l f = fits_room flat room room' held' (record q1 { deadline = Some due }) k' l (holds_fits q (record q1 { deadline = Some due }) (At due) held held' k k' p same_waiting more deadline_alike r flat room f same_ready
        (subst (λ (o : Queue). AreSoundWrites flat.signals o.staged) (sym e) f.writes))

  -- a start is planned
  module _ (none : q.planned ≡ None) where
    planned_alike : AreAlike (queue_held (record q1 { planned = Some due })) (At due ∷ queue_held q)
    planned_alike x =
        ap (λ (o : Queue). among x (held_keys (is_any o.staged) o.deadline (Some due))) e
        ∙ planned_held (is_any q.staged) due q.deadline x
        ∙ ap (λ (d : Option ℕ). among x (At due ∷ held_keys (is_any q.staged) q.deadline d)) (sym none)

    pub planned_keeps : KeepsQueue held' (record q1 { planned = Some due }) k'
    planned_keeps = holds_keeps q (record q1 { planned = Some due }) (At due) held held' k k' p same_waiting more planned_alike r

    pub planned_leads : Leads (planning due) q k (record q1 { planned = Some due }) k'
    planned_leads = holds_leads q (record q1 { planned = Some due }) (At due) held held' k k' p same_waiting more planned_alike r
        (λ c. record c { planned = Some due }) (λ c. ap (λ (o : Queue). rig_amid [] k.counts (record o { planned = Some due }) k.state c) (sym e))

    pub planned_fits : (flat : Flat) (room room' : ℕ) → room' ≡ room → FitsQueue flat room held q k → FitsQueue flat room' held' (record q1 { planned = Some due }) k'
    planned_fits flat room room' l f = fits_room flat room room' held' (record q1 { planned = Some due }) k' l (holds_fits q (record q1 { planned = Some due }) (At due) held held' k k' p same_waiting more planned_alike r flat room f same_ready
        (subst (λ (o : Queue). AreSoundWrites flat.signals o.staged) (sym e) f.writes))

-- ---- the runner holds a key no more

-- this key is one of what is held, and the rest is what is to be held
module _ (q q' : Queue) (x : Key) (held : List Key) (k : Content) (p : KeepsQueue held q k) (alike : AreAlike (queue_held q) (x ∷ queue_held q')) where
  pub free_there : among x held ≡ true
  free_there = p.held_are x ∙ alike x ∙ first x (queue_held q')

  pub free_registered : has x k.keys ≡ true
  free_registered = p.keys_are x ∙ among_named x q.waiting held ∙ or_right (among x (keys_of q.waiting)) (among x held) free_there

  -- the key is held still
  pub free_stays : q'.waiting ≡ q.waiting → among x (queue_held q') ≡ true → KeepsQueue held q' k
  free_stays w there = record {
    keys_are = λ y. p.keys_are y ∙ ap (λ (vs : List Waiting). among y (named vs held)) (sym w);
    held_are = alike_trans held (queue_held q) (queue_held q') p.held_are
        (alike_trans (queue_held q) (x ∷ queue_held q') (queue_held q') alike (alike_there x (queue_held q') there));
  }

  -- it isn't
  module _ (held' : List Key) (k' : Content) (w : q'.waiting ≡ q.waiting) (gone : among x (queue_held q') ≡ false) (a : AreAlike held' (without x held))
      (r : Rekeyed k k' [] (named q.waiting held) (named q'.waiting held')) where
    pub free_sheds : Sheds k k' (named q.waiting held) (named q'.waiting held')
    free_sheds = sheds_of k k' q.waiting q'.waiting held held' r
        (λ y m. ap (λ (vs : List Waiting). among y (keys_of vs)) (sym w) ∙ m)
        (λ y m. left_of_and (among y held) (not (same_key x y)) (sym (among-without y x held) ∙ sym (a y) ∙ m))

    pub free_keeps : KeepsQueue held' q' k'
    free_keeps = sheds_keeps q q' held held' k k' p
        (alike_trans held' (without x held) (queue_held q') a
        (without_alike x held (queue_held q') (alike_trans held (queue_held q) (x ∷ queue_held q') p.held_are alike) gone))
        free_sheds

-- what is held where these are staged, planned or due
pub staged_alike : (q : Queue) (ss : List Staged) (ws : List Waiting) → ss ≡ [] → is_any q.staged ≡ true → AreAlike (queue_held q) (ReadWrite ∷ queue_held (with_writes ss ws q))
staged_alike q ss ws e some x =
    ap (λ (b : Bool). among x (held_keys b q.deadline q.planned)) some
    ∙ staged_held q.deadline q.planned x
    ∙ ap (λ (ts : List Staged). among x (ReadWrite ∷ held_keys (is_any ts) q.deadline q.planned)) (sym e)

-- the phase isn't held any more
pub phase_gone : (q : Queue) (ss : List Staged) (ws : List Waiting) → ss ≡ [] → among ReadWrite (queue_held (with_writes ss ws q)) ≡ false
phase_gone q ss ws e = phase_held (is_any ss) q.deadline q.planned ∙ ap is_any e

pub due_alike : (q : Queue) (ws : List Waiting) (due : ℕ) → q.deadline ≡ Some due → AreAlike (queue_held q) (At due ∷ queue_held (without_deadline ws q))
due_alike q ws due e x = ap (λ (d : Option ℕ). among x (held_keys (is_any q.staged) d q.planned)) e ∙ deadline_held (is_any q.staged) due q.planned x

pub start_alike : (q : Queue) (ws : List Waiting) (due : ℕ) → q.planned ≡ Some due → AreAlike (queue_held q) (At due ∷ queue_held (without_planned ws q))
start_alike q ws due e x = ap (λ (d : Option ℕ). among x (held_keys (is_any q.staged) q.deadline d)) e ∙ planned_held (is_any q.staged) due q.deadline x

-- ---- all is dropped

-- no task waits any more
module _ (q : Queue) (es : List Entry) (ws : List Waiting) (held held' : List Key) (k k' : Content) (p : KeepsQueue held q k) (w : ws ≡ []) (same : AreAlike held' held)
    (r : Rekeyed k k' [] (named q.waiting held) (named ws held')) where
  pub emptied_sheds : Sheds k k' (named q.waiting held) (named ws held')
  emptied_sheds = sheds_of k k' q.waiting ws held held' r
      (λ x m. absurd (let z : true ≡ false = sym m ∙ ap (λ (vs : List Waiting). among x (keys_of vs)) w in cc)) (λ x m. sym (same x) ∙ m)

  pub emptied_keeps : KeepsQueue held' (with_tasks es ws q) k'
  emptied_keeps = sheds_keeps q (with_tasks es ws q) held held' k k' p (alike_trans held' held (queue_held q) same p.held_are) emptied_sheds

-- one part after the other
pub nothing_left : (q q2 q3 q4 : Queue) (es : List Entry) (ws : List Waiting) → es ≡ [] → ws ≡ [] → q2 ≡ record (with_tasks es ws q) { staged = [] }
    → q3 ≡ record q2 { deadline = None } → q4 ≡ record q3 { planned = None } → q4 ≡ nothing_queued
nothing_left q q2 q3 q4 es ws e w e2 e3 e4 =
    e4
    ∙ ap (λ (o : Queue). let r : Queue = record o { planned = None } in r) e3
    ∙ ap (λ (o : Queue). let r : Queue = record o { deadline = None; planned = None } in r) e2
    ∙ ap (λ (fs : List Entry). with_tasks fs ws nothing_queued) e
    ∙ ap (λ (vs : List Waiting). with_tasks [] vs nothing_queued) w

module _ (q q' : Queue) (held held' : List Key) (k k' : Content) (p : KeepsQueue held q k) (p' : KeepsQueue held' q' k') (e : q' ≡ nothing_queued)
    (s : Sheds k k' (named q.waiting held) (named q'.waiting held')) where
  pub dropped_leads : Leads dropping q k q' k'
  dropped_leads = sheds_leads q q' held held' k k' p p'.held_are s
      (λ c. record c { ready = []; waiting = []; staged = []; deadline = None; planned = None })
      (λ c. ap (λ (o : Queue). rig_amid [] k.counts o k.state c) (sym e))

  pub dropped_bare : AreKeys k'.keys []
  dropped_bare x =
      p'.keys_are x ∙ named_alike q'.waiting held' (queue_held q') p'.held_are x ∙ ap (λ (o : Queue). among x (named o.waiting (queue_held o))) e

  pub dropped_fits : (flat : Flat) (room : ℕ) → FitsQueue flat room held q k → FitsQueue flat room held' q' k'
  dropped_fits flat room f = record {
    procs_are = s.rekeyed.procs ∙ f.procs_are;
    nets_are = s.rekeyed.nets ∙ f.nets_are;
    signals = ap (λ (t : State). widths_of t.signals) s.rekeyed.state ∙ f.signals;
    keys_are = p'.keys_are;
    held_are = p'.held_are;
    writes = subst (λ (o : Queue). AreSoundWrites flat.signals o.staged) (sym e) tt;
    room_is = subst (λ (o : Queue). length o.ready + length o.waiting ≤ room) (sym e) (omega arith);
  }
