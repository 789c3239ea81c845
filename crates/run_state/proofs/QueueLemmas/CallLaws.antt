-- What the calls do, each as one effect.
use Rattle.std.proofs.Common.{◌≡◌, ◌+◌, ◌<◌, ◌≤◌, ℕ, ◌||◌, Bool, true, false, not, List, [], ◌∷◌, ◌++◌, length, refl, sym, ap, ◌∙◌, subst, arith, length-append, append-nil}
use Rattle.gpi.specs.Content.{Content}
use Rattle.gpi.specs.Keys.{among, same_key}
use Rattle.gpi.specs.declared.design.Flat.{Flat}
use Rattle.gpi.specs.declared.types.Key.{Key}
use Rattle.py_value.specs.declared.trigger.LockNo.{LockNo}
use Rattle.py_value.specs.declared.trigger.TaskNo.{TaskNo}
use Rattle.await_tree.specs.declared.cause.Cause.{Cause}
use Rattle.await_tree.specs.declared.cause.Cause.TheVariants as cause
use Rattle.await_tree.specs.Tree.{Tree}
use Rattle.await_tree.specs.WaitList.Counts.{counts_after}
use Rattle.await_tree.specs.WaitList.Keys.{AreAlike, Rekeyed}
use Rattle.await_tree.specs.WaitList.Ring.{is_entry_of, without_entry}
use Rattle.await_tree.specs.WaitList.Waiting.{Waiting, granted, is_of, is_wanted, keys_of, named, still_waiting, tree_keys, without_task, woken}
use Rattle.await_tree.specs.declared.wait_list.ready.Entry.{Entry}
use Rattle.rig_model.specs.Run.Counts.{counted}
use Rattle.rig_model.specs.Run.Effect.{handed_on, waits, withdrawn}
use Rattle.rig_model.specs.Run.Rig.{Rig}
use Rattle.rig_model.specs.Run.Serve.{wake}
use Rattle.rig_model.specs.Parts.Fits.{AreSoundWrites, FitsQueue, KeepsQueue}
use Rattle.rig_model.specs.Parts.Queue.{Queue, Leads, queue_awaited, queue_held, rig_amid}
use Rattle.run_state.specs.Queue.Effects.{granting, killing, waking}
use Rattle.run_state.specs.Queue.Sheds.{Sheds}
use Rattle.run_state.specs.Queue.Still.{AreStill, is_reached}
use Rattle.run_state.proofs.QueueLemmas.Tests.{or_left}
use Rattle.run_state.proofs.QueueLemmas.CountLaws.{counts_still}
use Rattle.run_state.proofs.QueueLemmas.Rekeys.{counts_on, fits_on, keeps_on, leads_on, sheds_both}
use Rattle.run_state.proofs.QueueLemmas.StillLaws.{filter_few, granted_count, unreached_waiting, unreached_woken, unwanted_entries, unwanted_waiting, still_counts}
use Rattle.run_state.proofs.QueueLemmas.HeldLaws.{alike_trans}
use Rattle.run_state.proofs.QueueLemmas.WaitLaws.{begun_more, filter_less, granted_less, held_more, still_within}
use Rattle.run_state.proofs.QueueLemmas.FitLaws.{sheds_of}

-- with these tasks ready, and these waiting
abbrev pub with_tasks : List Entry → List Waiting → Queue → Queue
with_tasks es ws q = record q { ready = es; waiting = ws }

-- ---- a task begins to wait

module _ (q : Queue) (ws : List Waiting) (task : TaskNo) (t : Tree) (held held' : List Key) (k k' : Content) (p : KeepsQueue held q k)
    (e : ws ≡ q.waiting ++ record { task = task; tree = t } ∷ []) (same : AreAlike held' held)
    (r : Rekeyed k k' (tree_keys t) (named q.waiting held) (named ws held')) where
  begun_grows : (x : Key) → among x (named ws held') ≡ true → (among x (named q.waiting held) || among x (tree_keys t)) ≡ true
  begun_grows x m = begun_more x task t q.waiting held held' same (sym (ap (λ (vs : List Waiting). among x (named vs held')) e) ∙ m)

  begun_held : AreAlike held' (queue_held q)
  begun_held = alike_trans held' held (queue_held q) same p.held_are

  pub wait_keeps : KeepsQueue held' (with_tasks q.ready ws q) k'
  wait_keeps = keeps_on q (with_tasks q.ready ws q) held held' k k' (tree_keys t) p begun_held begun_grows r

  pub wait_leads : Leads (waits task t) q k (with_tasks q.ready ws q) k'
  wait_leads = leads_on q (with_tasks q.ready ws q) held held' k k' (tree_keys t) p begun_held begun_grows r
      (λ c. record c { waiting = c.waiting ++ record { task = task; tree = t } ∷ [] })
      (λ c. ap (λ (vs : List Waiting). rig_amid [] k.counts (with_tasks q.ready vs q) k.state c) (sym e))

  pub wait_fits : (flat : Flat) (room : ℕ) → FitsQueue flat room held q k → length q.ready + length q.waiting < room
      → FitsQueue flat room held' (with_tasks q.ready ws q) k'
  wait_fits flat room f l = fits_on q (with_tasks q.ready ws q) held held' k k' (tree_keys t) p begun_held begun_grows r flat room f f.writes few
    where
      more : length ws ≡ length q.waiting + 1
      more = ap length e ∙ length-append q.waiting (record { task = task; tree = t } ∷ [])

      few : length q.ready + length ws ≤ room
      few = omega (arith, more)

-- ---- keys are removed alone

module _ (q q' : Queue) (held held' : List Key) (k k' : Content) (p : KeepsQueue held q k) (alike : AreAlike held' (queue_held q'))
    (s : Sheds k k' (named q.waiting held) (named q'.waiting held')) where
  sheds_grows : (x : Key) → among x (named q'.waiting held') ≡ true → (among x (named q.waiting held) || among x []) ≡ true
  sheds_grows x m = or_left (among x (named q.waiting held)) false (s.less x m)

  pub sheds_keeps : KeepsQueue held' q' k'
  sheds_keeps = keeps_on q q' held held' k k' [] p alike sheds_grows s.rekeyed

  pub sheds_counts : k'.counts ≡ counts_after [] (queue_awaited [] q) (queue_awaited [] q') k.counts
  sheds_counts = counts_on q q' held held' k k' [] p alike sheds_grows s.rekeyed

  -- where the queue is as it was, nothing is counted
  pub sheds_nothing : q' ≡ q → k'.counts ≡ k.counts
  sheds_nothing e = sheds_counts ∙ counts_still (queue_awaited [] q) (queue_awaited [] q') k.counts (λ x. ap (λ (o : Queue). among x (queue_awaited [] o)) (sym e))

  pub sheds_leads : (f : Rig → Rig) → ((c : Rig) → f (rig_amid [] k.counts q k.state c) ≡ rig_amid [] k.counts q' k.state c)
      → Leads (λ c. counted [] c (f c)) q k q' k'
  sheds_leads f is = leads_on q q' held held' k k' [] p alike sheds_grows s.rekeyed f is

  pub sheds_fits : (flat : Flat) (room : ℕ) → FitsQueue flat room held q k → q'.staged ≡ q.staged → length q'.ready + length q'.waiting ≤ room
      → FitsQueue flat room held' q' k'
  sheds_fits flat room f e l = fits_on q q' held held' k k' [] p alike sheds_grows s.rekeyed flat room f (subst (AreSoundWrites flat.signals) (sym e) f.writes) l

-- ---- an event is set, or a task has ended

module _ (q : Queue) (es : List Entry) (ws : List Waiting) (on : Cause) (held held' : List Key) (k k' : Content) (p : KeepsQueue held q k)
    (w : ws ≡ still_waiting on q.waiting) (e : es ≡ q.ready ++ woken on q.waiting) (same : AreAlike held' held)
    (r : Rekeyed k k' [] (named q.waiting held) (named ws held')) where
  woken_held : AreAlike held' (queue_held q)
  woken_held = alike_trans held' held (queue_held q) same p.held_are

  pub woken_sheds : Sheds k k' (named q.waiting held) (named ws held')
  woken_sheds = sheds_of k k' q.waiting ws held held' r
      (λ x m. still_within on q.waiting x (sym (ap (λ (vs : List Waiting). among x (keys_of vs)) w) ∙ m)) (λ x m. sym (same x) ∙ m)

  pub wake_keeps : KeepsQueue held' (with_tasks es ws q) k'
  wake_keeps = sheds_keeps q (with_tasks es ws q) held held' k k' p woken_held woken_sheds

  pub wake_leads : Leads (waking on) q k (with_tasks es ws q) k'
  wake_leads = sheds_leads q (with_tasks es ws q) held held' k k' p woken_held woken_sheds (wake on)
      (λ c. ap (λ (vs : List Waiting). rig_amid [] k.counts (with_tasks (q.ready ++ woken on q.waiting) vs q) k.state c) (sym w)
      ∙ ap (λ (fs : List Entry). rig_amid [] k.counts (with_tasks fs ws q) k.state c) (sym e))

  wake_few : (room : ℕ) → length q.ready + length q.waiting ≤ room → length es + length ws ≤ room
  wake_few room l =
      let one = ap length e ∙ length-append q.ready (woken on q.waiting) in
      let two = ap length w in
      let all = still_counts on q.waiting in
      omega (arith, one, two, all)

  pub wake_fits : (flat : Flat) (room : ℕ) → FitsQueue flat room held q k → FitsQueue flat room held' (with_tasks es ws q) k'
  wake_fits flat room f = sheds_fits q (with_tasks es ws q) held held' k k' p woken_held woken_sheds flat room f refl (wake_few room f.room_is)

  -- where nobody is reached nothing has changed
  pub wake_none : AreStill q.waiting → is_reached on q.waiting ≡ false → (with_tasks es ws q ≡ q) × (k'.counts ≡ k.counts)
  wake_none h n = (all, sheds_nothing q (with_tasks es ws q) held held' k k' p woken_held woken_sheds all)
    where
      ready : es ≡ q.ready
      ready = e ∙ ap (λ (fs : List Entry). q.ready ++ fs) (unreached_woken on q.waiting h n) ∙ append-nil q.ready

      waiting : ws ≡ q.waiting
      waiting = w ∙ unreached_waiting on q.waiting h n

      all : with_tasks es ws q ≡ q
      all = ap (λ (fs : List Entry). with_tasks fs ws q) ready ∙ ap (λ (vs : List Waiting). with_tasks q.ready vs q) waiting

-- ---- a lock is handed on

module _ (q : Queue) (es : List Entry) (ws : List Waiting) (lock : LockNo) (held held' : List Key) (k k' : Content) (p : KeepsQueue held q k)
    (w : ws ≡ (granted lock q.waiting).waiting) (e : es ≡ q.ready ++ (granted lock q.waiting).entries) (same : AreAlike held' held)
    (r : Rekeyed k k' [] (named q.waiting held) (named ws held')) where
  granted_held : AreAlike held' (queue_held q)
  granted_held = alike_trans held' held (queue_held q) same p.held_are

  granted_sheds : Sheds k k' (named q.waiting held) (named ws held')
  granted_sheds = sheds_of k k' q.waiting ws held held' r
      (λ x m. granted_less x lock q.waiting (sym (ap (λ (vs : List Waiting). among x (keys_of vs)) w) ∙ m)) (λ x m. sym (same x) ∙ m)

  pub grant_keeps : KeepsQueue held' (with_tasks es ws q) k'
  grant_keeps = sheds_keeps q (with_tasks es ws q) held held' k k' p granted_held granted_sheds

  pub grant_leads : Leads (granting lock) q k (with_tasks es ws q) k'
  grant_leads = sheds_leads q (with_tasks es ws q) held held' k k' p granted_held granted_sheds (handed_on true lock)
      (λ c. ap (λ (vs : List Waiting). rig_amid [] k.counts (with_tasks (q.ready ++ (granted lock q.waiting).entries) vs q) k.state c) (sym w)
      ∙ ap (λ (fs : List Entry). rig_amid [] k.counts (with_tasks fs ws q) k.state c) (sym e))

  grant_few : (room : ℕ) → length q.ready + length q.waiting ≤ room → length es + length ws ≤ room
  grant_few room l =
      let one = ap length e ∙ length-append q.ready (granted lock q.waiting).entries in
      let two = ap length w in
      let all = granted_count lock q.waiting in
      omega (arith, one, two, all)

  pub grant_fits : (flat : Flat) (room : ℕ) → FitsQueue flat room held q k → FitsQueue flat room held' (with_tasks es ws q) k'
  grant_fits flat room f = sheds_fits q (with_tasks es ws q) held held' k k' p granted_held granted_sheds flat room f refl (grant_few room f.room_is)

  -- where nobody wants it nothing has changed
  pub grant_none : is_wanted lock q.waiting ≡ false → (with_tasks es ws q ≡ q) × (k'.counts ≡ k.counts)
  grant_none n = (all, sheds_nothing q (with_tasks es ws q) held held' k k' p granted_held granted_sheds all)
    where
      ready : es ≡ q.ready
      ready = e ∙ ap (λ (fs : List Entry). q.ready ++ fs) (unwanted_entries lock q.waiting n) ∙ append-nil q.ready

      waiting : ws ≡ q.waiting
      waiting = w ∙ unwanted_waiting lock q.waiting n

      all : with_tasks es ws q ≡ q
      all = ap (λ (fs : List Entry). with_tasks fs ws q) ready ∙ ap (λ (vs : List Waiting). with_tasks q.ready vs q) waiting

-- ---- a task is killed

-- it leaves
module _ (q : Queue) (fs : List Entry) (vs : List Waiting) (task : TaskNo) (held held1 : List Key) (k k1 : Content) (p : KeepsQueue held q k)
    (u : fs ≡ without_entry task q.ready) (v : vs ≡ without_task task q.waiting) (same1 : AreAlike held1 held)
    (r1 : Rekeyed k k1 [] (named q.waiting held) (named vs held1)) where
  dropped_sheds : Sheds k k1 (named q.waiting held) (named vs held1)
  dropped_sheds = sheds_of k k1 q.waiting vs held held1 r1
      (λ x m. filter_less x (λ (o : Waiting). not (is_of task o)) q.waiting (sym (ap (λ (os : List Waiting). among x (keys_of os)) v) ∙ m)) (λ x m. sym (same1 x) ∙ m)

  pub dropped_keeps : KeepsQueue held1 (with_tasks fs vs q) k1
  dropped_keeps = sheds_keeps q (with_tasks fs vs q) held held1 k k1 p (alike_trans held1 held (queue_held q) same1 p.held_are) dropped_sheds

  -- which makes room
  pub dropped_few : (room : ℕ) → length q.ready + length q.waiting ≤ room → length fs + length vs ≤ room
  dropped_few room l =
      let one = ap length u in
      let two = ap length v in
      let a = filter_few (λ (o : Entry). not (is_entry_of task o)) q.ready in
      let b = filter_few (λ (o : Waiting). not (is_of task o)) q.waiting in
      omega (arith, one, two, a, b)

-- and its joiners are served
module _ (q : Queue) (fs es : List Entry) (vs ws : List Waiting) (task : TaskNo) (held held1 held2 : List Key) (k k1 k2 : Content) (p : KeepsQueue held q k)
    (u : fs ≡ without_entry task q.ready) (v : vs ≡ without_task task q.waiting) (same1 : AreAlike held1 held)
    (r1 : Rekeyed k k1 [] (named q.waiting held) (named vs held1)) (w : ws ≡ still_waiting (cause.Ended task false) vs)
    (e : es ≡ fs ++ woken (cause.Ended task false) vs) (same2 : AreAlike held2 held1) (r2 : Rekeyed k1 k2 [] (named vs held1) (named ws held2)) where
  killed_held : AreAlike held2 (queue_held q)
  killed_held = alike_trans held2 held1 (queue_held q) same2 (alike_trans held1 held (queue_held q) same1 p.held_are)

  killed_sheds : Sheds k k2 (named q.waiting held) (named ws held2)
  killed_sheds = sheds_both k k1 k2 (named q.waiting held) (named vs held1) (named ws held2)
      (dropped_sheds q fs vs task held held1 k k1 p u v same1 r1)
      (woken_sheds (with_tasks fs vs q) es ws (cause.Ended task false) held1 held2 k1 k2 (dropped_keeps q fs vs task held held1 k k1 p u v same1 r1) w e same2 r2)

  pub kill_keeps : KeepsQueue held2 (with_tasks es ws q) k2
  kill_keeps = sheds_keeps q (with_tasks es ws q) held held2 k k2 p killed_held killed_sheds

  waiting_is : still_waiting (cause.Ended task false) (without_task task q.waiting) ≡ ws
  waiting_is = ap (still_waiting (cause.Ended task false)) (sym v) ∙ sym w

  ready_is : without_entry task q.ready ++ woken (cause.Ended task false) (without_task task q.waiting) ≡ es
  ready_is =
      ap (λ (os : List Waiting). without_entry task q.ready ++ woken (cause.Ended task false) os) (sym v)
      ∙ ap (λ (os : List Entry). os ++ woken (cause.Ended task false) vs) (sym u)
      ∙ sym e

  pub kill_leads : Leads (killing task) q k (with_tasks es ws q) k2
  kill_leads = sheds_leads q (with_tasks es ws q) held held2 k k2 p killed_held killed_sheds (λ c. wake (cause.Ended task false) (withdrawn task c))
      (λ c. ap (λ (os : List Waiting). rig_amid [] k.counts (with_tasks (without_entry task q.ready ++ woken (cause.Ended task false) (without_task task q.waiting)) os q) k.state c) waiting_is
      ∙ ap (λ (os : List Entry). rig_amid [] k.counts (with_tasks os ws q) k.state c) ready_is)

  kill_few : (room : ℕ) → length q.ready + length q.waiting ≤ room → length es + length ws ≤ room
  kill_few room l =
      let before = dropped_few q fs vs task held held1 k k1 p u v same1 r1 room l in
      let one = ap length e ∙ length-append fs (woken (cause.Ended task false) vs) in
      let two = ap length w in
      let all = still_counts (cause.Ended task false) vs in
      omega (arith, before, one, two, all)

  pub kill_fits : (flat : Flat) (room : ℕ) → FitsQueue flat room held q k → FitsQueue flat room held2 (with_tasks es ws q) k2
  kill_fits flat room f = sheds_fits q (with_tasks es ws q) held held2 k k2 p killed_held killed_sheds flat room f refl (kill_few room f.room_is)

-- ---- a key is held besides

module _ (q q' : Queue) (x : Key) (held held' : List Key) (k k' : Content) (p : KeepsQueue held q k) (w : q'.waiting ≡ q.waiting)
    (more : AreAlike held' (x ∷ held)) (alike : AreAlike (queue_held q') (x ∷ queue_held q)) (r : Rekeyed k k' (x ∷ []) (named q.waiting held) (named q'.waiting held')) where
  holds_grows : (y : Key) → among y (named q'.waiting held') ≡ true → (among y (named q.waiting held) || among y (x ∷ [])) ≡ true
  holds_grows y m = held_more y x q.waiting held held' more (sym (ap (λ (vs : List Waiting). among y (named vs held')) w) ∙ m)

  holds_held : AreAlike held' (queue_held q')
  holds_held y = more y ∙ ap (λ (b : Bool). same_key y x || b) (p.held_are y) ∙ sym (alike y)

  pub holds_keeps : KeepsQueue held' q' k'
  holds_keeps = keeps_on q q' held held' k k' (x ∷ []) p holds_held holds_grows r

  pub holds_leads : (f : Rig → Rig) → ((c : Rig) → f (rig_amid [] k.counts q k.state c) ≡ rig_amid [] k.counts q' k.state c)
      → Leads (λ c. counted [] c (f c)) q k q' k'
  holds_leads f is = leads_on q q' held held' k k' (x ∷ []) p holds_held holds_grows r f is

  pub holds_fits : (flat : Flat) (room : ℕ) → FitsQueue flat room held q k → q'.ready ≡ q.ready → AreSoundWrites flat.signals q'.staged → FitsQueue flat room held' q' k'
  holds_fits flat room f e s = fits_on q q' held held' k k' (x ∷ []) p holds_held holds_grows r flat room f s few
    where
      few : length q'.ready + length q'.waiting ≤ room
      few =
          let one = ap length e in
          let two = ap length w in
          let all = f.room_is in
          omega (arith, one, two, all)
