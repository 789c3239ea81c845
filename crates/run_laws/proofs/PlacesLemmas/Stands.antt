-- Each task keeps one place, whatever is done.
use Rattle.std.proofs.Common.{◌≡◌, ℕ, ◌+◌, ◌<◌, ◌≤◌, ◌⊎◌, Bool, true, false, List, [], ◌∷◌, ◌++◌, length, Option, None, Some, refl, ap, sym, ◌∙◌, subst, arith, eq-eqb, eqb-true, length-append, inl, inr}
use Rattle.std.proofs.lemmas.Bool.{cases_lt}
use Rattle.std.specs.Prelude.{◌==◌, not, filter, nat_le, is_some, if◌then◌else◌, nat_lt}
use Rattle.gpi.specs.Events.{Event}
use Rattle.gpi.specs.Keys.{among, set_of}
use Rattle.gpi.specs.State.{is_end}
use Rattle.gpi.specs.declared.types.Key.{Key}
use Rattle.gpi.specs.declared.types.Key.TheVariants.{ReadWrite}
use Rattle.gpi.specs.declared.types.SigId.{SigId}
use Rattle.gpi.specs.declared.types.Write.{Write}
use Rattle.py_value.specs.declared.trigger.LockNo.{LockNo}
use Rattle.py_value.specs.declared.trigger.TaskNo.{TaskNo}
use Rattle.py_value.specs.declared.value.Value.{Value}
use Rattle.py_value.specs.declared.value.Value.TheVariants as value
use Rattle.py_value.specs.declared.value.Fault.{Fault}
use Rattle.await_tree.specs.Begin.{begin}
use Rattle.await_tree.specs.Check.{tree_of, check}
use Rattle.await_tree.specs.Fire.{fire, grant}
use Rattle.await_tree.specs.Steps.{step_of}
use Rattle.await_tree.specs.Tree.{Tree}
use Rattle.await_tree.specs.declared.cause.Cause.{Cause}
use Rattle.await_tree.specs.declared.cause.Cause.TheVariants as cause
use Rattle.await_tree.specs.declared.cause.Given.{Given}
use Rattle.await_tree.specs.declared.cause.Given.TheVariants as given
use Rattle.await_tree.specs.declared.cause.Step.{Step}
use Rattle.await_tree.specs.declared.cause.Step.TheVariants.{Still, Done}
use Rattle.await_tree.specs.EndedTasks.Endings.{Endings, is_done, with_ending, with_task}
use Rattle.await_tree.specs.declared.ended_tasks.ending.Ending.{Ending}
use Rattle.await_tree.specs.declared.ended_tasks.ending.Ending.TheVariants.{Returned, Failed, Killed}
use Rattle.await_tree.specs.SyncObjects.States.{event_limit, is_held, lock_limit, with_set}
use Rattle.run_view.specs.declared.signal_port.staged.Staged.{Staged}
use Rattle.test_meaning.specs.Body.BodyTrees.{Function}
use Rattle.task_queue.specs.Queues.{TaskQueue, queue_at, is_full as has_no_room, is_at_limit, is_empty, with_items, with_item}
use Rattle.py_value.specs.declared.trigger.EventNo.{EventNo}
use Rattle.py_value.specs.declared.trigger.QueueNo.{QueueNo}
use Rattle.rig_model.specs.Task.Frame.{Task, fresh, function_at}
use Rattle.rig_model.specs.declared.task.task.Turned.{Turned}
use Rattle.rig_model.specs.declared.task.task.Turned.TheVariants as turned
use Rattle.await_tree.specs.WaitList.Ring.{is_entry_of, without_entry}
use Rattle.await_tree.specs.WaitList.Waiting.{Waiting, behind, entry_of, Granted, granted, granted_to, is_joined, is_of, is_wanted, left_of, still_waiting, wants, without_task, woken}
use Rattle.await_tree.specs.declared.wait_list.ready.Entry.{Entry}
use Rattle.rig_model.specs.Parts.Placed.{one_if}
use Rattle.rig_model.specs.Run.Effect.{is_numbered, begun_by, awaits_by, waits, write_by, stages, puts, starts, starter, next_task, with_new_task, with_end, ends, returns, withdrawn, killed, fails, kills_by, kills, makes_event, makes_lock, releases, is_full, handed_on, effect, makes_queue, sets_if, clears_if, puts_item, gets_item}
use Rattle.rig_model.specs.Run.Rig.{Rig, Setup, Running, After, facts_of, procs}
use Rattle.rig_model.specs.Run.Rig as rig
use Rattle.rig_model.specs.Run.Serve.{wake, serve_keys, with_fired, after_put, deposit, flushed, flushed_if, served, ended_if, is_due, serve, written}
use Rattle.rig_model.specs.Run.Step.{kept, stored}
use Rattle.rig_model.specs.declared.run.outcome.Outcome.TheVariants.{ReadOnlyWrite}
use Rattle.run_laws.specs.Places.Places.{one_of, turn_of}
use Rattle.run_laws.proofs.PlacesLemmas.Counts.{count, count_apart, count_more, count_out, none_more, one_false, one_true, other_at, other_number, own_at, past_at, set_long}

-- ---- places by number

module _ (n : TaskNo) where
  abbrev pub entries : List Entry → ℕ
  entries es = count (is_entry_of n) es

  abbrev pub trees : List Waiting → ℕ
  trees ws = count (is_of n) ws

  abbrev pub lives : List Task → ℕ
  lives ts = count (is_numbered n) ts

  abbrev pub done : Endings → ℕ
  done es = one_if (is_done n es)

-- Where this task has its turn, each that lives has one place, and each that was started lives or has ended.
pub record Stand (turn : Option TaskNo) (ready : List Entry) (waiting : List Waiting) (tasks : List Task) (endings : Endings) : Type 0 where
  pub placed : (n : TaskNo) → one_of n turn + entries n ready + trees n waiting ≡ lives n tasks
  pub below : (n : TaskNo) → n.0 < length endings → lives n tasks + done n endings ≡ 1
  pub above : (n : TaskNo) → length endings ≤ n.0 → lives n tasks ≡ 0

abbrev pub StandIn : Option TaskNo → Rig → Type 0
StandIn turn c = Stand turn c.ready c.waiting c.tasks c.endings

-- with the turn that the configuration says
abbrev pub StandOwn : Rig → Type 0
StandOwn c = StandIn (turn_of c.running) c

-- the turn was taken from this task, or from none
abbrev pub Amid : Option TaskNo → Rig → Type 0
Amid turn c = (c.running ≡ None) × StandIn turn c

-- a write in the read-only phase has ended the test
pub record IsLost (c : Rig) : Type 0 where
  pub sig : SigId
  pub over : c.outcome ≡ Some (ReadOnlyWrite sig)
  pub idle : c.running ≡ None
  pub writer : TaskNo
  pub stands : StandIn (Some writer) c

abbrev pub StandWell : Rig → Type 0
StandWell c = StandOwn c ⊎ IsLost c

pub own_none : (c : Rig) → Amid None c → StandOwn c
own_none c h = subst (λ (r : Option Running). StandIn (turn_of r) c) (sym h.0) h.1

-- ---- wakes

one_step : (n task : TaskNo) (tree : Tree) (s : Step) → entries n (entry_of task s) + trees n (left_of task tree s) ≡ one_if (task.0 == n.0)
one_step n task tree Still = omega arith
one_step n task tree (Done g) = omega arith

-- each task that waited is woken or waits on
woken_or_waits : (n : TaskNo) (c : Cause) (ws : List Waiting) → entries n (woken c ws) + trees n (still_waiting c ws) ≡ trees n ws
woken_or_waits n c [] = refl
woken_or_waits n c (w ∷ ws) =
    let s : Step = step_of (fire c w.tree) in
    let one : entries n (entry_of w.task s) + trees n (left_of w.task (fire c w.tree) s) ≡ one_if (w.task.0 == n.0) = one_step n w.task (fire c w.tree) s in
    let more : entries n (woken c ws) + trees n (still_waiting c ws) ≡ trees n ws = woken_or_waits n c ws in
    let a : entries n (entry_of w.task s ++ woken c ws) ≡ entries n (entry_of w.task s) + entries n (woken c ws)
    = count_more (is_entry_of n) (entry_of w.task s) (woken c ws) in
    let b : trees n (left_of w.task (fire c w.tree) s ++ still_waiting c ws) ≡ trees n (left_of w.task (fire c w.tree) s) + trees n (still_waiting c ws)
    = count_more (is_of n) (left_of w.task (fire c w.tree) s) (still_waiting c ws) in
    omega arith

-- the same of those whom a lock reaches
abbrev Same : TaskNo → List Waiting → Granted → Type 0
Same n ws g = entries n g.entries + trees n g.waiting ≡ trees n ws

granted_or_waits : (n : TaskNo) (l : LockNo) (ws : List Waiting) → Same n ws (granted l ws)
granted_or_waits n l [] = refl
granted_or_waits n l (w ∷ ws) = decided (wants l w.tree) (granted_or_waits n l ws)
  where
    to_one : Same n (w ∷ ws) (granted_to w.task (grant l w.tree) ws)
    to_one =
        let s : Step = step_of (grant l w.tree) in
        let one : entries n (entry_of w.task s) + trees n (left_of w.task (grant l w.tree) s) ≡ one_if (w.task.0 == n.0) = one_step n w.task (grant l w.tree) s in
        let b : trees n (left_of w.task (grant l w.tree) s ++ ws) ≡ trees n (left_of w.task (grant l w.tree) s) + trees n ws
        = count_more (is_of n) (left_of w.task (grant l w.tree) s) ws in
        omega arith

    further : (g : Granted) → Same n ws g → Same n (w ∷ ws) (behind w g)
    further g h = omega arith

    decided : (b : Bool) → Same n ws (granted l ws) → Same n (w ∷ ws) (if b then granted_to w.task (grant l w.tree) ws else behind w (granted l ws))
    decided true h = to_one
    decided false h = further (granted l ws) h

-- ---- serving

module _ (turn : Option TaskNo) where
  -- the same tasks, in other places of the same number
  moved : (ready ready' : List Entry) (waiting waiting' : List Waiting) (tasks : List Task) (endings : Endings)
      → ((n : TaskNo) → entries n ready' + trees n waiting' ≡ entries n ready + trees n waiting)
      → Stand turn ready waiting tasks endings → Stand turn ready' waiting' tasks endings
  moved ready ready' waiting waiting' tasks endings same h = record {
    placed = λ n. omega (arith, h.placed n, same n);
    below = h.below;
    above = h.above;
  }

  pub wake_stands : (on : Cause) (c : Rig) → StandIn turn c → StandIn turn (wake on c)
  wake_stands on c h =
      moved c.ready (c.ready ++ woken on c.waiting) c.waiting (still_waiting on c.waiting) c.tasks c.endings
      (λ n. omega (arith, count_more (is_entry_of n) c.ready (woken on c.waiting), woken_or_waits n on c.waiting)) h

  wake_amid : (on : Cause) (c : Rig) → Amid turn c → Amid turn (wake on c)
  wake_amid on c h = (h.0, wake_stands on c h.1)

  keys_amid : (keys others : List Key) (c : Rig) → Amid turn c → Amid turn (serve_keys keys others c)
  keys_amid [] others c h = h
  keys_amid (k ∷ ks) others c h = keys_amid ks others (record (wake (cause.Key k) c) { fired = others ++ ks }) (wake_amid (cause.Key k) c h)

  put_amid : (setup : Setup) (e : Event) (c : Rig) → Amid turn c → Amid turn (after_put setup e c).rig
  put_amid setup e c h = keys_amid e.fired c.fired (with_fired e.fired (record c { sim = e.state })) h

  pub deposit_amid : (setup : Setup) (sig : SigId) (act : Write) (c : Rig) → Amid turn c → Amid turn (deposit setup sig act c).rig
  deposit_amid setup sig act c h = put_amid setup (written setup c.sim (set_of (rig.awaited c)) sig act) c h

  flushed_amid : (setup : Setup) (writes : List Staged) (c : Rig) → Amid turn c → Amid turn (flushed setup writes c).rig
  flushed_amid setup [] c h = h
  flushed_amid setup (w ∷ ws) c h =
      flushed_amid setup ws (deposit setup w.sig w.act (record c { staged = ws })).rig (deposit_amid setup w.sig w.act (record c { staged = ws }) h)

  flush_amid : (setup : Setup) (b : Bool) (c : Rig) → Amid turn c → Amid turn (flushed_if setup b c).rig
  flush_amid setup true c h = flushed_amid setup c.staged c h
  flush_amid setup false c h = h

  ended_if_amid : (b : Bool) (c : Rig) → Amid turn c → Amid turn (ended_if b c).rig
  ended_if_amid true c h = h
  ended_if_amid false c h = h

  pub serve_amid : (setup : Setup) (keys : List Key) (c : Rig) → Amid turn c → Amid turn (serve setup keys c).rig
  serve_amid setup keys c h =
      let d : Rig = (flushed_if setup (among ReadWrite keys) (with_fired keys c)).rig in
      ended_if_amid (is_due keys c.deadline) (served keys c.fired d).rig
      (keys_amid keys c.fired d (flush_amid setup (among ReadWrite keys) (with_fired keys c) h))

-- ---- tasks that live

by_truth : (P : Type 0) (b : Bool) → (b ≡ true → P) → (b ≡ false → P) → P
by_truth P true h k = h refl
by_truth P false h k = k refl

module _ (n : TaskNo) where
  -- a test for another number fails where one for this succeeds
  pub apart : (m a : ℕ) → (n.0 ≡ m → ⊥) → (a == m) ≡ true → (a == n.0) ≡ false
  apart m a ne h = by_truth ((a == n.0) ≡ false) (a == n.0) (λ e. absurd (ne (sym (eqb-true a n.0 e) ∙ eqb-true a m h))) (λ e. e)

  itself : one_if (n.0 == n.0) ≡ 1
  itself = one_true (n.0 == n.0) (eq-eqb n.0 n.0 refl)

  other : (m : ℕ) → (n.0 ≡ m → ⊥) → one_if (m == n.0) ≡ 0
  other m ne = by_truth (one_if (m == n.0) ≡ 0) (m == n.0) (λ e. absurd (ne (sym (eqb-true m n.0 e)))) (λ e. one_false (m == n.0) e)

  same_of : (m : ℕ) → n.0 ≡ m → one_if (m == n.0) ≡ 1
  same_of m e = one_true (m == n.0) (eq-eqb m n.0 (sym e))

-- what is left of a task is in its place
stored_lives : (n number : TaskNo) (rest : Task) (ts : List Task) → rest.number ≡ number → lives n (stored number rest ts) ≡ lives n ts
stored_lives n number rest [] e = refl
stored_lives n number rest (t ∷ ts) e = decided (is_numbered number t) refl (stored_lives n number rest ts e)
  where
    decided : (b : Bool) → is_numbered number t ≡ b → lives n (stored number rest ts) ≡ lives n ts → lives n (stored number rest (t ∷ ts)) ≡ lives n (t ∷ ts)
    decided true q h =
        let same : one_if (rest.number.0 == n.0) ≡ one_if (t.number.0 == n.0)
        = ap (λ (m : TaskNo). one_if (m.0 == n.0)) e ∙ ap (λ (k : ℕ). one_if (k == n.0)) (sym (eqb-true t.number.0 number.0 q)) in
        rw q (omega (arith, same))
    decided false q h = rw q (omega (arith, h))

pub stored_stands : (turn : Option TaskNo) (number : TaskNo) (rest : Task) (c : Rig) → rest.number ≡ number → StandIn turn c → StandIn turn (kept number rest c)
stored_stands turn number rest c e h = record {
  placed = λ n. omega (arith, h.placed n, stored_lives n number rest c.tasks e);
  below = λ n l. omega (arith, h.below n l, stored_lives n number rest c.tasks e);
  above = λ n l. omega (arith, h.above n l, stored_lives n number rest c.tasks e);
}

-- ---- starts

pub new_stands : (turn : Option TaskNo) (function : Function) (args : List Value) (c : Rig) → StandIn turn c → StandIn turn (with_new_task function args c)
new_stands turn function args c h = record {
  placed = λ n. omega (arith, h.placed n, ready n, alive n);
  below = λ n l. by_truth (lives n (c.tasks ++ t ∷ []) + done n (with_task c.endings) ≡ 1) (length c.endings == n.0) (λ e. last n (eqb-true (length c.endings) n.0 e))
      (λ e. older n e l);
  above = λ n l. omega (arith, h.above n (omega (arith, l, long)), alive n, other n (length c.endings) (λ e. absurd (omega (arith, e, l, long))));
}
  where
    t : Task
    t = fresh (next_task c) function args

    long : length (with_task c.endings) ≡ length c.endings + 1
    long = length-append c.endings (None ∷ [])

    ready : (n : TaskNo) → entries n (c.ready ++ record { task = next_task c; given = given.Begin } ∷ []) ≡ entries n c.ready + one_if (length c.endings == n.0)
    ready n = omega (arith, count_more (is_entry_of n) c.ready (record { task = next_task c; given = given.Begin } ∷ []))

    alive : (n : TaskNo) → lives n (c.tasks ++ t ∷ []) ≡ lives n c.tasks + one_if (length c.endings == n.0)
    alive n = omega (arith, count_more (is_numbered n) c.tasks (t ∷ []))

    same_done : (n : TaskNo) → done n (with_task c.endings) ≡ done n c.endings
    same_done n = ap (λ (o : Option Ending). one_if (is_some o)) (none_more c.endings None n.0)

    last : (n : TaskNo) → length c.endings ≡ n.0 → lives n (c.tasks ++ t ∷ []) + done n (with_task c.endings) ≡ 1
    last n e =
        let none : done n c.endings ≡ 0 = ap (λ (o : Option Ending). one_if (is_some o)) (past_at c.endings None n.0 (omega (arith, e))) in
        omega (arith, alive n, same_done n, none, h.above n (omega (arith, e)), same_of n (length c.endings) (sym e))

    older : (n : TaskNo) → (length c.endings == n.0) ≡ false → n.0 < length (with_task c.endings) → lives n (c.tasks ++ t ∷ []) + done n (with_task c.endings) ≡ 1
    older n e l =
        let ne : length c.endings ≡ n.0 → ⊥ = other_number (length c.endings) n.0 e in
        omega (arith, alive n, same_done n, h.below n (omega (arith, ne, l, long)), one_false (length c.endings == n.0) e)

-- ---- ends

-- A task ends that has no place among those that have their turn, are ready or wait.
module _ (task : TaskNo) (ending : Ending) (turn : Option TaskNo) (ready : List Entry) (waiting : List Waiting) (tasks : List Task) (endings : Endings)
    (gone : (n : TaskNo) → n.0 ≡ task.0 → one_of n turn + entries n ready + trees n waiting ≡ 0)
    (rest : (n : TaskNo) → (n.0 ≡ task.0 → ⊥) → one_of n turn + entries n ready + trees n waiting ≡ lives n tasks)
    (below : (n : TaskNo) → n.0 < length endings → lives n tasks + done n endings ≡ 1) (above : (n : TaskNo) → length endings ≤ n.0 → lives n tasks ≡ 0) where
  abbrev pub left : List Task
  left = filter (λ (t : Task). not (is_numbered task t)) tasks

  long : length (with_ending task ending endings) ≡ length endings
  long = set_long endings task.0 (Some ending)

  none_lives : (n : TaskNo) → n.0 ≡ task.0 → lives n left ≡ 0
  none_lives n e = subst (λ (k : ℕ). count (λ (t : Task). t.number.0 == k) left ≡ 0) (sym e) (count_out (is_numbered task) tasks)

  others_live : (n : TaskNo) → (n.0 ≡ task.0 → ⊥) → lives n left ≡ lives n tasks
  others_live n ne = count_apart (is_numbered n) (is_numbered task) (λ (t : Task) (q : is_numbered task t ≡ true). apart n task.0 t.number.0 ne q) tasks

  own_done : (n : TaskNo) → n.0 ≡ task.0 → n.0 < length endings → done n (with_ending task ending endings) ≡ 1
  own_done n e l =
      let at : is_done n (with_ending task ending endings) ≡ is_done task (with_ending task ending endings)
      = ap (λ (k : ℕ). is_done (record { 0 = k }) (with_ending task ending endings)) e in
      let is : is_done task (with_ending task ending endings) ≡ true = ap (λ (o : Option Ending). is_some o) (own_at endings (Some ending) None task.0 (omega (arith, l, e))) in
      one_true (is_done n (with_ending task ending endings)) (at ∙ is)

  others_done : (n : TaskNo) → (n.0 ≡ task.0 → ⊥) → done n (with_ending task ending endings) ≡ done n endings
  others_done n ne = ap (λ (o : Option Ending). one_if (is_some o)) (other_at endings (Some ending) None task.0 n.0 (λ (e : task.0 ≡ n.0). ne (sym e)))

  by_number : (n : TaskNo) (P : Type 0) → (n.0 ≡ task.0 → P) → ((n.0 ≡ task.0 → ⊥) → P) → P
  by_number n P h k = by_truth P (n.0 == task.0) (λ e. h (eqb-true n.0 task.0 e)) (λ e. k (other_number n.0 task.0 e))

  pub ended_stands : Stand turn ready waiting left (with_ending task ending endings)
  ended_stands = record {
    placed = λ n. by_number n (one_of n turn + entries n ready + trees n waiting ≡ lives n left) (λ e. gone n e ∙ sym (none_lives n e))
        (λ ne. rest n ne ∙ sym (others_live n ne));
    below = λ n l. by_number n (lives n left + done n (with_ending task ending endings) ≡ 1)
        (λ e. omega (arith, none_lives n e, own_done n e (omega (arith, l, long))))
        (λ ne. omega (arith, others_live n ne, others_done n ne, below n (omega (arith, l, long))));
    above = λ n l. by_number n (lives n left ≡ 0) (λ e. none_lives n e) (λ ne. others_live n ne ∙ above n (omega (arith, l, long)));
  }

-- no number is that of two tasks that live
lives_once : (tasks : List Task) (endings : Endings) (n : TaskNo) → ((m : TaskNo) → m.0 < length endings → lives m tasks + done m endings ≡ 1)
    → ((m : TaskNo) → length endings ≤ m.0 → lives m tasks ≡ 0) → lives n tasks ≤ 1
lives_once tasks endings n below above = elim (cases_lt n.0 (length endings)) [ inl l ↦ omega (arith, below n l) | inr l ↦ omega (arith, above n l) ]

-- ---- effects

module _ (task : TaskNo) where
  waits_amid : (tree : Tree) (c : Rig) → Amid (Some task) c → Amid None (waits task tree c)
  waits_amid tree c h =
      let w : Waiting = record { task = task; tree = tree } in
      (h.0, record { placed = λ n. omega (arith, h.1.placed n, count_more (is_of n) c.waiting (w ∷ [])); below = h.1.below; above = h.1.above })

  ready_amid : (g : Given) (c : Rig) → Amid (Some task) c → Amid None (record c { ready = c.ready ++ record { task = task; given = g } ∷ [] })
  ready_amid g c h =
      let e : Entry = record { task = task; given = g } in
      (h.0, record { placed = λ n. omega (arith, h.1.placed n, count_more (is_entry_of n) c.ready (e ∷ [])); below = h.1.below; above = h.1.above })

  begun_well : (tree : Tree) (s : Step) (c : Rig) → Amid (Some task) c → StandWell (begun_by task tree s c).rig
  begun_well tree (Done g) c h = inl h.1
  begun_well tree Still c h = inl (own_none (waits task tree c) (waits_amid tree c h))

  awaits_well : (tree : Tree) (o : Option Fault) (c : Rig) → Amid (Some task) c → StandWell (awaits_by task tree o c).rig
  awaits_well tree (Some fault) c h = inl h.1
  awaits_well tree None c h =
      let b = begin tree (facts_of c) in begun_well b.tree (step_of b.tree) (record c { objects = record c.objects { locks = b.facts.locks } }) h

  write_well : (b : Bool) (sig : SigId) (a : After) (c : Rig) → Amid (Some task) c → StandOwn a.rig → StandWell (write_by b sig a c).rig
  write_well true sig a c h k = inr (record { sig = sig; over = refl; idle = h.0; writer = task; stands = h.1 })
  write_well false sig a c h k = inl k

  puts_own : (setup : Setup) (sig : SigId) (act : Write) (c : Rig) → Amid (Some task) c → StandOwn (puts setup task sig act c).rig
  puts_own setup sig act c h = (deposit_amid (Some task) setup sig act c h).1

  starter_own : (number : TaskNo) (b : Bool) (c : Rig) → Amid (Some task) c → StandOwn (starter task number b c).rig
  starter_own number true c h = own_none (starter task number true c).rig (ready_amid (given.Value (value.Task number)) c h)
  starter_own number false c h = h.1

  starts_own : (full : Bool) (function : Function) (args : List Value) (b : Bool) (c : Rig) → Amid (Some task) c → StandOwn (starts full task function args b c).rig
  starts_own true function args b c h = h.1
  starts_own false function args b c h =
      starter_own (next_task c) b (with_new_task function args c) (h.0, new_stands (Some task) function args c h.1)

  -- the task itself ends
  own_ended : (ending : Ending) (c : Rig) → Amid (Some task) c → Amid None (with_end task ending c)
  own_ended ending c h = (
    h.0,
    ended_stands task ending None c.ready c.waiting c.tasks c.endings
        (λ n e. omega (arith, h.1.placed n, same_of n task.0 e, lives_once c.tasks c.endings n h.1.below h.1.above))
        (λ n ne. omega (arith, h.1.placed n, other n task.0 ne)) h.1.below h.1.above,
  )

  ends_amid : (ending : Ending) (failed : Bool) (c : Rig) → Amid (Some task) c → Amid None (ends task ending failed c)
  ends_amid ending failed c h = wake_amid None (cause.Ended task failed) (with_end task ending c) (own_ended ending c h)

  returns_own : (v : Value) (c : Rig) → Amid (Some task) c → StandOwn (returns task v c).rig
  returns_own v c h = own_none (returns task v c).rig (ends_amid (Returned v) false c h)

  fails_own : (b : Bool) (fault : Fault) (c : Rig) → Amid (Some task) c → StandOwn (fails b task fault c).rig
  fails_own true fault c h = own_none (ends task (Failed fault) true c) (ends_amid (Failed fault) true c h)
  fails_own false fault c h = own_none (fails false task fault c).rig (own_ended (Failed fault) c h)

  -- another is killed
  killed_amid : (m : TaskNo) (c : Rig) → (m.0 == task.0) ≡ false → Amid (Some task) c → Amid (Some task) (killed m c)
  killed_amid m c a h =
      wake_amid (Some task) (cause.Ended m false) (with_end m Killed (withdrawn m c)) (
        h.0,
        ended_stands m Killed (Some task) (without_entry m c.ready) (without_task m c.waiting) c.tasks c.endings
            (λ n e. omega (arith, turn n e, ready n e, waiting n e))
            (λ n ne. omega (
              arith,
              h.1.placed n,
              count_apart (is_entry_of n) (is_entry_of m) (λ (x : Entry) (q : is_entry_of m x ≡ true). apart n m.0 x.task.0 ne q) c.ready,
              count_apart (is_of n) (is_of m) (λ (x : Waiting) (q : is_of m x ≡ true). apart n m.0 x.task.0 ne q) c.waiting,
            )) h.1.below h.1.above,
      )
    where
      turn : (n : TaskNo) → n.0 ≡ m.0 → one_of n (Some task) ≡ 0
      turn n e = other n task.0 (λ (q : n.0 ≡ task.0). other_number m.0 task.0 a (sym e ∙ q))

      ready : (n : TaskNo) → n.0 ≡ m.0 → entries n (without_entry m c.ready) ≡ 0
      ready n e = subst (λ (k : ℕ). count (λ (x : Entry). x.task.0 == k) (without_entry m c.ready) ≡ 0) (sym e) (count_out (is_entry_of m) c.ready)

      waiting : (n : TaskNo) → n.0 ≡ m.0 → trees n (without_task m c.waiting) ≡ 0
      waiting n e = subst (λ (k : ℕ). count (λ (x : Waiting). x.task.0 == k) (without_task m c.waiting) ≡ 0) (sym e) (count_out (is_of m) c.waiting)

  kill_amid : (b : Bool) (m : TaskNo) (c : Rig) → (m.0 == task.0) ≡ false → Amid (Some task) c → Amid (Some task) (kills_by b m c)
  kill_amid true m c a h = h
  kill_amid false m c a h = killed_amid m c a h

  kills_own : (b : Bool) (m : TaskNo) (c : Rig) → (m.0 == task.0) ≡ b → Amid (Some task) c → StandOwn (kills b task m c).rig
  kills_own true m c a h = h.1
  kills_own false m c a h = (kill_amid (is_done m c.endings) m c a h).1

  event_own : (b : Bool) (c : Rig) → Amid (Some task) c → StandOwn (makes_event b task c).rig
  event_own true c h = h.1
  event_own false c h = h.1

  lock_own : (b : Bool) (c : Rig) → Amid (Some task) c → StandOwn (makes_lock b task c).rig
  lock_own true c h = h.1
  lock_own false c h = h.1

  handed_amid : (b : Bool) (l : LockNo) (c : Rig) → Amid (Some task) c → Amid (Some task) (handed_on b l c)
  handed_amid true l c h = (
    h.0,
    moved (Some task) c.ready (c.ready ++ (granted l c.waiting).entries) c.waiting (granted l c.waiting).waiting c.tasks c.endings
        (λ n. omega (arith, count_more (is_entry_of n) c.ready (granted l c.waiting).entries, granted_or_waits n l c.waiting)) h.1,
  )
  handed_amid false l c h = h

  release_own : (b : Bool) (l : LockNo) (c : Rig) → Amid (Some task) c → StandOwn (releases b task l c).rig
  release_own true l c h = (handed_amid (is_wanted l c.waiting) l c h).1
  release_own false l c h = h.1

  queue_own : (b : Bool) (bound : ℕ) (c : Rig) → Amid (Some task) c → StandOwn (makes_queue b task bound c).rig
  queue_own true bound c h = h.1
  queue_own false bound c h = h.1

  -- the one event may be set, and then the other cleared
  flags_amid : (a b : Bool) (x y : EventNo) (c : Rig) → Amid (Some task) c → Amid (Some task) (clears_if a x (sets_if b y c))
  flags_amid true true x y c h = wake_amid (Some task) (cause.Event y) (record c { objects = with_set y c.objects }) h
  flags_amid false true x y c h = wake_amid (Some task) (cause.Event y) (record c { objects = with_set y c.objects }) h
  flags_amid true false x y c h = h
  flags_amid false false x y c h = h

  put_item_own : (full limit : Bool) (q : QueueNo) (item : Value) (c : Rig) → Amid (Some task) c → StandOwn (puts_item full limit task q item c).rig
  put_item_own true limit q item c h = h.1
  put_item_own false true q item c h = h.1
  put_item_own false false q item c h =
      let old : TaskQueue = queue_at q c.queues in
      (flags_amid (has_no_room (queue_at q (with_item q item c.queues))) (is_empty old.items) old.space_event old.items_event
      (record c { queues = with_item q item c.queues }) h).1

  get_item_own : (q : QueueNo) (items : List Value) (c : Rig) → Amid (Some task) c → StandOwn (gets_item task q items c).rig
  get_item_own q [] c h = h.1
  get_item_own q (item ∷ items) c h =
      let old : TaskQueue = queue_at q c.queues in
      (flags_amid (is_empty items) (has_no_room old) old.items_event old.space_event (record c { queues = with_items q items c.queues }) h).1

  pub effect_well : (setup : Setup) (t : Turned) (c : Rig) → (t ≡ turned.Spent → ⊥) → Amid (Some task) c → StandWell (effect setup task t c).rig
  effect_well setup (turned.Await trig) c s h = awaits_well (tree_of trig c.sim.time) (check trig c.sim.time c.sim.region) c h
  effect_well setup (turned.Stage sig act) c s h = write_well (is_end c.sim.region) sig (stages task sig act c) c h h.1
  effect_well setup (turned.Put sig act) c s h = write_well (is_end c.sim.region) sig (puts setup task sig act c) c h (puts_own setup sig act c h)
  effect_well setup (turned.Start func args give_way) c s h = inl (starts_own (is_full c) (function_at setup.functions func) args give_way c h)
  effect_well setup (turned.Kill m) c s h = inl (kills_own (m.0 == task.0) m c refl h)
  effect_well setup turned.NewEvent c s h = inl (event_own (nat_le event_limit (length c.objects.events)) c h)
  effect_well setup (turned.SetEvent e) c s h = inl (wake_amid (Some task) (cause.Event e) (record c { objects = with_set e c.objects }) h).1
  effect_well setup (turned.ClearEvent e) c s h = inl h.1
  effect_well setup turned.NewLock c s h = inl (lock_own (nat_le lock_limit (length c.objects.locks)) c h)
  effect_well setup (turned.Release l) c s h = inl (release_own (is_held l c.objects) l c h)
  effect_well setup (turned.NewQueue bound) c s h = inl (queue_own (nat_lt event_limit (length c.objects.events + 2)) bound c h)
  effect_well setup (turned.PutNow q item) c s h = inl (put_item_own (has_no_room (queue_at q c.queues)) (is_at_limit (queue_at q c.queues)) q item c h)
  effect_well setup (turned.GetNow q) c s h = inl (get_item_own q (queue_at q c.queues).items c h)
  effect_well setup (turned.Draw low span) c s h = inl h.1
  effect_well setup (turned.Log level text) c s h = inl h.1
  effect_well setup (turned.Done v) c s h = inl (returns_own v c h)
  effect_well setup (turned.Raised fault) c s h = inl (fails_own (is_joined task c.waiting) fault c h)
  effect_well setup turned.Spent c s h = absurd (s refl)
