-- In each configuration that a run reaches each task has one place, and whoever has its turn, is ready or waits is live.
use Rattle.std.proofs.Common.{◌≡◌, ℕ, zero, suc, ◌+◌, ◌<◌, ◌≤◌, Bool, true, false, List, [], ◌∷◌, ◌++◌, length, All, Option, None, Some, IfSome, IsSome, Ok, Err, refl, ap, sym, ◌∙◌, subst, arith, eq-eqb, eqb-true, inl, inr}
use Rattle.std.proofs.lemmas.Bool.{cases_lt}
use Rattle.std.proofs.lemmas.List.Elements.{All-nil, All-cons}
use Rattle.std.specs.Prelude.{◌==◌, is_some, slice_index_or}
use Rattle.gpi.specs.Events.{Event}
use Rattle.gpi.specs.Keys.{among, set_of}
use Rattle.gpi.specs.declared.types.Key.{Key}
use Rattle.gpi.specs.declared.types.Key.TheVariants.{ReadWrite}
use Rattle.gpi.specs.declared.types.SigId.{SigId}
use Rattle.gpi.specs.declared.types.Write.{Write}
use Rattle.py_value.specs.Answer.{Answer}
use Rattle.py_value.specs.declared.trigger.TaskNo.{TaskNo}
use Rattle.py_value.specs.declared.value.Value.{Value}
use Rattle.py_value.specs.declared.value.Value.TheVariants.{Place as TopPlace}
use Rattle.await_tree.specs.Begin.{Facts, ended as ended_in}
use Rattle.await_tree.specs.Fire.{is_among}
use Rattle.await_tree.specs.Tree.{leaves}
use Rattle.await_tree.specs.declared.cause.Awaited.TheVariants as awaited
use Rattle.await_tree.specs.declared.cause.Cause.{Cause}
use Rattle.await_tree.specs.declared.cause.Cause.TheVariants as cause
use Rattle.await_tree.specs.EndedTasks.Endings.{Endings, all_failed, is_done}
use Rattle.await_tree.specs.declared.ended_tasks.ending.Ending.{Ending}
use Rattle.run_view.specs.declared.signal_port.staged.Staged.{Staged}
use Rattle.test_meaning.specs.Body.BodyTrees.{Case, Limit}
use Rattle.rig_model.specs.Task.Frame.{Task, function_at}
use Rattle.rig_model.specs.Task.Step.{Next, next}
use Rattle.rig_model.specs.declared.task.task.Turned.{Turned}
use Rattle.rig_model.specs.declared.task.task.Turned.TheVariants as turned
use Rattle.rig_model.proofs.TaskLemmas.Bounds.{number_stays}
use Rattle.rig_model.proofs.TaskLemmas.KeptLaws.{never_spent}
use Rattle.await_tree.specs.WaitList.Ring.{is_entry_of}
use Rattle.await_tree.specs.WaitList.Waiting.{Waiting, is_joined, is_of, still_waiting, woken}
use Rattle.await_tree.specs.declared.wait_list.ready.Entry.{Entry}
use Rattle.rig_model.specs.Parts.Placed.{one_if}
use Rattle.rig_model.specs.Run.Case.{values_of, limit_steps, with_deadline, with_limit, with_test}
use Rattle.rig_model.specs.Run.Effect.{effect_of, is_numbered, with_new_task}
use Rattle.rig_model.specs.Run.Gone.{is_live}
use Rattle.rig_model.specs.Run.Rig.{Rig, Setup, Running, event_of, facts_of, procs, view_of}
use Rattle.rig_model.specs.Run.Rig as rig
use Rattle.rig_model.specs.Run.Run.{Run}
use Rattle.rig_model.specs.Run.Serve.{wake, serve_keys, with_fired, deposit, flushed, flushed_if, served, ended_if, is_due, written}
use Rattle.rig_model.specs.Run.Step.{task_at, taken, stepped, kept, after_event, resumed, chosen, rig_step}
use Rattle.rig_model.specs.declared.run.outcome.Outcome.TheVariants.{ReadOnlyWrite}
use Rattle.run_laws.specs.Places.Places.{one_of, turn_of, StandApart, AreInPlace, AreLive, IsOut}
use Rattle.run_laws.specs.Places.Reached.{IsReached}
use Rattle.run_laws.specs.Places.Unmet.{AllUnmet, without_events}
use Rattle.run_laws.proofs.PlacesLemmas.Counts.{count_is, none_any, one_false, one_true, past_at}
use Rattle.run_laws.proofs.PlacesLemmas.Leaves.{unmet_at}
use Rattle.run_laws.proofs.PlacesLemmas.Reached.{reached_hold}
use Rattle.run_laws.proofs.PlacesLemmas.Stands.{Amid, effect_well, entries, done, IsLost, lives, new_stands, own_none, serve_amid, StandIn, StandOwn, StandWell, stored_stands, trees}
use Rattle.run_laws.proofs.PlacesLemmas.Unmet.{reached_others}

-- ---- who lives

found : (b : Bool) (n : TaskNo) (t : Task) (ts : List Task) → is_numbered n t ≡ b → (1 ≤ lives n ts → IsSome (task_at n ts)) → 1 ≤ lives n (t ∷ ts)
    → IsSome (task_at n (t ∷ ts))
found true n t ts e h k = rw e refl
found false n t ts e h k = rw e (h (omega (arith, k, one_false (is_numbered n t) e)))

pub is_there : (n : TaskNo) (ts : List Task) → 1 ≤ lives n ts → IsSome (task_at n ts)
is_there n [] h = absurd (omega arith)
is_there n (t ∷ ts) h = found (is_numbered n t) n t ts refl (λ k. is_there n ts k) h

pub own_turn : (n : TaskNo) → one_of n (Some n) ≡ 1
own_turn n = one_true (n.0 == n.0) (eq-eqb n.0 n.0 refl)

-- the task that has its turn lives
turn_lives : (task : TaskNo) (c : Rig) → StandIn (Some task) c → IsSome (task_at task c.tasks)
turn_lives task c h = is_there task c.tasks (omega (arith, h.placed task, own_turn task))

entries_live : (ts : List Task) (es : List Entry) → ((n : TaskNo) → entries n es ≤ lives n ts) → All (λ (e : Entry). IsSome (task_at e.task ts)) es
entries_live ts [] h = All-nil (λ (e : Entry). IsSome (task_at e.task ts))
entries_live ts (e ∷ es) h =
    All-cons (λ (x : Entry). IsSome (task_at x.task ts)) e es
    (is_there e.task ts (omega (arith, h e.task, own_turn e.task)))
    (entries_live ts es (λ n. omega (arith, h n)))

trees_live : (ts : List Task) (ws : List Waiting) → ((n : TaskNo) → trees n ws ≤ lives n ts) → All (λ (w : Waiting). IsSome (task_at w.task ts)) ws
trees_live ts [] h = All-nil (λ (w : Waiting). IsSome (task_at w.task ts))
trees_live ts (w ∷ ws) h =
    All-cons (λ (x : Waiting). IsSome (task_at x.task ts)) w ws
    (is_there w.task ts (omega (arith, h w.task, own_turn w.task)))
    (trees_live ts ws (λ n. omega (arith, h n)))

-- ---- steps

one_number : (a b : TaskNo) → a.0 ≡ b.0 → a ≡ b
one_number a b e = ap (λ (n : ℕ). let x : TaskNo = record { 0 = n } in x) e

at_number : (n : TaskNo) (ts : List Task) (task : Task) → task_at n ts ≡ Some task → task.number ≡ n
at_number n [] task e = cc
at_number n (t ∷ ts) task e = decided (is_numbered n t) refl (at_number n ts task)
  where
    decided : (b : Bool) → is_numbered n t ≡ b → (task_at n ts ≡ Some task → task.number ≡ n) → task.number ≡ n
    decided true q h = let same : t ≡ task = (let f : Some t ≡ Some task = rw q at e in cc) in ap (λ (x : Task). x.number) (sym same) ∙ one_number t.number n (eqb-true t.number.0 n.0 q)
    decided false q h = h (rw q at e)

-- the first that is ready gets its turn
pub first_stands : (x : Entry) (xs : List Entry) (c : Rig) → c.ready ≡ x ∷ xs → StandIn None c → StandIn (Some x.task) (resumed x xs c)
first_stands x xs c s h = record {
  placed = λ n. omega (arith, h.placed n, ap (λ (es : List Entry). entries n es) s);
  below = h.below;
  above = h.above;
}

module _ (setup : Setup) where
  wish_well : (task : TaskNo) (o : Option Turned) (c : Rig) → (o ≡ Some turned.Spent → ⊥) → Amid (Some task) c → StandWell (effect_of setup task o c).rig
  wish_well task None c s h = inl h.1
  wish_well task (Some t) c s h = effect_well task setup t c (λ (e : t ≡ turned.Spent). s (ap (λ (x : Turned). Some x) e)) h

  stepped_well : (r : Running) (o : Option Task) (c : Rig) → task_at r.task c.tasks ≡ o → StandIn (Some r.task) c → StandWell (stepped setup r o c).rig
  stepped_well r None c e h =
      let l : IsSome (task_at r.task c.tasks) = turn_lives r.task c h in
      let z : false ≡ true = sym (ap (λ (o : Option Task). is_some o) e) ∙ l in
      absurd (cc)
  stepped_well r (Some task) c e h =
      let n : Next = next setup.functions task r.given (view_of setup c) in
      let own : n.task.number ≡ r.task = number_stays setup.functions task r.given (view_of setup c) ∙ at_number r.task c.tasks task e in
      wish_well r.task n.turned (kept r.task n.task c) (never_spent setup.functions task r.given (view_of setup c)) (refl, stored_stands (Some r.task) r.task n.task c own h)

  after_well : (o : Option Event) (c : Rig) → Amid None c → StandWell (after_event setup o c).rig
  after_well None c h = inl (own_none (after_event setup None c).rig h)
  after_well (Some e) c h = inl (own_none (after_event setup (Some e) c).rig (serve_amid None setup e.fired (record c { sim = e.state }) h))

  chosen_well : (running : Option Running) (ready : List Entry) (c : Rig) → c.running ≡ running → c.ready ≡ ready → StandOwn c → StandWell (chosen setup running ready c).rig
  chosen_well (Some r) ready c e s h = stepped_well r (task_at r.task c.tasks) c refl (subst (λ (o : Option Running). StandIn (turn_of o) c) e h)
  chosen_well None (x ∷ xs) c e s h =
      let i : StandIn None c = subst (λ (o : Option Running). StandIn (turn_of o) c) e h in
      stepped_well (taken c x) (task_at x.task c.tasks) (resumed x xs c) refl (first_stands x xs c s i)
  chosen_well None [] c e s h = after_well (event_of setup c) c (e, subst (λ (o : Option Running). StandIn (turn_of o) c) e h)

  rig_well : (c : Rig) → c.outcome ≡ None → StandWell c → StandWell (rig_step setup c).rig
  rig_well c o (inl h) = chosen_well c.running c.ready c refl refl h
  rig_well c o (inr h) = absurd (let z : None ≡ Some (ReadOnlyWrite h.sig) = sym o ∙ h.over in cc)

-- ---- between tests

-- there is no task
abbrev IsBare : Rig → Type 0
IsBare c = (c.running ≡ None) × (c.ready ≡ []) × (c.waiting ≡ []) × (c.tasks ≡ []) × (c.endings ≡ [])

bare_stands : (c : Rig) → IsBare c → StandOwn c
bare_stands c h =
    let r : (n : TaskNo) → one_of n (turn_of c.running) ≡ 0 = λ n. ap (λ (o : Option Running). one_of n (turn_of o)) h.0 in
    let e : (n : TaskNo) → entries n c.ready ≡ 0 = λ n. ap (λ (es : List Entry). entries n es) h.1 in
    let w : (n : TaskNo) → trees n c.waiting ≡ 0 = λ n. ap (λ (ws : List Waiting). trees n ws) h.2 in
    let t : (n : TaskNo) → lives n c.tasks ≡ 0 = λ n. ap (λ (ts : List Task). lives n ts) h.3 in
    let l : length c.endings ≡ 0 = ap (λ (es : Endings). length es) h.4 in
    record { placed = λ n. omega (arith, r n, e n, w n, t n); below = λ n k. absurd (omega (arith, k, l)); above = λ n k. t n }

wake_bare : (on : Cause) (c : Rig) → IsBare c → IsBare (wake on c)
wake_bare on c h = (
  h.0,
  ap (λ (ws : List Waiting). c.ready ++ woken on ws) h.2 ∙ ap (λ (es : List Entry). es ++ []) h.1,
  ap (λ (ws : List Waiting). still_waiting on ws) h.2,
  h.3,
  h.4,
)

keys_bare : (keys others : List Key) (c : Rig) → IsBare c → IsBare (serve_keys keys others c)
keys_bare [] others c h = h
keys_bare (k ∷ ks) others c h = keys_bare ks others (record (wake (cause.Key k) c) { fired = others ++ ks }) (wake_bare (cause.Key k) c h)

deposit_bare : (setup : Setup) (sig : SigId) (act : Write) (c : Rig) → IsBare c → IsBare (deposit setup sig act c).rig
deposit_bare setup sig act c h =
    let e : Event = written setup c.sim (set_of (rig.awaited c)) sig act in
    keys_bare e.fired c.fired (with_fired e.fired (record c { sim = e.state })) h

flushed_bare : (setup : Setup) (writes : List Staged) (c : Rig) → IsBare c → IsBare (flushed setup writes c).rig
flushed_bare setup [] c h = h
flushed_bare setup (w ∷ ws) c h =
    flushed_bare setup ws (deposit setup w.sig w.act (record c { staged = ws })).rig (deposit_bare setup w.sig w.act (record c { staged = ws }) h)

flush_bare : (setup : Setup) (b : Bool) (c : Rig) → IsBare c → IsBare (flushed_if setup b c).rig
flush_bare setup true c h = flushed_bare setup c.staged c h
flush_bare setup false c h = h

ended_if_bare : (b : Bool) (c : Rig) → IsBare c → IsBare (ended_if b c).rig
ended_if_bare true c h = h
ended_if_bare false c h = h

after_bare : (setup : Setup) (o : Option Event) (c : Rig) → IsBare c → IsBare (after_event setup o c).rig
after_bare setup None c h = h
after_bare setup (Some e) c h =
    let b : Rig = record c { sim = e.state } in
    let d : Rig = (flushed_if setup (among ReadWrite e.fired) (with_fired e.fired b)).rig in
    ended_if_bare (is_due e.fired b.deadline) (served e.fired b.fired d).rig
    (keys_bare e.fired b.fired d (flush_bare setup (among ReadWrite e.fired) (with_fired e.fired b) h))

chosen_bare : (setup : Setup) (running : Option Running) (ready : List Entry) (c : Rig) → c.running ≡ running → c.ready ≡ ready → IsBare c → IsBare (chosen setup running ready c).rig
chosen_bare setup (Some r) ready c e s h = absurd (let z : Some r ≡ None = sym e ∙ h.0 in cc)
chosen_bare setup None (x ∷ xs) c e s h = absurd (let z : x ∷ xs ≡ [] = sym s ∙ h.1 in cc)
chosen_bare setup None [] c e s h = after_bare setup (event_of setup c) c h

-- ---- begins

deadline_own : (r : Answer ℕ) (c : Rig) → StandOwn c → StandOwn (with_deadline r c)
deadline_own (Ok steps) c h = h
deadline_own (Err kind) c h = h

limit_own : (step_fs : ℕ) (limit : Option Limit) (c : Rig) → StandOwn c → StandOwn (with_limit step_fs limit c)
limit_own step_fs None c h = h
limit_own step_fs (Some limit) c h = deadline_own (limit_steps step_fs limit) c h

test_own : (setup : Setup) (case : Case) (r : Answer (List Value)) (c : Rig) → StandOwn c → StandOwn (with_test setup case r c)
test_own setup case (Ok values) c h =
    limit_own setup.flat.step_fs case.time (with_new_task (function_at setup.functions case.function) (TopPlace 0 ∷ values) c)
    (new_stands (turn_of c.running) (function_at setup.functions case.function) (TopPlace 0 ∷ values) c h)
test_own setup case (Err kind) c h = h

-- ---- what is said of it

-- none behind those that were started has ended
past_done : (n : TaskNo) (c : Rig) → length c.endings ≤ n.0 → done n c.endings ≡ 0
past_done n c l = ap (λ (o : Option Ending). one_if (is_some o)) (past_at c.endings None n.0 l)

own_apart : (c : Rig) → StandOwn c → StandApart None c
own_apart c h = record {
  one = λ n l. omega (arith, h.placed n, h.below n l, count_is (is_entry_of n) c.ready, count_is (is_of n) c.waiting);
  none = λ n l. omega (arith, h.placed n, h.above n l, past_done n c l, count_is (is_entry_of n) c.ready, count_is (is_of n) c.waiting);
  live = λ n l. omega (arith, h.below n l, count_is (is_numbered n) c.tasks);
  no_other = λ n l. omega (arith, h.above n l, count_is (is_numbered n) c.tasks);
}

no_turn : (n : TaskNo) (c : Rig) → c.running ≡ None → one_of n (turn_of c.running) ≡ 0
no_turn n c e = ap (λ (o : Option Running). one_of n (turn_of o)) e

lost_apart : (c : Rig) → (h : IsLost c) → StandApart (Some h.writer) c
lost_apart c h =
    let k : StandIn (Some h.writer) c = h.stands in
    record {
      one = λ n l. omega (arith, k.placed n, k.below n l, no_turn n c h.idle, count_is (is_entry_of n) c.ready, count_is (is_of n) c.waiting);
      none = λ n l. omega (
        arith,
        k.placed n,
        k.above n l,
        no_turn n c h.idle,
        past_done n c l,
        count_is (is_entry_of n) c.ready,
        count_is (is_of n) c.waiting,
      );
      live = λ n l. omega (arith, k.below n l, count_is (is_numbered n) c.tasks);
      no_other = λ n l. omega (arith, k.above n l, count_is (is_numbered n) c.tasks);
    }

in_place : (c : Rig) → StandWell c → AreInPlace c
in_place c (inl h) = inl (own_apart c h)
in_place c (inr h) = inr (record { sig = h.sig; ended = h.over; writer = h.writer; lives = turn_lives h.writer c h.stands; rest = lost_apart c h })

running_lives : (o : Option Running) (c : Rig) → StandIn (turn_of o) c → IfSome o (λ (r : Running). IsSome (task_at r.task c.tasks))
running_lives None c h = tt
running_lives (Some r) c h = turn_lives r.task c h

no_running : (o : Option Running) (c : Rig) → o ≡ None → IfSome o (λ (r : Running). IsSome (task_at r.task c.tasks))
no_running None c e = tt
no_running (Some r) c e = absurd (cc)

are_live : (c : Rig) → StandWell c → AreLive c
are_live c (inl h) = record {
  running = running_lives c.running c h;
  ready = entries_live c.tasks c.ready (λ n. omega (arith, h.placed n));
  waiting = trees_live c.tasks c.waiting (λ n. omega (arith, h.placed n));
}
are_live c (inr h) = let k : StandIn (Some h.writer) c = h.stands in record {
  running = no_running c.running c h.idle;
  ready = entries_live c.tasks c.ready (λ n. omega (arith, k.placed n));
  waiting = trees_live c.tasks c.waiting (λ n. omega (arith, k.placed n));
}

-- ---- a task that has ended

-- nothing of it is left among those that have their turn, are ready, wait or live
record HasNone (task : TaskNo) (c : Rig) : Type 0 where
  turn : one_of task (turn_of c.running) ≡ 0
  entry : entries task c.ready ≡ 0
  tree : trees task c.waiting ≡ 0
  alive : lives task c.tasks ≡ 0

-- where it has ended it was started, and doesn't live
pub done_below : (n : TaskNo) (endings : Endings) → is_done n endings ≡ true → n.0 < length endings
done_below n endings e = elim (cases_lt n.0 (length endings)) [ inl l ↦ l | inr l ↦ absurd (let z : false ≡ true = sym (ap (λ (o : Option Ending). is_some o) (past_at endings None n.0 l)) ∙ e in cc) ]

done_none : (n : TaskNo) (c : Rig) → is_done n c.endings ≡ true → StandWell c → HasNone n c
done_none n c e (inl h) =
    let one : done n c.endings ≡ 1 = one_true (is_done n c.endings) e in
    let all : lives n c.tasks + done n c.endings ≡ 1 = h.below n (done_below n c.endings e) in
    record { turn = omega (arith, h.placed n, one, all); entry = omega (arith, h.placed n, one, all); tree = omega (arith, h.placed n, one, all); alive = omega (arith, one, all) }
done_none n c e (inr h) =
    let k : StandIn (Some h.writer) c = h.stands in
    let one : done n c.endings ≡ 1 = one_true (is_done n c.endings) e in
    let all : lives n c.tasks + done n c.endings ≡ 1 = k.below n (done_below n c.endings e) in
    record { turn = no_turn n c h.idle; entry = omega (arith, k.placed n, one, all); tree = omega (arith, k.placed n, one, all); alive = omega (arith, one, all) }

none_live : (n : TaskNo) (ts : List Task) → lives n ts ≡ 0 → is_live n ts ≡ false
none_live n [] h = refl
none_live n (t ∷ ts) h = decided (is_numbered n t) refl (none_live n ts)
  where
    decided : (b : Bool) → is_numbered n t ≡ b → (lives n ts ≡ 0 → is_live n ts ≡ false) → is_live n (t ∷ ts) ≡ false
    decided true e k = absurd (omega (arith, h, one_true (is_numbered n t) e))
    decided false e k = rw e (k (omega (arith, h)))

-- what a tree is told of it
pub ended_at : (es : Endings) (n : ℕ) → is_some (slice_index_or (all_failed es) n None) ≡ is_some (slice_index_or es n None)
ended_at [] n = refl
ended_at (None ∷ es) zero = refl
ended_at (Some e ∷ es) zero = refl
ended_at (e ∷ es) (suc n) = ended_at es n

no_join : (task : TaskNo) (f : Facts) (ws : List Waiting) → is_some (ended_in task f) ≡ true → AllUnmet f ws → is_joined task ws ≡ false
no_join task f [] e h = refl
no_join task f (w ∷ ws) e h = decided (is_among (awaited.Join task) (leaves w.tree)) refl (no_join task f ws e h.1)
  where
    decided : (b : Bool) → is_among (awaited.Join task) (leaves w.tree) ≡ b → is_joined task ws ≡ false → is_joined task (w ∷ ws) ≡ false
    decided true q k =
        let n : ended_in task f ≡ None = unmet_at f (awaited.Join task) (leaves w.tree) h.0 q in
        let z : false ≡ true = sym (ap (λ (o : Option Bool). is_some o) n) ∙ e in
        absurd (cc)
    decided false q k = rw q k

-- ---- wherever a run comes

module _ (setup : Setup) (seed : ℕ) (cases : List Case) (run : Run) (r : IsReached setup seed cases run) where
  holds : (R : Rig → Type 0) → ((c : Rig) → StandWell c → R c) → R run.rig
  holds R follows =
      reached_hold setup StandWell IsBare (λ case c h. inl (test_own setup case (values_of case.arguments) c (bare_stands c h))) (λ c o h. rig_well setup c o h)
      (λ c h. (refl, refl, refl, refl, refl)) (λ c h. h) (λ c h. chosen_bare setup c.running c.ready c refl refl h) R follows
      (λ c h. follows c (inl (bare_stands c h))) seed cases run (refl, refl, refl, refl, refl) r

  by_outcome : (c : Rig) → StandWell c → c.outcome ≡ None → StandOwn c
  by_outcome c (inl h) o = h
  by_outcome c (inr h) o = absurd (let z : None ≡ Some (ReadOnlyWrite h.sig) = sym o ∙ h.over in cc)

  pub reached_well : StandWell run.rig
  reached_well = holds StandWell (λ c h. h)

  pub reached_own : run.rig.outcome ≡ None → StandOwn run.rig
  reached_own o = by_outcome run.rig reached_well o

  pub reached_in_place : AreInPlace run.rig
  reached_in_place = holds AreInPlace in_place

  pub reached_live : AreLive run.rig
  reached_live = holds AreLive are_live

  pub reached_out : (task : TaskNo) → is_done task run.rig.endings ≡ true → IsOut task run.rig
  reached_out task e =
      let n : HasNone task run.rig = done_none task run.rig e reached_well in
      record {
        gone = record {
          not_ready = none_any (is_entry_of task) run.rig.ready n.entry;
          not_waiting = none_any (is_of task) run.rig.waiting n.tree;
          not_live = none_live task run.rig.tasks n.alive;
        };
        no_turn = n.turn;
        unjoined = no_join task (without_events (facts_of run.rig)) run.rig.waiting (ended_at run.rig.endings task.0 ∙ e) (reached_others setup seed cases run r);
      }
