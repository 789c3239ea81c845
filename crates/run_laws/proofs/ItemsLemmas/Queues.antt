-- What each step makes of the items of a queue.
use Rattle.std.proofs.Common.{◌≡◌, ℕ, zero, suc, ◌<◌, ◌≤◌, Bool, true, false, List, [], ◌∷◌, ◌++◌, length, Option, None, Some, refl, ap, sym, subst, ◌∙◌, arith, append-nil, eqb-true}
use Rattle.std.specs.Prelude.{◌==◌, ◌+◌, nat_le, nat_lt, slice_index_or, slice_set}
use Rattle.std.proofs.lemmas.Bool.{lt-ltb, ltb-true}
use Rattle.std.proofs.lemmas.Bool.Decides.{nat_tests}
use Rattle.gpi.specs.Keys.{among, set_of}
use Rattle.gpi.specs.Events.{Event}
use Rattle.gpi.specs.State.{is_end}
use Rattle.gpi.specs.declared.types.Key.{Key}
use Rattle.gpi.specs.declared.types.Key.TheVariants.{ReadWrite}
use Rattle.gpi.specs.declared.types.SigId.{SigId}
use Rattle.gpi.specs.declared.types.Write.{Write}
use Rattle.py_value.specs.declared.trigger.TaskNo.{TaskNo}
use Rattle.py_value.specs.declared.trigger.EventNo.{EventNo}
use Rattle.py_value.specs.declared.trigger.LockNo.{LockNo}
use Rattle.py_value.specs.declared.trigger.QueueNo.{QueueNo}
use Rattle.py_value.specs.declared.value.Value.{Value}
use Rattle.py_value.specs.declared.value.Fault.{Fault}
use Rattle.task_queue.specs.Queues.{TaskQueue, queue_at, is_full as has_no_room, is_at_limit, is_empty, holding, fresh, with_items, with_item}
use Rattle.await_tree.specs.Tree.{Tree}
use Rattle.await_tree.specs.Begin.{begin}
use Rattle.await_tree.specs.Steps.{step_of}
use Rattle.await_tree.specs.Check.{tree_of, check}
use Rattle.await_tree.specs.declared.cause.Step.{Step}
use Rattle.await_tree.specs.declared.cause.Step.TheVariants.{Still, Done}
use Rattle.await_tree.specs.EndedTasks.Endings.{is_done}
use Rattle.await_tree.specs.SyncObjects.States.{is_held, event_limit, lock_limit}
use Rattle.test_meaning.specs.Body.BodyTrees.{Function}
use Rattle.rig_model.specs.Task.Frame.{Task, function_at}
use Rattle.rig_model.specs.Task.Step.{next}
use Rattle.rig_model.specs.declared.task.task.Turned.{Turned}
use Rattle.rig_model.specs.declared.task.task.Turned.TheVariants as turned
use Rattle.await_tree.specs.declared.wait_list.ready.Entry.{Entry}
use Rattle.await_tree.specs.WaitList.Waiting.{is_wanted, is_joined}
use Rattle.rig_model.specs.Run.Rig.{Rig, Setup, Running, After, event_of, view_of, facts_of, awaited}
use Rattle.run_view.specs.declared.signal_port.staged.Staged.{Staged}
use Rattle.rig_model.specs.Run.Serve.{serve_keys, with_fired, after_put, written, deposit, flushed, flushed_if, ended_if, is_due, serve}
use Rattle.rig_model.specs.Run.Effect.{begun_by, awaits_by, write_by, stages, puts, starts, starter, next_task, with_new_task, fails, kills_by, kills, makes_event, makes_lock, releases, is_full, handed_on, new_event, second_event, makes_queue, sets_if, clears_if, with_put, puts_item, with_get, gets_item, effect, effect_of}
use Rattle.run_laws.specs.Items.Account.{stored_when, stored_by, given_when, given_by, told_of, wanted_by, wanted_in, wish}
use Rattle.run_laws.specs.Remainder.Alike.{turn_of}
use Rattle.run_laws.proofs.PlacesLemmas.Counts.{other_at, other_number, own_at}
use Rattle.rig_model.specs.Run.Step.{task_at, taken, stepped, kept, after_event, resumed, chosen, rig_step}

serve_keys_queues : (keys others : List Key) (c : Rig) → (serve_keys keys others c).queues ≡ c.queues
serve_keys_queues [] others c = refl
serve_keys_queues (k ∷ ks) others c = serve_keys_queues ks others _

put_queues : (setup : Setup) (e : Event) (c : Rig) → (after_put setup e c).rig.queues ≡ c.queues
put_queues setup e c = serve_keys_queues e.fired c.fired _

deposit_queues : (setup : Setup) (sig : SigId) (act : Write) (c : Rig) → (deposit setup sig act c).rig.queues ≡ c.queues
deposit_queues setup sig act c = put_queues setup (written setup c.sim (set_of (awaited c)) sig act) c

ended_if_queues : (b : Bool) (c : Rig) → (ended_if b c).rig.queues ≡ c.queues
ended_if_queues true c = refl
ended_if_queues false c = refl

flushed_queues : (setup : Setup) (writes : List Staged) (c : Rig) → (flushed setup writes c).rig.queues ≡ c.queues
flushed_queues setup [] c = refl
flushed_queues setup (w ∷ ws) c = flushed_queues setup ws _ ∙ deposit_queues setup w.sig w.act (record c { staged = ws })

flush_queues : (setup : Setup) (b : Bool) (c : Rig) → (flushed_if setup b c).rig.queues ≡ c.queues
flush_queues setup true c = flushed_queues setup c.staged c
flush_queues setup false c = refl

serve_queues : (setup : Setup) (keys : List Key) (c : Rig) → (serve setup keys c).rig.queues ≡ c.queues
serve_queues setup keys c =
    ended_if_queues (is_due keys c.deadline) _ ∙ serve_keys_queues keys c.fired _ ∙ flush_queues setup (among ReadWrite keys) (with_fired keys c)

begun_queues : (task : TaskNo) (tree : Tree) (s : Step) (c : Rig) → (begun_by task tree s c).rig.queues ≡ c.queues
begun_queues task tree (Done g) c = refl
begun_queues task tree Still c = refl

awaits_queues : (task : TaskNo) (tree : Tree) (o : Option Fault) (c : Rig) → (awaits_by task tree o c).rig.queues ≡ c.queues
awaits_queues task tree (Some fault) c = refl
awaits_queues task tree None c = begun_queues task (begin tree (facts_of c)).tree (step_of (begin tree (facts_of c)).tree) _

write_queues : (b : Bool) (sig : SigId) (a : After) (c : Rig) → a.rig.queues ≡ c.queues → (write_by b sig a c).rig.queues ≡ c.queues
write_queues true sig a c h = refl
write_queues false sig a c h = h

starter_queues : (task number : TaskNo) (b : Bool) (c : Rig) → (starter task number b c).rig.queues ≡ c.queues
starter_queues task number true c = refl
starter_queues task number false c = refl

starts_queues : (full : Bool) (task : TaskNo) (function : Function) (args : List Value) (b : Bool) (c : Rig) → (starts full task function args b c).rig.queues ≡ c.queues
starts_queues true task function args b c = refl
starts_queues false task function args b c = starter_queues task (next_task c) b (with_new_task function args c)

fails_queues : (b : Bool) (task : TaskNo) (fault : Fault) (c : Rig) → (fails b task fault c).rig.queues ≡ c.queues
fails_queues true task fault c = refl
fails_queues false task fault c = refl

kills_by_queues : (b : Bool) (other : TaskNo) (c : Rig) → (kills_by b other c).queues ≡ c.queues
kills_by_queues true other c = refl
kills_by_queues false other c = refl

kills_queues : (b : Bool) (task other : TaskNo) (c : Rig) → (kills b task other c).rig.queues ≡ c.queues
kills_queues true task other c = refl
kills_queues false task other c = kills_by_queues (is_done other c.endings) other c

event_made_queues : (b : Bool) (task : TaskNo) (c : Rig) → (makes_event b task c).rig.queues ≡ c.queues
event_made_queues true task c = refl
event_made_queues false task c = refl

lock_made_queues : (b : Bool) (task : TaskNo) (c : Rig) → (makes_lock b task c).rig.queues ≡ c.queues
lock_made_queues true task c = refl
lock_made_queues false task c = refl

handed_queues : (b : Bool) (l : LockNo) (c : Rig) → (handed_on b l c).queues ≡ c.queues
handed_queues true l c = refl
handed_queues false l c = refl

releases_queues : (b : Bool) (task : TaskNo) (l : LockNo) (c : Rig) → (releases b task l c).rig.queues ≡ c.queues
releases_queues true task l c = handed_queues (is_wanted l c.waiting) l c
releases_queues false task l c = refl

sets_if_queues : (b : Bool) (e : EventNo) (c : Rig) → (sets_if b e c).queues ≡ c.queues
sets_if_queues true e c = refl
sets_if_queues false e c = refl

clears_if_queues : (b : Bool) (e : EventNo) (c : Rig) → (clears_if b e c).queues ≡ c.queues
clears_if_queues true e c = refl
clears_if_queues false e c = refl

pub flags_queues : (a b : Bool) (x y : EventNo) (c : Rig) → (clears_if a x (sets_if b y c)).queues ≡ c.queues
flags_queues a b x y c = clears_if_queues a x (sets_if b y c) ∙ sets_if_queues b y c

-- ---- the items of a queue

-- a list is the same where nothing stands at the place of a change
unset : {A : Type 0} → (xs : List A) (n : ℕ) (x : A) → length xs ≤ n → slice_set xs n x ≡ xs
unset [] n x h = refl
unset (y ∷ ys) zero x h = absurd (omega (arith, h))
unset {A} (y ∷ ys) (suc n) x h = ap (λ (zs : List A). y ∷ zs) (unset ys n x (omega (arith, h)))

-- one more queue without an item
one_more : (qs : List TaskQueue) (x other : TaskQueue) (n : ℕ) → x.items ≡ other.items → (slice_index_or (qs ++ x ∷ []) n other).items ≡ (slice_index_or qs n other).items
one_more [] x other zero e = e
one_more [] x other (suc n) e = refl
one_more (q ∷ qs) x other zero e = refl
one_more (q ∷ qs) x other (suc n) e = one_more qs x other n e

abbrev no_queue : TaskQueue
no_queue = fresh 0 (record { 0 = 0 }) (record { 0 = 0 })

module _ (queue : QueueNo) where
  abbrev pub items_of : List TaskQueue → List Value
  items_of qs = (queue_at queue qs).items

  -- what was there and what is put is what is given and what is there then, where the next turn is this one
  abbrev pub Moves : Option Turned → List TaskQueue → Rig → Type 0
  Moves wanted before c = items_of before ++ stored_by queue wanted (told_of c.running) before ≡ given_by queue wanted (told_of c.running) ++ items_of c.queues

  still : (before after : List TaskQueue) → after ≡ before → items_of before ++ [] ≡ items_of after
  still before after e = append-nil (items_of before) ∙ ap items_of (sym e)

  -- another queue holds these items
  others_hold : (other : QueueNo) (items : List Value) (qs : List TaskQueue) → (other.0 == queue.0) ≡ false → items_of (with_items other items qs) ≡ items_of qs
  others_hold other items qs e = ap (λ (q : TaskQueue). q.items) (other_at qs (holding items (queue_at other qs)) no_queue other.0 queue.0 (other_number other.0 queue.0 e))

  -- there is no such queue
  none_holds : (other : QueueNo) (items : List Value) (qs : List TaskQueue) → nat_lt other.0 (length qs) ≡ false → items_of (with_items other items qs) ≡ items_of qs
  none_holds other items qs e = ap items_of (unset qs other.0 (holding items (queue_at other qs)) (grind (arith, nat_tests)))

  own_holds : (other : QueueNo) (items : List Value) (qs : List TaskQueue) → (other.0 == queue.0) ≡ true → nat_lt other.0 (length qs) ≡ true
      → items_of (with_items other items qs) ≡ items
  own_holds other items qs e l =
      let same : other.0 ≡ queue.0 = eqb-true other.0 queue.0 e in
      subst (λ (n : ℕ). (slice_index_or (with_items other items qs) n no_queue).items ≡ items) same
      (ap (λ (q : TaskQueue). q.items) (own_at qs (holding items (queue_at other qs)) no_queue other.0 (ltb-true other.0 (length qs) l)))

  own_items : (other : QueueNo) (qs : List TaskQueue) → (other.0 == queue.0) ≡ true → items_of qs ≡ (queue_at other qs).items
  own_items other qs e = ap (λ (n : ℕ). (slice_index_or qs n no_queue).items) (sym (eqb-true other.0 queue.0 e))

  -- ---- puts and gets

  put_queue : (other : QueueNo) (item : Value) (c : Rig) → items_of (with_put other item c).queues ≡ items_of (with_item other item c.queues)
  put_queue other item c =
      let old : TaskQueue = queue_at other c.queues in
      ap items_of (flags_queues (has_no_room (queue_at other (with_item other item c.queues))) (is_empty old.items) old.space_event old.items_event
      (record c { queues = with_item other item c.queues }))

  get_queue : (other : QueueNo) (items : List Value) (c : Rig) → items_of (with_get other items c).queues ≡ items_of (with_items other items c.queues)
  get_queue other items c =
      let old : TaskQueue = queue_at other c.queues in
      ap items_of (flags_queues (is_empty items) (has_no_room old) old.items_event old.space_event (record c { queues = with_items other items c.queues }))

  put_moves : (task : TaskNo) (other : QueueNo) (item : Value) (c : Rig) (own there full limit : Bool) → (other.0 == queue.0) ≡ own
      → nat_lt other.0 (length c.queues) ≡ there
      → items_of c.queues ++ stored_when own there (told_of (puts_item full limit task other item c).rig.running) item
      ≡ items_of (puts_item full limit task other item c).rig.queues
  put_moves task other item c false there true limit e l = still c.queues c.queues refl
  put_moves task other item c true false true limit e l = still c.queues c.queues refl
  put_moves task other item c true true true limit e l = still c.queues c.queues refl
  put_moves task other item c false there false true e l = still c.queues c.queues refl
  put_moves task other item c true false false true e l = still c.queues c.queues refl
  put_moves task other item c true true false true e l = still c.queues c.queues refl
  put_moves task other item c false there false false e l =
      append-nil (items_of c.queues) ∙ sym (others_hold other ((queue_at other c.queues).items ++ item ∷ []) c.queues e) ∙ sym (put_queue other item c)
  put_moves task other item c true false false false e l =
      append-nil (items_of c.queues) ∙ sym (none_holds other ((queue_at other c.queues).items ++ item ∷ []) c.queues l) ∙ sym (put_queue other item c)
  put_moves task other item c true true false false e l =
      ap (λ (xs : List Value). xs ++ item ∷ []) (own_items other c.queues e)
      ∙ sym (own_holds other ((queue_at other c.queues).items ++ item ∷ []) c.queues e l) ∙ sym (put_queue other item c)

  -- a queue that wasn't made has no items
  none_there : (other : QueueNo) (item : Value) (items : List Value) (qs : List TaskQueue) → (queue_at other qs).items ≡ item ∷ items
      → nat_lt other.0 (length qs) ≡ true
  none_there other item items qs i = lt-ltb other.0 (length qs) (made qs other.0 i)
    where
      made : (qs : List TaskQueue) (n : ℕ) → (slice_index_or qs n no_queue).items ≡ item ∷ items → n < length qs
      made [] zero i = cc
      made [] (suc n) i = cc
      made (q ∷ qs) zero i = omega (arith)
      made (q ∷ qs) (suc n) i = omega (arith, made qs n i)

  get_moves : (task : TaskNo) (other : QueueNo) (items : List Value) (c : Rig) (own : Bool) → (queue_at other c.queues).items ≡ items → (other.0 == queue.0) ≡ own
      → items_of c.queues ++ [] ≡ given_when own (told_of (gets_item task other items c).rig.running) ++ items_of (gets_item task other items c).rig.queues
  get_moves task other [] c false i e = still c.queues c.queues refl
  get_moves task other [] c true i e = still c.queues c.queues refl
  get_moves task other (item ∷ items) c false i e =
      append-nil (items_of c.queues) ∙ sym (others_hold other items c.queues e) ∙ sym (get_queue other items c)
  get_moves task other (item ∷ items) c true i e =
      append-nil (items_of c.queues) ∙ own_items other c.queues e ∙ i
      ∙ ap (λ (xs : List Value). item ∷ xs) (sym (own_holds other items c.queues e (none_there other item items c.queues i)) ∙ sym (get_queue other items c))

  new_moves : (b : Bool) (task : TaskNo) (bound : ℕ) (c : Rig) → items_of c.queues ++ [] ≡ items_of (makes_queue b task bound c).rig.queues
  new_moves true task bound c = still c.queues c.queues refl
  new_moves false task bound c = append-nil (items_of c.queues) ∙ sym (one_more c.queues (fresh bound (new_event c) (second_event c)) no_queue queue.0 refl)

  -- ---- steps

  effect_moves : (setup : Setup) (task : TaskNo) (t : Turned) (c : Rig) → Moves (Some t) c.queues (effect setup task t c).rig
  effect_moves setup task (turned.Await trig) c = still c.queues _ (awaits_queues task (tree_of trig c.sim.time) (check trig c.sim.time c.sim.region) c)
  effect_moves setup task (turned.Stage sig act) c = still c.queues _ (write_queues (is_end c.sim.region) sig (stages task sig act c) c refl)
  effect_moves setup task (turned.Put sig act) c = still c.queues _ (write_queues (is_end c.sim.region) sig (puts setup task sig act c) c (deposit_queues setup sig act c))
  effect_moves setup task (turned.Start func args give_way) c = still c.queues _ (starts_queues (is_full c) task (function_at setup.functions func) args give_way c)
  effect_moves setup task (turned.Kill other) c = still c.queues _ (kills_queues (other.0 == task.0) task other c)
  effect_moves setup task turned.NewEvent c = still c.queues _ (event_made_queues (nat_le event_limit (length c.objects.events)) task c)
  effect_moves setup task (turned.SetEvent e) c = still c.queues c.queues refl
  effect_moves setup task (turned.ClearEvent e) c = still c.queues c.queues refl
  effect_moves setup task turned.NewLock c = still c.queues _ (lock_made_queues (nat_le lock_limit (length c.objects.locks)) task c)
  effect_moves setup task (turned.Release l) c = still c.queues _ (releases_queues (is_held l c.objects) task l c)
  effect_moves setup task (turned.NewQueue bound) c = new_moves (nat_lt event_limit (length c.objects.events + 2)) task bound c
  effect_moves setup task (turned.PutNow other item) c =
      put_moves task other item c (other.0 == queue.0) (nat_lt other.0 (length c.queues)) (has_no_room (queue_at other c.queues)) (is_at_limit (queue_at other c.queues)) refl refl
  effect_moves setup task (turned.GetNow other) c =
      get_moves task other (queue_at other c.queues).items c (other.0 == queue.0) refl refl
  effect_moves setup task (turned.Draw low span) c = still c.queues c.queues refl
  effect_moves setup task (turned.Log level text) c = still c.queues c.queues refl
  effect_moves setup task (turned.Done v) c = still c.queues c.queues refl
  effect_moves setup task (turned.Raised fault) c = still c.queues _ (fails_queues (is_joined task c.waiting) task fault c)
  effect_moves setup task turned.Spent c = still c.queues c.queues refl

  wish_moves : (setup : Setup) (task : TaskNo) (o : Option Turned) (c : Rig) → Moves o c.queues (effect_of setup task o c).rig
  wish_moves setup task None c = still c.queues c.queues refl
  wish_moves setup task (Some t) c = effect_moves setup task t c

  stepped_moves : (setup : Setup) (r : Running) (o : Option Task) (c : Rig) → Moves (wanted_by setup r o c) c.queues (stepped setup r o c).rig
  stepped_moves setup r None c = still c.queues c.queues refl
  stepped_moves setup r (Some task) c =
      let n = next setup.functions task r.given (view_of setup c) in wish_moves setup r.task n.turned (kept r.task n.task c)

  -- the first that is ready does its step
  resumed_moves : (setup : Setup) (e : Entry) (es : List Entry) (c : Rig) (o : Option Task)
      → Moves (wanted_by setup (taken c e) o c) c.queues (stepped setup (taken c e) o (resumed e es c)).rig
  resumed_moves setup e es c None = still c.queues c.queues refl
  resumed_moves setup e es c (Some task) =
      let n = next setup.functions task (taken c e).given (view_of setup c) in wish_moves setup e.task n.turned (kept e.task n.task (resumed e es c))

  after_queues : (setup : Setup) (o : Option Event) (c : Rig) → (after_event setup o c).rig.queues ≡ c.queues
  after_queues setup None c = refl
  after_queues setup (Some e) c = serve_queues setup e.fired (record c { sim = e.state })

  chosen_moves : (setup : Setup) (running : Option Running) (ready : List Entry) (c : Rig)
      → Moves (wanted_in setup (turn_of running ready c) c) c.queues (chosen setup running ready c).rig
  chosen_moves setup (Some r) ready c = stepped_moves setup r (task_at r.task c.tasks) c
  chosen_moves setup None (e ∷ es) c = resumed_moves setup e es c (task_at (taken c e).task c.tasks)
  chosen_moves setup None [] c = still c.queues _ (after_queues setup (event_of setup c) c)

  -- a step of a test, or of the wait for the next one
  pub step_moves : (setup : Setup) (c : Rig) → Moves (wish setup c) c.queues (rig_step setup c).rig
  step_moves setup c = chosen_moves setup c.running c.ready c
