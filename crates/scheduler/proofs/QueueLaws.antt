-- Where a new queue, a put into a queue and what is taken out of one lead.
use Rattle.std.proofs.Common.{◌≡◌, ℕ, zero, suc, ◌+◌, ◌<◌, ◌≤◌, Bool, true, false, List, [], ◌∷◌, ◌++◌, length, get_or, Option, Some, refl, ap, sym, ◌∙◌, arith}
use Rattle.std.proofs.lemmas.Bool.Decides.{nat_tests}
use Rattle.std.proofs.lemmas.List.{get_or-set_same, length-set}
use Rattle.std.specs.Prelude.{◌==◌, if◌then◌else◌, drop, slice_set}
use Rattle.gpi.specs.Content.{Content}
use Rattle.gpi.specs.declared.interface.Gpi.{Ghosts as GpiGhosts}
use Rattle.py_syntax.specs.declared.fault_kind.FaultKind.{FaultKind}
use Rattle.py_syntax.specs.declared.fault_kind.FaultKind.TheVariants.{QueueEmpty, QueueFull, RuntimeError}
use Rattle.py_evaluate.specs.Attribute.Look.{View}
use Rattle.py_value.specs.Answer.{plain_fault}
use Rattle.py_value.specs.declared.trigger.EventNo.{EventNo}
use Rattle.py_value.specs.declared.trigger.QueueNo.{QueueNo}
use Rattle.py_value.specs.declared.trigger.TaskNo.{TaskNo}
use Rattle.py_value.specs.declared.value.Value.{Value}
use Rattle.py_value.specs.declared.value.Value.TheVariants as value
use Rattle.await_tree.specs.declared.cause.Cause.TheVariants as cause
use Rattle.await_tree.specs.declared.cause.Given.{Given}
use Rattle.await_tree.specs.declared.cause.Given.TheVariants as given
use Rattle.await_tree.specs.SyncObjects.States.{States, with_set, with_unset}
use Rattle.task_queue.specs.Puts.{Gives, after_put, put_answer}
use Rattle.task_queue.specs.Queues.{TaskQueue, fresh, holding, is_at_limit, is_empty, is_full, queue_at, with_item, with_items}
use Rattle.task_queue.specs.declared.kept.PutAnswer.{PutAnswer}
use Rattle.task_queue.specs.declared.kept.PutAnswer.TheVariants.{Stored, Full, AtLimit}
use Rattle.run_view.specs.View.{HasEvents, HaveEvents}
use Rattle.rig_model.specs.Run.Effect.{clears_if, effect, gets_item, goes_on, puts_item, sets_if}
use Rattle.rig_model.specs.Run.Known.{KnowsQueues}
use Rattle.rig_model.specs.Run.Rig.{Rig, Setup}
use Rattle.rig_model.specs.Parts.Queue.{Leads, Queue}
use Rattle.rig_model.specs.declared.task.task.Turned.TheVariants as turned
use Rattle.run_state.specs.Queue.Effects.{waking}
use Rattle.scheduler.specs.Parts.{Means, Parts, rig_by}
use Rattle.scheduler.specs.TestFits.{HasQueues, HasTurn, KeptFit}
use Rattle.scheduler.specs.declared.test.RunningTest.{RunningTest}
use Rattle.scheduler.specs.QueueEffects.{get_told, put_told}
use Rattle.scheduler.proofs.Leading.{with_objects}

-- ---- the events of known queues were made

pub queues_made : (v : View) (queues : List TaskQueue) → KnowsQueues v queues → (k : ℕ) (q : TaskQueue) → k < length queues
    → HasEvents (length v.events) (get_or queues k q)
queues_made v [] h k q l = absurd (omega arith)
queues_made v (x ∷ xs) h zero q l = h.0.1
queues_made v (x ∷ xs) h (suc k) q l = queues_made v xs h.1 k q (omega (arith, l))

-- another queue in the place of one, whose events were made
set_made : (n : ℕ) (queues : List TaskQueue) (i : ℕ) (q : TaskQueue) → HasEvents n q → ((k : ℕ) (d : TaskQueue) → k < length queues → HasEvents n (get_or queues k d))
    → (k : ℕ) (d : TaskQueue) → k < length (slice_set queues i q) → HasEvents n (get_or (slice_set queues i q) k d)
set_made n [] i q own h k d l = absurd (omega arith)
set_made n (x ∷ xs) zero q own h zero d l = own
set_made n (x ∷ xs) zero q own h (suc k) d l = h (suc k) d l
set_made n (x ∷ xs) (suc i) q own h zero d l = h 0 d (omega arith)
set_made n (x ∷ xs) (suc i) q own h (suc k) d l = set_made n xs i q own (λ j e m. h (suc j) e (omega (arith, m))) k d (omega (arith, l))

pub as_many : (queue : QueueNo) (items : List Value) (queues : List TaskQueue) → length (with_items queue items queues) ≡ length queues
as_many queue items queues = length-set queues queue.0 (holding items (queue_at queue queues))

module _ {M W F : Type 0} (t t' : RunningTest M W F) (queue : QueueNo) (items : List Value) (objects_are : t'.objects ≡ t.objects) (inside : queue.0 < length t.queues) (h : HasQueues t) where
  pub items_queues : t'.queues ≡ with_items queue items t.queues → HasQueues t'
  items_queues is = record {
    made = rw (is, objects_are) (set_made (length t.objects.events) t.queues queue.0 (holding items (queue_at queue t.queues)) (h.made queue.0 _ inside) h.made);
    few = rw (is, objects_are, as_many queue items t.queues) h.few;
  }

-- what stays, where what is ready, what waits and the tasks are the same
pub stays_aside : {M W F K : Type 0} (m : Means M W F) (gpi : GpiGhosts K) (before mid after : RunningTest M W F) (kernel kernel' : K) → KeptFit m gpi before kernel mid kernel'
    → after.queue ≡ mid.queue → after.tasks ≡ mid.tasks → KeptFit m gpi before kernel after kernel'
stays_aside m gpi before mid after kernel kernel' h q t = record {
  fits = λ flat f. rw q (h.fits flat f);
  kept = record { loaded = h.kept.loaded; keeps = rw q h.kept.keeps; maker = rw t h.kept.maker };
}

-- a task has its turn still, where only queues have changed
pub turn_aside : {M W F K : Type 0} (m : Means M W F) (gpi : GpiGhosts K) (task : TaskNo) (t : RunningTest M W F) (queues : List TaskQueue) (kernel : K) → HasTurn m gpi task t kernel
    → HasTurn m gpi task (record t { queues = queues }) kernel
turn_aside m gpi task t queues kernel h = record {
  loaded = h.loaded;
  keeps = h.keeps;
  room = record { whole = h.room.whole; room_is = h.room.room_is };
  stands = record { placed_are = h.stands.placed_are; live = h.stands.live };
}

-- ---- tests of the code

pub none_held : (items : List Value) → (length items == 0) ≡ is_empty items
none_held [] = refl
none_held (item ∷ items) = grind (arith, nat_tests)

stored_when : (full limit : Bool) → Stored ≡ (if full then Full else (if limit then AtLimit else Stored)) → (full ≡ false) × (limit ≡ false)
stored_when true limit h = cc
stored_when false true h = cc
stored_when false false h = (refl, refl)

full_when : (full limit : Bool) → Full ≡ (if full then Full else (if limit then AtLimit else Stored)) → full ≡ true
full_when true limit h = refl
full_when false true h = cc
full_when false false h = cc

limit_when : (full limit : Bool) → AtLimit ≡ (if full then Full else (if limit then AtLimit else Stored)) → (full ≡ false) × (limit ≡ true)
limit_when true limit h = cc
limit_when false true h = (refl, refl)
limit_when false false h = cc

-- ---- the queue whose items change

items_at : (queue : QueueNo) (items : List Value) (queues : List TaskQueue) → queue.0 < length queues
    → queue_at queue (with_items queue items queues) ≡ holding items (queue_at queue queues)
items_at queue items queues inside =
    get_or-set_same queues queue.0 (holding items (queue_at queue queues)) (fresh 0 (record { 0 = 0 }) (record { 0 = 0 })) inside

abbrev pub with_queues : List TaskQueue → Parts → Parts
with_queues queues p = record p { queues = queues }

-- ---- its events

-- the event is set, or it isn't
pub set_so : (b : Bool) (event : EventNo) (p : Parts) (q : Queue) (k : Content) (objects : States) (q' : Queue) (k' : Content) → b ≡ true
    → objects ≡ with_set event p.objects → Leads (waking (cause.Event event)) q k q' k' → sets_if b event (rig_by p q k) ≡ rig_by (with_objects objects p) q' k'
set_so b event p q k objects q' k' h is l =
    ap (λ (x : Bool). sets_if x event (rig_by p q k)) h
    ∙ l (rig_by (with_objects (with_set event p.objects) p) q k)
    ∙ ap (λ (x : States). rig_by (with_objects x p) q' k') (sym is)

pub set_not : (b : Bool) (event : EventNo) (c : Rig) → b ≡ false → sets_if b event c ≡ c
set_not b event c h = ap (λ (x : Bool). sets_if x event c) h

-- the event is cleared, or it isn't
pub clear_so : (b : Bool) (event : EventNo) (p : Parts) (q : Queue) (k : Content) (objects : States) → b ≡ true → objects ≡ with_unset event p.objects
    → clears_if b event (rig_by p q k) ≡ rig_by (with_objects objects p) q k
clear_so b event p q k objects h is =
    ap (λ (x : Bool). clears_if x event (rig_by p q k)) h ∙ ap (λ (x : States). rig_by (with_objects x p) q k) (sym is)

pub clear_not : (b : Bool) (event : EventNo) (c : Rig) → b ≡ false → clears_if b event c ≡ c
clear_not b event c h = ap (λ (x : Bool). clears_if x event c) h

module _ (b test : Bool) (queue : QueueNo) (items space : EventNo) (c d e : Rig) (items_is : items ≡ (queue_at queue c.queues).items_event)
    (space_is : space ≡ (queue_at queue c.queues).space_event) where
  abbrev own : TaskQueue
  own = queue_at queue c.queues

  pub put_tells : test ≡ is_full own → sets_if b items c ≡ d → clears_if test space d ≡ e → put_told b queue c ≡ e
  put_tells t s h =
      ap (λ (x : EventNo). clears_if (is_full own) own.space_event (sets_if b x c)) (sym items_is)
      ∙ ap (λ (x : Rig). clears_if (is_full own) own.space_event x) s
      ∙ ap (λ (x : EventNo). clears_if (is_full own) x d) (sym space_is)
      ∙ ap (λ (x : Bool). clears_if x space d) (sym t)
      ∙ h

  pub get_tells : test ≡ is_empty own.items → sets_if b space c ≡ d → clears_if test items d ≡ e → get_told b queue c ≡ e
  get_tells t s h =
      ap (λ (x : EventNo). clears_if (is_empty own.items) own.items_event (sets_if b x c)) (sym space_is)
      ∙ ap (λ (x : Rig). clears_if (is_empty own.items) own.items_event x) s
      ∙ ap (λ (x : EventNo). clears_if (is_empty own.items) x d) (sym items_is)
      ∙ ap (λ (x : Bool). clears_if x items d) (sym t)
      ∙ h

-- ---- effects

abbrev Refused : FaultKind → Given
Refused kind = given.Fault (plain_fault kind)

module _ (setup : Setup) (task : TaskNo) (p : Parts) (q : Queue) (k : Content) where
  abbrev c : Rig
  c = rig_by p q k

  -- ---- puts

  module _ (queue : QueueNo) (item : Value) (queues : List TaskQueue) (answer : PutAnswer) (answer_is : answer ≡ put_answer (queue_at queue p.queues))
      (queues_are : queues ≡ after_put answer queue item p.queues) where
    abbrev before : TaskQueue
    before = queue_at queue p.queues

    abbrev put_by : Bool → Bool → Rig
    put_by full limit = (puts_item full limit task queue item c).rig

    same_queues : (a : PutAnswer) → answer ≡ a → queues ≡ after_put a queue item p.queues
    same_queues a h = queues_are ∙ ap (λ (x : PutAnswer). after_put x queue item p.queues) h

    pub put_full : answer ≡ Full → (effect setup task (turned.PutNow queue item) c).rig ≡ goes_on task (Some (Refused QueueFull)) (rig_by (with_queues queues p) q k)
    put_full h =
        ap (λ (b : Bool). put_by b (is_at_limit before)) (full_when (is_full before) (is_at_limit before) (sym h ∙ answer_is))
        ∙ ap (λ (qs : List TaskQueue). goes_on task (Some (Refused QueueFull)) (rig_by (with_queues qs p) q k)) (sym (same_queues Full h))

    pub put_limit : answer ≡ AtLimit → (effect setup task (turned.PutNow queue item) c).rig ≡ goes_on task (Some (Refused RuntimeError)) (rig_by (with_queues queues p) q k)
    put_limit h =
        let w = limit_when (is_full before) (is_at_limit before) (sym h ∙ answer_is) in
        ap (λ (b : Bool). put_by b (is_at_limit before)) w.0
        ∙ ap (λ (b : Bool). put_by false b) w.1
        ∙ ap (λ (qs : List TaskQueue). goes_on task (Some (Refused RuntimeError)) (rig_by (with_queues qs p) q k)) (sym (same_queues AtLimit h))

    module _ (inside : queue.0 < length p.queues) (was_empty : Bool) (empty_is : was_empty ≡ (length before.items == 0)) (h : answer ≡ Stored) where
      abbrev stored : List TaskQueue
      stored = with_item queue item p.queues

      here : queue_at queue stored ≡ holding (before.items ++ item ∷ []) before
      here = items_at queue (before.items ++ item ∷ []) p.queues inside

      abbrev told_by : EventNo → EventNo → Rig
      told_by items space = clears_if (is_full (queue_at queue stored)) space (sets_if (is_empty before.items) items (rig_by (with_queues stored p) q k))

      pub put_stored : (d : Rig) → put_told was_empty queue (rig_by (with_queues queues p) q k) ≡ d
          → (effect setup task (turned.PutNow queue item) c).rig ≡ goes_on task (Some (given.Value value.Absent)) d
      put_stored d is =
          let w = stored_when (is_full before) (is_at_limit before) (sym h ∙ answer_is) in
          ap (λ (b : Bool). put_by b (is_at_limit before)) w.0
          ∙ ap (λ (b : Bool). put_by false b) w.1
          ∙ ap (goes_on task (Some (given.Value value.Absent)))
          (ap (λ (e : EventNo). told_by e before.space_event) (sym (ap (λ (x : TaskQueue). x.items_event) here))
          ∙ ap (λ (e : EventNo). told_by (queue_at queue stored).items_event e) (sym (ap (λ (x : TaskQueue). x.space_event) here))
          ∙ ap (λ (b : Bool). put_told b queue (rig_by (with_queues stored p) q k)) (sym (empty_is ∙ none_held before.items))
          ∙ ap (λ (qs : List TaskQueue). put_told was_empty queue (rig_by (with_queues qs p) q k)) (sym (same_queues Stored h))
          ∙ is)

  -- ---- what is taken out

  module _ (queue : QueueNo) where
    abbrev own_queue : TaskQueue
    own_queue = queue_at queue p.queues

    pub get_none : (queues : List TaskQueue) → own_queue.items ≡ [] → queues ≡ p.queues
        → (effect setup task (turned.GetNow queue) c).rig ≡ goes_on task (Some (Refused QueueEmpty)) (rig_by (with_queues queues p) q k)
    get_none queues e same =
        ap (λ (items : List Value). (gets_item task queue items c).rig) e
        ∙ ap (λ (qs : List TaskQueue). goes_on task (Some (Refused QueueEmpty)) (rig_by (with_queues qs p) q k)) (sym same)

    module _ (item : Value) (queues : List TaskQueue) (g : Gives queue item p.queues queues) (inside : queue.0 < length p.queues) (was_full : Bool)
        (full_is : was_full ≡ is_full own_queue) where
      abbrev others : List Value
      others = drop 1 own_queue.items

      abbrev left : List TaskQueue
      left = with_items queue others p.queues

      there : queue_at queue left ≡ holding others own_queue
      there = items_at queue others p.queues inside

      abbrev left_by : List Value → EventNo → EventNo → Rig
      left_by items one two = clears_if (is_empty items) one (sets_if (is_full own_queue) two (rig_by (with_queues left p) q k))

      pub get_given : (d : Rig) → get_told was_full queue (rig_by (with_queues queues p) q k) ≡ d
          → (effect setup task (turned.GetNow queue) c).rig ≡ goes_on task (Some (given.Value item)) d
      get_given d is =
          ap (λ (items : List Value). (gets_item task queue items c).rig) g.oldest
          ∙ ap (goes_on task (Some (given.Value item)))
          (ap (λ (items : List Value). left_by items own_queue.items_event own_queue.space_event) (sym (ap (λ (x : TaskQueue). x.items) there))
          ∙ ap (λ (e : EventNo). left_by (queue_at queue left).items e own_queue.space_event) (sym (ap (λ (x : TaskQueue). x.items_event) there))
          ∙ ap (λ (e : EventNo). left_by (queue_at queue left).items (queue_at queue left).items_event e) (sym (ap (λ (x : TaskQueue). x.space_event) there))
          ∙ ap (λ (b : Bool). get_told b queue (rig_by (with_queues left p) q k)) (sym full_is)
          ∙ ap (λ (qs : List TaskQueue). get_told was_full queue (rig_by (with_queues qs p) q k)) (sym g.others)
          ∙ is)
