-- What a put leads to is told by what its task is given.
use Rattle.std.proofs.Common.{◌≡◌, ℕ, ◌<◌, Bool, true, false, List, [], ◌∷◌, ◌++◌, length, Option, None, Some, refl, ap, sym, subst, ◌∙◌, append-nil, arith, inl, inr}
use Rattle.std.specs.Prelude.{◌==◌, nat_lt, IfSome}
use Rattle.std.proofs.lemmas.Bool.{lt-ltb}
use Rattle.std.proofs.lemmas.Bool.Decides.{nat_tests}
use Rattle.std.proofs.lemmas.List.{length-map}
use Rattle.py_syntax.specs.declared.fault_kind.FaultKind.{FaultKind}
use Rattle.py_value.specs.Answer.{plain_fault}
use Rattle.py_value.specs.declared.trigger.QueueNo.{QueueNo}
use Rattle.py_value.specs.declared.value.Value.{Value}
use Rattle.py_value.specs.declared.value.Value.TheVariants as value
use Rattle.py_value.specs.declared.value.Fault.{Fault}
use Rattle.task_queue.specs.Queues.{TaskQueue, queue_at, is_full as has_no_room, is_at_limit}
use Rattle.await_tree.specs.declared.cause.Given.{Given}
use Rattle.await_tree.specs.declared.cause.Given.TheVariants as given
use Rattle.await_tree.specs.declared.wait_list.ready.Entry.{Entry}
use Rattle.test_meaning.specs.Body.BodyTrees.{Case}
use Rattle.rig_model.specs.Task.Frame.{Task}
use Rattle.rig_model.specs.Task.Known.{KnowsGiven, KnowsTurned, KnowsWhole}
use Rattle.rig_model.specs.Task.Step.{next}
use Rattle.rig_model.proofs.TaskLemmas.StepKnown.{next_is_known}
use Rattle.rig_model.proofs.RunLemmas.Lists.{at_known, events_known}
use Rattle.rig_model.specs.Run.Known.{IsKnown, KnowsReady, KnowsRunning}
use Rattle.rig_model.specs.declared.task.task.Turned.{Turned}
use Rattle.rig_model.specs.declared.task.task.Turned.TheVariants as turned
use Rattle.rig_model.specs.Run.Effect.{effect_of, puts_item}
use Rattle.rig_model.specs.Run.Rig.{Rig, Setup, Running, view_of}
use Rattle.rig_model.specs.Run.Run.{Run}
use Rattle.rig_model.specs.Run.Step.{chosen, kept, resumed, rig_step, stepped, taken, task_at}
use Rattle.run_view.specs.View.{seen}
use Rattle.run_laws.specs.Items.Account.{IsPutAnswer, given_by, goes_on_with, goes_on_with_fault, goes_on_with_value, stored_by, stored_when, told_after, told_of, wanted_by, wanted_in, wish}
use Rattle.run_laws.specs.Places.Reached.{IsReached, IsSoundSetup}
use Rattle.run_laws.specs.Remainder.Alike.{turn_of}
use Rattle.run_laws.proofs.PlacesLemmas.Known.{reached_known, told_known}
use Rattle.run_laws.proofs.ItemsLemmas.Queues.{items_of, step_moves}

module _ (setup : Setup) (queue : QueueNo) (item : Value) where
  abbrev Puts : Option Turned → Type 0
  Puts wanted = wanted ≡ Some (turned.PutNow queue item)

  -- ---- the items

  told_given : (g : Given) (turn : Option Running) (c : Rig) → Puts (wanted_in setup turn c) → told_of (goes_on_with g turn) ≡ Some g
  told_given g None c w = cc
  told_given g (Some r) c w = refl

  none_taken : (c : Rig) → Puts (wish setup c) → given_by queue (wish setup c) (told_after setup c) ≡ []
  none_taken c w = ap (λ (t : Option Turned). given_by queue t (told_after setup c)) w

  own_stored : (g : Given) (qs : List TaskQueue) (t : Option Turned) (told : Option Given) → Puts t → told ≡ Some g
      → stored_by queue t told qs ≡ stored_when (queue.0 == queue.0) (nat_lt queue.0 (length qs)) (Some g) item
  own_stored g qs t told w e =
      ap (λ (x : Option Turned). stored_by queue x told qs) w ∙ ap (λ (x : Option Given). stored_by queue (Some (turned.PutNow queue item)) x qs) e

  -- the items of before and what counts as stored
  put_moved : (g : Given) (c : Rig) → Puts (wish setup c) → (rig_step setup c).rig.running ≡ goes_on_with g (turn_of c.running c.ready c)
      → items_of queue (rig_step setup c).rig.queues
      ≡ items_of queue c.queues ++ stored_when (queue.0 == queue.0) (nat_lt queue.0 (length c.queues)) (Some g) item
  put_moved g c w e =
      let told : told_after setup c ≡ Some g = ap told_of e ∙ told_given g (turn_of c.running c.ready c) c w in
      sym (ap (λ (xs : List Value). xs ++ items_of queue (rig_step setup c).rig.queues) (none_taken c w))
      ∙ sym (step_moves queue setup c)
      ∙ ap (λ (xs : List Value). items_of queue c.queues ++ xs) (own_stored g c.queues (wish setup c) (told_after setup c) w told)

  none_refused : (fault : Fault) (own there : Bool) → stored_when own there (Some (given.Fault fault)) item ≡ []
  none_refused fault true true = refl
  none_refused fault true false = refl
  none_refused fault false true = refl
  none_refused fault false false = refl

  pub put_stored : (c : Rig) → Puts (wish setup c) → queue.0 < length c.queues
      → (rig_step setup c).rig.running ≡ goes_on_with_value value.Absent (turn_of c.running c.ready c)
      → items_of queue (rig_step setup c).rig.queues ≡ items_of queue c.queues ++ item ∷ []
  put_stored c w l e =
      let own : (queue.0 == queue.0) ≡ true = grind (arith, nat_tests) in
      put_moved (given.Value value.Absent) c w e
      ∙ ap (λ (xs : List Value). items_of queue c.queues ++ xs) (rw (own, lt-ltb queue.0 (length c.queues) l) refl)

  pub put_refused : (kind : FaultKind) (c : Rig) → Puts (wish setup c)
      → (rig_step setup c).rig.running ≡ goes_on_with_fault kind (turn_of c.running c.ready c)
      → items_of queue (rig_step setup c).rig.queues ≡ items_of queue c.queues
  put_refused kind c w e =
      put_moved (given.Fault (plain_fault kind)) c w e
      ∙ ap (λ (xs : List Value). items_of queue c.queues ++ xs)
      (none_refused (plain_fault kind) (queue.0 == queue.0) (nat_lt queue.0 (length c.queues)))
      ∙ append-nil (items_of queue c.queues)

  -- ---- the answer

  answered : (r : Running) (full limit : Bool) (c : Rig) → IsPutAnswer (Some r) (puts_item full limit r.task queue item c).rig.running
  answered r true limit c = inr (inl refl)
  answered r false true c = inr (inr refl)
  answered r false false c = inl refl

  wish_answered : (r : Running) (o : Option Turned) (c : Rig) → Puts o → IsPutAnswer (Some r) (effect_of setup r.task o c).rig.running
  wish_answered r o c w =
      subst (λ (t : Option Turned). IsPutAnswer (Some r) (effect_of setup r.task t c).rig.running) (sym w)
      (answered r (has_no_room (queue_at queue c.queues)) (is_at_limit (queue_at queue c.queues)) c)

  stepped_answered : (r : Running) (o : Option Task) (c : Rig) → Puts (wanted_by setup r o c) → IsPutAnswer (Some r) (stepped setup r o c).rig.running
  stepped_answered r None c w = cc
  stepped_answered r (Some task) c w =
      let n = next setup.functions task r.given (view_of setup c) in wish_answered r n.turned (kept r.task n.task c) w

  resumed_answered : (x : Entry) (xs : List Entry) (c : Rig) (o : Option Task) → Puts (wanted_by setup (taken c x) o c)
      → IsPutAnswer (Some (taken c x)) (stepped setup (taken c x) o (resumed x xs c)).rig.running
  resumed_answered x xs c None w = cc
  resumed_answered x xs c (Some task) w =
      let n = next setup.functions task (taken c x).given (view_of setup c) in wish_answered (taken c x) n.turned (kept x.task n.task (resumed x xs c)) w

  chosen_answered : (running : Option Running) (ready : List Entry) (c : Rig) → Puts (wanted_in setup (turn_of running ready c) c)
      → IsPutAnswer (turn_of running ready c) (chosen setup running ready c).rig.running
  chosen_answered (Some r) ready c w = stepped_answered r (task_at r.task c.tasks) c w
  chosen_answered None (x ∷ xs) c w = resumed_answered x xs c (task_at (taken c x).task c.tasks) w
  chosen_answered None [] c w = cc

  pub put_answered : (c : Rig) → Puts (wish setup c) → IsPutAnswer (turn_of c.running c.ready c) (rig_step setup c).rig.running
  put_answered c w = chosen_answered c.running c.ready c w

-- ---- the queue

module _ (setup : Setup) (sound : IsSoundSetup setup) where
  abbrev IsWanted : Rig → Option Turned → Type 0
  IsWanted c o = IfSome o (KnowsTurned setup.functions (view_of setup c))

  wanted_known : (r : Running) (o : Option Task) (c : Rig) → IsKnown setup c → IfSome o (KnowsWhole setup.functions (view_of setup c))
      → IfSome r.given (KnowsGiven (view_of setup c)) → IsWanted c (wanted_by setup r o c)
  wanted_known r None c k t g = tt
  wanted_known r (Some task) c k t g =
      (next_is_known setup.functions task r.given (view_of setup c) k.design (events_known setup c k.parts.queues_known) t g).1

  turn_known : (running : Option Running) (ready : List Entry) (c : Rig) → c.running ≡ running → c.ready ≡ ready → IsKnown setup c
      → IsWanted c (wanted_in setup (turn_of running ready c) c)
  turn_known (Some r) ready c e s k =
      wanted_known r (task_at r.task c.tasks) c k (at_known setup.functions (view_of setup c) r.task c.tasks k.parts.tasks_known)
      (subst (λ (o : Option Running). IfSome o (KnowsRunning (view_of setup c))) e k.parts.running_known)
  turn_known None (x ∷ xs) c e s k =
      let r : KnowsReady (view_of setup c) (x ∷ xs) = subst (λ (es : List Entry). KnowsReady (view_of setup c) es) s k.parts.ready_known in
      wanted_known (taken c x) (task_at x.task c.tasks) c k (at_known setup.functions (view_of setup c) x.task c.tasks k.parts.tasks_known)
      (told_known setup sound c x.given k r.0)
  turn_known None [] c e s k = tt

  wish_made : (queue : QueueNo) (item : Value) (c : Rig) → IsKnown setup c → wish setup c ≡ Some (turned.PutNow queue item) → queue.0 < length c.queues
  wish_made queue item c k w =
      let h : IsWanted c (Some (turned.PutNow queue item)) = subst (λ (o : Option Turned). IsWanted c o) w (turn_known c.running c.ready c refl refl k) in
      subst (λ (n : ℕ). queue.0 < n) (length-map c.queues seen) h.0

pub put_made : (setup : Setup) (seed : ℕ) (cases : List Case) (run : Run) (queue : QueueNo) (item : Value) → IsSoundSetup setup
    → IsReached setup seed cases run → wish setup run.rig ≡ Some (turned.PutNow queue item) → queue.0 < length run.rig.queues
put_made setup seed cases run queue item s r w = wish_made setup s queue item run.rig (reached_known setup seed cases run s r) w
