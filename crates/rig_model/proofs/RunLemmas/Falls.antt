-- A step at no cost lessens a weight: of what tasks have still to do, and of turns that may still begin.
use Rattle.std.proofs.Common.{◌≡◌, ℕ, zero, suc, ◌+◌, ◌≤◌, ◌<◌, ◌⊎◌, Bool, true, false, List, [], ◌∷◌, ◌++◌, length, Option, None, Some, refl, ap, ◌∙◌, arith, inl, inr, length-append}
use Rattle.std.specs.Prelude.{◌==◌, not, filter, cond, nat_le, nat_lt}
use Rattle.gpi.specs.State.{is_end}
use Rattle.gpi.specs.Keys.{set_of}
use Rattle.gpi.specs.Events.{Event}
use Rattle.gpi.specs.declared.types.Key.{Key}
use Rattle.gpi.specs.declared.types.SigId.{SigId}
use Rattle.gpi.specs.declared.types.Write.{Write}
use Rattle.py_value.specs.declared.trigger.TaskNo.{TaskNo}
use Rattle.py_value.specs.declared.trigger.EventNo.{EventNo}
use Rattle.py_value.specs.declared.trigger.LockNo.{LockNo}
use Rattle.py_value.specs.declared.trigger.QueueNo.{QueueNo}
use Rattle.py_value.specs.declared.value.Value.{Value}
use Rattle.py_value.specs.declared.value.Fault.{Fault}
use Rattle.task_queue.specs.Queues.{TaskQueue, queue_at, is_full as has_no_room, is_at_limit, is_empty, with_items, with_item}
use Rattle.await_tree.specs.declared.cause.Cause.{Cause}
use Rattle.await_tree.specs.declared.cause.Cause.TheVariants as cause
use Rattle.await_tree.specs.declared.cause.Step.{Step}
use Rattle.await_tree.specs.declared.cause.Step.TheVariants.{Still, Done}
use Rattle.await_tree.specs.Tree.{Tree}
use Rattle.await_tree.specs.Begin.{begin}
use Rattle.await_tree.specs.Steps.{step_of}
use Rattle.await_tree.specs.Fire.{fire, grant}
use Rattle.await_tree.specs.Check.{tree_of, check}
use Rattle.await_tree.specs.EndedTasks.Endings.{is_done}
use Rattle.await_tree.specs.SyncObjects.States.{with_set, is_held, event_limit, lock_limit}
use Rattle.rig_model.specs.Task.Frame.{Task}
use Rattle.rig_model.specs.Task.Step.{next}
use Rattle.rig_model.specs.Task.Cost.{next_cost}
use Rattle.rig_model.specs.declared.task.task.Turned.{Turned}
use Rattle.rig_model.specs.declared.task.task.Turned.TheVariants as turned
use Rattle.await_tree.specs.declared.wait_list.ready.Entry.{Entry}
use Rattle.await_tree.specs.WaitList.Ring.{is_entry_of, without_entry}
use Rattle.await_tree.specs.WaitList.Waiting.{Waiting, is_of, without_task, entry_of, left_of, woken, still_waiting, wants, is_wanted, is_joined, granted}
use Rattle.await_tree.specs.declared.ended_tasks.ending.Ending.{Ending}
use Rattle.await_tree.specs.declared.ended_tasks.ending.Ending.TheVariants.{Returned, Failed, Killed}
use Rattle.rig_model.specs.declared.run.outcome.Outcome.{Outcome}
use Rattle.rig_model.specs.Run.Rig.{Rig, Setup, Running, After, event_of, view_of, facts_of, awaited, procs}
use Rattle.rig_model.specs.Run.Serve.{wake, serve_keys, with_fired, after_put, written, deposit}
use Rattle.rig_model.specs.Run.Effect.{is_numbered, with_end, withdrawn, begun_by, awaits_by, write_by, stages, puts, returned, fails, kills_by, kills, makes_event, makes_lock, releases, handed_on, makes_queue, sets_if, clears_if, with_put, puts_item, with_get, gets_item, effect, effect_of}
use Rattle.rig_model.specs.Run.Step.{task_at, stored, taken, stepped, kept, after_event, resumed, chosen, rig_step, Stepped}
use Rattle.rig_model.proofs.RunLemmas.Starts.{is_start, free_starts_none}
use Rattle.rig_model.proofs.RunLemmas.Free.{weight, given_count, lasts, nothing_falls, wish_falls}

abbrev weights : List Task → ℕ
weights [] = 0
weights (t ∷ ts) = weight t + weights ts

abbrev weight_in : Option Task → ℕ
weight_in None = 0
weight_in (Some t) = weight t

abbrev running_weight : Option Running → ℕ
running_weight None = 0
running_weight (Some r) = 1 + given_count r.given

abbrev outcome_weight : Option Outcome → ℕ
outcome_weight None = 1
outcome_weight (Some o) = 0

-- how many tasks may still have a turn
abbrev places : Rig → ℕ
places c = length c.ready + length c.waiting

-- without the turn that is on
abbrev rest_mass : Rig → ℕ
rest_mass c = places c + places c + outcome_weight c.outcome + weights c.tasks

abbrev pub mass : Rig → ℕ
mass c = running_weight c.running + rest_mass c

outcome_le : (o : Option Outcome) → outcome_weight o ≤ 1
outcome_le None = omega arith
outcome_le (Some o) = omega arith

-- ---- tasks

filter_length : {A : Type 0} → (p : A → Bool) (xs : List A) → length (filter p xs) ≤ length xs
filter_length p [] = omega arith
filter_length p (x ∷ xs) = decided (p x) (filter_length p xs)
  where
    decided : (b : Bool) → length (filter p xs) ≤ length xs → length (cond b (x ∷ filter p xs) (filter p xs)) ≤ suc (length xs)
    decided true h = omega arith
    decided false h = omega arith

filter_weights : (p : Task → Bool) (ts : List Task) → weights (filter p ts) ≤ weights ts
filter_weights p [] = omega arith
filter_weights p (t ∷ ts) = decided (p t) (filter_weights p ts)
  where
    decided : (b : Bool) → weights (filter p ts) ≤ weights ts → weights (cond b (t ∷ filter p ts) (filter p ts)) ≤ weight t + weights ts
    decided true h = omega arith
    decided false h = omega arith

stored_weight : (number : TaskNo) (task n : Task) (ts : List Task) → task_at number ts ≡ Some task → weights (stored number n ts) + weight task ≡ weights ts + weight n
stored_weight number task n [] h = cc
stored_weight number task n (t ∷ ts) h = decided (is_numbered number t) refl (stored_weight number task n ts)
  where
    decided : (b : Bool) → is_numbered number t ≡ b → (task_at number ts ≡ Some task → weights (stored number n ts) + weight task ≡ weights ts + weight n)
        → weights (stored number n (t ∷ ts)) + weight task ≡ weight t + weights ts + weight n
    decided true e more =
        let same : weight t ≡ weight task = ap (λ (o : Option Task). weight_in o) (rw e at h) in rw e (omega arith)
    decided false e more = rw e (let k : weights (stored number n ts) + weight task ≡ weights ts + weight n = more (rw e at h) in omega arith)

-- ---- what is woken no more waits

one_place : (s : Step) (task : TaskNo) (t : Tree) → length (entry_of task s) + length (left_of task t s) ≡ 1
one_place Still task t = refl
one_place (Done g) task t = refl

woken_length : (c : Cause) (ws : List Waiting) → length (woken c ws) + length (still_waiting c ws) ≡ length ws
woken_length c [] = refl
woken_length c (w ∷ ws) =
    let s : Step = step_of (fire c w.tree) in
    let a : length (entry_of w.task s ++ woken c ws) ≡ length (entry_of w.task s) + length (woken c ws) = length-append (entry_of w.task s) (woken c ws) in
    let b : length (left_of w.task (fire c w.tree) s ++ still_waiting c ws) ≡ length (left_of w.task (fire c w.tree) s) + length (still_waiting c ws)
    = length-append (left_of w.task (fire c w.tree) s) (still_waiting c ws) in
    let k : length (entry_of w.task s) + length (left_of w.task (fire c w.tree) s) ≡ 1 = one_place s w.task (fire c w.tree) in
    let m : length (woken c ws) + length (still_waiting c ws) ≡ length ws = woken_length c ws in
    omega arith

wake_mass : (on : Cause) (c : Rig) → rest_mass (wake on c) ≡ rest_mass c
wake_mass on c =
    let a : length (c.ready ++ woken on c.waiting) ≡ length c.ready + length (woken on c.waiting) = length-append c.ready (woken on c.waiting) in
    let m : length (woken on c.waiting) + length (still_waiting on c.waiting) ≡ length c.waiting = woken_length on c.waiting in
    omega arith

serve_keys_mass : (keys others : List Key) (c : Rig) → rest_mass (serve_keys keys others c) ≡ rest_mass c
serve_keys_mass [] others c = refl
serve_keys_mass (k ∷ ks) others c =
    serve_keys_mass ks others (record (wake (cause.Key k) c) { fired = others ++ ks }) ∙ wake_mass (cause.Key k) c

put_mass : (setup : Setup) (e : Event) (c : Rig) → rest_mass (after_put setup e c).rig ≡ rest_mass c
put_mass setup e c = serve_keys_mass e.fired c.fired (with_fired e.fired (record c { sim = e.state }))

deposit_mass : (setup : Setup) (sig : SigId) (act : Write) (c : Rig) → rest_mass (deposit setup sig act c).rig ≡ rest_mass c
deposit_mass setup sig act c = put_mass setup (written setup c.sim (set_of (awaited c)) sig act) c

granted_length : (l : LockNo) (ws : List Waiting) → length (granted l ws).entries + length (granted l ws).waiting ≡ length ws
granted_length l [] = refl
granted_length l (w ∷ ws) = decided (wants l w.tree) refl (granted_length l ws)
  where
    decided : (b : Bool) → wants l w.tree ≡ b → length (granted l ws).entries + length (granted l ws).waiting ≡ length ws
        → length (granted l (w ∷ ws)).entries + length (granted l (w ∷ ws)).waiting ≡ suc (length ws)
    decided true e k = rw e (
        let s : Step = step_of (grant l w.tree) in
        let b : length (left_of w.task (grant l w.tree) s ++ ws) ≡ length (left_of w.task (grant l w.tree) s) + length ws = length-append (left_of w.task (grant l w.tree) s) ws in
        let m : length (entry_of w.task s) + length (left_of w.task (grant l w.tree) s) ≡ 1 = one_place s w.task (grant l w.tree) in
        omega arith
        )
    decided false e k = rw e (omega arith)

handed_mass : (b : Bool) (l : LockNo) (c : Rig) → rest_mass (handed_on b l c) ≡ rest_mass c
handed_mass false l c = refl
handed_mass true l c =
    let a : length (c.ready ++ (granted l c.waiting).entries) ≡ length c.ready + length (granted l c.waiting).entries = length-append c.ready (granted l c.waiting).entries in
    let m : length (granted l c.waiting).entries + length (granted l c.waiting).waiting ≡ length c.waiting = granted_length l c.waiting in
    omega arith

-- ---- effects

-- what follows on a configuration in which no task has its turn has so much more at most
abbrev Within : ℕ → Rig → Rig → Type 0
Within n c d = mass d ≤ rest_mass c + n

begun_within : (task : TaskNo) (tree : Tree) (s : Step) (c : Rig) → c.running ≡ None → Within 2 c (begun_by task tree s c).rig
begun_within task tree (Done g) c r = omega arith
begun_within task tree Still c r =
    let m : running_weight c.running ≡ 0 = ap running_weight r in
    let a : length (c.waiting ++ record { task = task; tree = tree } ∷ []) ≡ length c.waiting + 1 = length-append c.waiting (record { task = task; tree = tree } ∷ []) in
    omega arith

awaits_within : (task : TaskNo) (tree : Tree) (o : Option Fault) (c : Rig) → c.running ≡ None → Within 2 c (awaits_by task tree o c).rig
awaits_within task tree (Some fault) c r = omega arith
awaits_within task tree None c r =
    begun_within task (begin tree (facts_of c)).tree (step_of (begin tree (facts_of c)).tree)
    (record c { objects = record c.objects { locks = (begin tree (facts_of c)).facts.locks } }) r

write_within : (b : Bool) (sig : SigId) (a : After) (c : Rig) → c.running ≡ None → Within 2 c a.rig → Within 2 c (write_by b sig a c).rig
write_within true sig a c r h = let m : running_weight c.running ≡ 0 = ap running_weight r in let k : outcome_weight c.outcome ≤ 1 = outcome_le c.outcome in omega arith
write_within false sig a c r h = h

end_mass : (task : TaskNo) (ending : Ending) (failed : Bool) (c : Rig) → rest_mass (wake (cause.Ended task failed) (with_end task ending c)) ≤ rest_mass c
end_mass task ending failed c =
    let a : rest_mass (wake (cause.Ended task failed) (with_end task ending c)) ≡ rest_mass (with_end task ending c) = wake_mass (cause.Ended task failed) (with_end task ending c) in
    let b : weights (with_end task ending c).tasks ≤ weights c.tasks = filter_weights (λ (t : Task). not (is_numbered task t)) c.tasks in
    omega arith

returned_le : (b : Bool) (o : Option Outcome) → outcome_weight (returned b o) ≤ outcome_weight o
returned_le true o = omega arith
returned_le false o = omega arith

fails_within : (b : Bool) (task : TaskNo) (fault : Fault) (c : Rig) → c.running ≡ None → Within 0 c (fails b task fault c).rig
fails_within true task fault c r = let m : running_weight c.running ≡ 0 = ap running_weight r in let k = end_mass task (Failed fault) true c in omega arith
fails_within false task fault c r =
    let m : running_weight c.running ≡ 0 = ap running_weight r in
    let b : weights (filter (λ (t : Task). not (is_numbered task t)) c.tasks) ≤ weights c.tasks = filter_weights (λ (t : Task). not (is_numbered task t)) c.tasks in
    omega arith

kill_mass : (b : Bool) (other : TaskNo) (c : Rig) → rest_mass (kills_by b other c) ≤ rest_mass c
kill_mass true other c = omega arith
kill_mass false other c =
    let a : length (without_entry other c.ready) ≤ length c.ready = filter_length (λ (e : Entry). not (is_entry_of other e)) c.ready in
    let b : length (without_task other c.waiting) ≤ length c.waiting = filter_length (λ (w : Waiting). not (is_of other w)) c.waiting in
    let k : rest_mass (wake (cause.Ended other false) (with_end other Killed (withdrawn other c))) ≤ rest_mass (withdrawn other c)
    = end_mass other Killed false (withdrawn other c) in
    omega arith

kills_within : (b : Bool) (task other : TaskNo) (c : Rig) → Within 2 c (kills b task other c).rig
kills_within true task other c = omega arith
kills_within false task other c = let k : rest_mass (kills_by (is_done other c.endings) other c) ≤ rest_mass c = kill_mass (is_done other c.endings) other c in omega arith

event_within : (b : Bool) (task : TaskNo) (c : Rig) → Within 2 c (makes_event b task c).rig
event_within true task c = omega arith
event_within false task c = omega arith

lock_within : (b : Bool) (task : TaskNo) (c : Rig) → Within 2 c (makes_lock b task c).rig
lock_within true task c = omega arith
lock_within false task c = omega arith

release_within : (b : Bool) (task : TaskNo) (l : LockNo) (c : Rig) → Within 2 c (releases b task l c).rig
release_within true task l c = let k : rest_mass (handed_on (is_wanted l c.waiting) l c) ≡ rest_mass c = handed_mass (is_wanted l c.waiting) l c in omega arith
release_within false task l c = omega arith

queue_within : (b : Bool) (task : TaskNo) (bound : ℕ) (c : Rig) → Within 2 c (makes_queue b task bound c).rig
queue_within true task bound c = omega arith
queue_within false task bound c = omega arith

sets_if_mass : (b : Bool) (e : EventNo) (c : Rig) → rest_mass (sets_if b e c) ≡ rest_mass c
sets_if_mass true e c = wake_mass (cause.Event e) (record c { objects = with_set e c.objects })
sets_if_mass false e c = refl

clears_if_mass : (b : Bool) (e : EventNo) (c : Rig) → rest_mass (clears_if b e c) ≡ rest_mass c
clears_if_mass true e c = refl
clears_if_mass false e c = refl

flags_mass : (a b : Bool) (x y : EventNo) (c : Rig) → rest_mass (clears_if a x (sets_if b y c)) ≡ rest_mass c
flags_mass a b x y c = clears_if_mass a x (sets_if b y c) ∙ sets_if_mass b y c

put_item_within : (full limit : Bool) (task : TaskNo) (q : QueueNo) (item : Value) (c : Rig) → Within 2 c (puts_item full limit task q item c).rig
put_item_within true limit task q item c = omega arith
put_item_within false true task q item c = omega arith
put_item_within false false task q item c =
    let old : TaskQueue = queue_at q c.queues in
    let k : rest_mass (with_put q item c) ≡ rest_mass c = flags_mass (has_no_room (queue_at q (with_item q item c.queues))) (is_empty old.items) old.space_event old.items_event
    (record c { queues = with_item q item c.queues }) in
    omega arith

get_item_within : (task : TaskNo) (q : QueueNo) (items : List Value) (c : Rig) → Within 2 c (gets_item task q items c).rig
get_item_within task q [] c = omega arith
get_item_within task q (item ∷ items) c =
    let old : TaskQueue = queue_at q c.queues in
    let k : rest_mass (with_get q items c) ≡ rest_mass c = flags_mass (is_empty items) (has_no_room old) old.items_event old.space_event
    (record c { queues = with_items q items c.queues }) in
    omega arith

-- a task that goes on has a turn and an answer, and one that ends has neither
abbrev turns_by : Bool → ℕ
turns_by true = 2
turns_by false = 0

abbrev turns : Turned → ℕ
turns t = turns_by (lasts t)

effect_within : (setup : Setup) (task : TaskNo) (t : Turned) (c : Rig) → is_start t ≡ false → c.running ≡ None → Within (turns t) c (effect setup task t c).rig
effect_within setup task (turned.Await trig) c s r = awaits_within task (tree_of trig c.sim.time) (check trig c.sim.time c.sim.region) c r
effect_within setup task (turned.Stage sig act) c s r = write_within (is_end c.sim.region) sig (stages task sig act c) c r (omega arith)
effect_within setup task (turned.Put sig act) c s r =
    write_within (is_end c.sim.region) sig (puts setup task sig act c) c r (let k : rest_mass (deposit setup sig act c).rig ≡ rest_mass c = deposit_mass setup sig act c in omega arith)
effect_within setup task (turned.Start func args give_way) c s r = cc
effect_within setup task (turned.Kill other) c s r = kills_within (other.0 == task.0) task other c
effect_within setup task turned.NewEvent c s r = event_within (nat_le event_limit (length c.objects.events)) task c
effect_within setup task (turned.SetEvent e) c s r =
    let k : rest_mass (wake (cause.Event e) (record c { objects = with_set e c.objects })) ≡ rest_mass c = wake_mass (cause.Event e) (record c { objects = with_set e c.objects }) in omega arith
effect_within setup task (turned.ClearEvent e) c s r = omega arith
effect_within setup task turned.NewLock c s r = lock_within (nat_le lock_limit (length c.objects.locks)) task c
effect_within setup task (turned.Release l) c s r = release_within (is_held l c.objects) task l c
effect_within setup task (turned.NewQueue bound) c s r = queue_within (nat_lt event_limit (length c.objects.events + 2)) task bound c
effect_within setup task (turned.PutNow q item) c s r = put_item_within (has_no_room (queue_at q c.queues)) (is_at_limit (queue_at q c.queues)) task q item c
effect_within setup task (turned.GetNow q) c s r = get_item_within task q (queue_at q c.queues).items c
effect_within setup task (turned.Draw low span) c s r = omega arith
effect_within setup task (turned.Log level text) c s r = omega arith
effect_within setup task (turned.Done v) c s r =
    let m : running_weight c.running ≡ 0 = ap running_weight r in
    let k : rest_mass (wake (cause.Ended task false) (with_end task (Returned v) c)) ≤ rest_mass c = end_mass task (Returned v) false c in
    let o : outcome_weight (returned (task.0 == 0) c.outcome) ≤ outcome_weight c.outcome = returned_le (task.0 == 0) c.outcome in
    omega arith
effect_within setup task (turned.Raised fault) c s r = fails_within (is_joined task c.waiting) task fault c r
effect_within setup task turned.Spent c s r = let m : running_weight c.running ≡ 0 = ap running_weight r in omega arith

-- ---- steps

is_zero_or : (n : ℕ) → (0 < n) ⊎ (n ≡ 0)
is_zero_or zero = inr refl
is_zero_or (suc n) = inl (omega arith)

-- what a free step of a task leads to: less than the turn and the answer that it had
abbrev Lower : Running → Rig → Rig → Type 0
Lower r c d = mass d < rest_mass c + (1 + given_count r.given)

module _ (setup : Setup) (r : Running) (task : Task) (c : Rig) (at : task_at r.task c.tasks ≡ Some task) (free : next_cost task r.given ≡ 0) where
  abbrev after : Task
  after = (next setup.functions task r.given (view_of setup c)).task

  abbrev kept_rig : Rig
  kept_rig = kept r.task after c

  kept_weight : weights kept_rig.tasks + weight task ≡ weights c.tasks + weight after
  kept_weight = stored_weight r.task task after c.tasks at

  by_wish : (o : Option Turned) → (next setup.functions task r.given (view_of setup c)).turned ≡ o → Lower r c (effect_of setup r.task o kept_rig).rig
  by_wish None e =
      let w : weight after + 1 ≤ weight task + given_count r.given = nothing_falls setup.functions task r.given (view_of setup c) free e in
      let k : weights kept_rig.tasks + weight task ≡ weights c.tasks + weight after = kept_weight in
      omega arith
  by_wish (Some t) e =
      let m : mass (effect setup r.task t kept_rig).rig ≤ rest_mass kept_rig + turns t
      = effect_within setup r.task t kept_rig (free_starts_none setup.functions task r.given (view_of setup c) t free e) refl in
      by_end m (wish_falls setup.functions task r.given (view_of setup c) t free e)
    where
      by_end : mass (effect setup r.task t kept_rig).rig ≤ rest_mass kept_rig + turns t
          → (weight after + 2 ≤ weight task) ⊎ ((lasts t ≡ false) × (weight after ≡ weight task)) → Lower r c (effect setup r.task t kept_rig).rig
      by_end m (inl w) =
          let k : weights kept_rig.tasks + weight task ≡ weights c.tasks + weight after = kept_weight in
          let n : turns t ≤ 2 = turns_most (lasts t) in omega arith
        where
          turns_most : (b : Bool) → turns_by b ≤ 2
          turns_most true = omega arith
          turns_most false = omega arith
      by_end m (inr p) =
          let k : weights kept_rig.tasks + weight task ≡ weights c.tasks + weight after = kept_weight in
          let n : turns t ≡ 0 = ap turns_by p.0 in
          let w : weight after ≡ weight task = p.1 in omega arith

stepped_falls : (setup : Setup) (r : Running) (o : Option Task) (c : Rig) → task_at r.task c.tasks ≡ o
    → (0 < (stepped setup r o c).cost) ⊎ Lower r c (stepped setup r o c).rig
stepped_falls setup r None c h = inr (omega arith)
stepped_falls setup r (Some task) c h = decided (is_zero_or (next_cost task r.given))
  where
    decided : (0 < next_cost task r.given) ⊎ (next_cost task r.given ≡ 0) → (0 < (stepped setup r (Some task) c).cost) ⊎ Lower r c (stepped setup r (Some task) c).rig
    decided (inl p) = inl p
    decided (inr z) = inr (by_wish setup r task c h z (next setup.functions task r.given (view_of setup c)).turned refl)

-- a step that costs nothing lessens the weight
abbrev Falls : Rig → Stepped → Type 0
Falls c s = (0 < s.cost) ⊎ (mass s.rig < mass c)

after_falls : (setup : Setup) (e : Option Event) (c : Rig) → c.outcome ≡ None → Falls c (after_event setup e c)
after_falls setup None c o = inr (let h : outcome_weight c.outcome ≡ 1 = ap outcome_weight o in omega arith)
after_falls setup (Some e) c o = inl (omega arith)

chosen_falls : (setup : Setup) (running : Option Running) (ready : List Entry) (c : Rig) → c.running ≡ running → c.ready ≡ ready → c.outcome ≡ None → Falls c (chosen setup running ready c)
chosen_falls setup (Some r) ready c e s o =
    let m : running_weight c.running ≡ 1 + given_count r.given = ap running_weight e in
    elim (stepped_falls setup r (task_at r.task c.tasks) c refl) [ inl p ↦ inl p | inr q ↦ inr (omega arith) ]
chosen_falls setup None (x ∷ xs) c e s o =
    let m : running_weight c.running ≡ 0 = ap running_weight e in
    let l : length c.ready ≡ length (x ∷ xs) = ap length s in
    elim (stepped_falls setup (taken c x) (task_at x.task c.tasks) (resumed x xs c) refl) [ inl p ↦ inl p | inr q ↦ inr (omega arith) ]
chosen_falls setup None [] c e s o = after_falls setup (event_of setup c) c o

pub rig_falls : (setup : Setup) (c : Rig) → c.outcome ≡ None → Falls c (rig_step setup c)
rig_falls setup c o = chosen_falls setup c.running c.ready c refl refl o
