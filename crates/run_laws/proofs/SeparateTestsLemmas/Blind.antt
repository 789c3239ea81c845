-- No step looks at the counts of keys: whatever they are, it leads to the same but for the counts, with the same lines and the same cost.
use Rattle.std.proofs.Common.{◌≡◌, ℕ, Bool, true, false, List, [], ◌∷◌, ◌++◌, Option, None, Some, refl, ap, sym, subst}
use Rattle.std.specs.Prelude.{◌==◌, nat_le, length, Ok, Err, nat_lt, ◌+◌}
use Rattle.gpi.specs.Keys.{among, set_of}
use Rattle.gpi.specs.Events.{Event}
use Rattle.gpi.specs.State.{is_end}
use Rattle.gpi.specs.declared.types.Counts.{Counts}
use Rattle.gpi.specs.declared.types.Key.{Key}
use Rattle.gpi.specs.declared.types.Key.TheVariants.{ReadWrite}
use Rattle.gpi.specs.declared.types.SigId.{SigId}
use Rattle.gpi.specs.declared.types.Write.{Write}
use Rattle.py_value.specs.Answer.{Answer}
use Rattle.py_value.specs.declared.trigger.TaskNo.{TaskNo}
use Rattle.py_value.specs.declared.trigger.LockNo.{LockNo}
use Rattle.py_value.specs.declared.value.Value.{Value}
use Rattle.py_value.specs.declared.value.Value.TheVariants as value
use Rattle.py_value.specs.declared.value.Fault.{Fault}
use Rattle.await_tree.specs.Tree.{Tree}
use Rattle.await_tree.specs.Begin.{begin}
use Rattle.await_tree.specs.Steps.{step_of}
use Rattle.await_tree.specs.Check.{tree_of, check}
use Rattle.await_tree.specs.declared.cause.Cause.TheVariants as cause
use Rattle.await_tree.specs.declared.cause.Step.{Step}
use Rattle.await_tree.specs.declared.cause.Step.TheVariants.{Still, Done}
use Rattle.await_tree.specs.EndedTasks.Endings.{is_done}
use Rattle.await_tree.specs.SyncObjects.States.{is_held, event_limit, lock_limit}
use Rattle.run_view.specs.declared.signal_port.staged.Staged.{Staged}
use Rattle.test_meaning.specs.Body.BodyTrees.{Function, Limit, Case}
use Rattle.task_queue.specs.Queues.{TaskQueue, queue_at, is_full as has_no_room, is_at_limit, is_empty, with_items, with_item}
use Rattle.py_value.specs.declared.trigger.EventNo.{EventNo}
use Rattle.py_value.specs.declared.trigger.QueueNo.{QueueNo}
use Rattle.rig_model.specs.Task.Frame.{Task, function_at}
use Rattle.rig_model.specs.Task.Step.{next}
use Rattle.rig_model.specs.declared.task.task.Turned.{Turned}
use Rattle.rig_model.specs.declared.task.task.Turned.TheVariants as turned
use Rattle.await_tree.specs.declared.wait_list.ready.Entry.{Entry}
use Rattle.await_tree.specs.WaitList.Counts.{counts_after}
use Rattle.await_tree.specs.WaitList.Waiting.{is_wanted, is_joined}
use Rattle.rig_model.specs.Run.Rig.{Rig, Setup, Running, After, followed_by, event_of, view_of, facts_of, awaited}
use Rattle.rig_model.specs.Run.Counts.{counted}
use Rattle.rig_model.specs.Run.Serve.{wake, serve_keys, with_fired, after_put, deposit, flushed, flushed_if, served, ended_if, is_due, serve, written}
use Rattle.rig_model.specs.Run.Effect.{begun_by, awaits_by, write_by, stages, puts, gives_value, starts, starter, next_task, with_new_task, fails, kills_by, kills, makes_event, makes_lock, releases, is_full, handed_on, effect, effect_of, makes_queue, sets_if, clears_if, with_put, puts_item, with_get, gets_item}
use Rattle.rig_model.specs.Run.Step.{Stepped, task_at, taken, stepped, kept, after_event, resumed, chosen, rig_step}
use Rattle.rig_model.specs.Run.Case.{limit_steps, with_deadline, with_limit, with_test, values_of, test_begun}
use Rattle.run_laws.specs.SeparateTests.Later.{with_counts, SameButCounts}

-- the same but for the counts, after the same lines
pub record SameAfter (a b : After) : Type 0 where
  pub rig : SameButCounts a.rig b.rig
  pub lines : b.lines ≡ a.lines

-- the same but for the counts, after the same lines and at the same cost
pub record SameStepped (s t : Stepped) : Type 0 where
  pub rig : SameButCounts s.rig t.rig
  pub lines : t.lines ≡ s.lines
  pub cost : t.cost ≡ s.cost

-- what follows on such a configuration is blind to the counts
abbrev Blind : (Rig → After) → Type 0
Blind f = (n : Counts) (c : Rig) → SameAfter (f c) (f (with_counts n c))

followed_same : (a b : After) (f : Rig → After) → SameAfter a b → Blind f → SameAfter (followed_by a f) (followed_by b f)
followed_same a b f h k =
    let s : SameAfter (f a.rig) (f b.rig) = subst (λ (r : Rig). SameAfter (f a.rig) (f r)) (sym h.rig) (k b.rig.counts a.rig) in
    record { rig = s.rig; lines = cc (h.lines, s.lines) }

-- an effect that is counted
counted_same : (fired : List Key) (before before' c d : Rig) (n : Counts) → d ≡ with_counts n c → SameButCounts (counted fired before c) (counted fired before' d)
counted_same fired before before' c d n h = ap (with_counts (counts_after fired (awaited before') (awaited d) before'.counts)) h

-- ---- serving

serve_keys_blind : (keys others : List Key) (n : Counts) (c : Rig) → serve_keys keys others (with_counts n c) ≡ with_counts n (serve_keys keys others c)
serve_keys_blind [] others n c = refl
serve_keys_blind (k ∷ ks) others n c = serve_keys_blind ks others n (record (wake (cause.Key k) c) { fired = others ++ ks })

put_blind : (setup : Setup) (e : Event) → Blind (after_put setup e)
put_blind setup e n c =
    let d : Rig = with_fired e.fired (record c { sim = e.state }) in
    record {
      rig = counted_same e.fired c (with_counts n c) (serve_keys e.fired c.fired d) (serve_keys e.fired c.fired (with_counts n d)) n (serve_keys_blind e.fired c.fired n d);
      lines = refl;
    }

deposit_blind : (setup : Setup) (sig : SigId) (act : Write) → Blind (deposit setup sig act)
deposit_blind setup sig act n c = put_blind setup (written setup c.sim (set_of (awaited c)) sig act) n c

flushed_blind : (setup : Setup) (writes : List Staged) → Blind (flushed setup writes)
flushed_blind setup [] n c = record { rig = refl; lines = refl }
flushed_blind setup (w ∷ ws) n c =
    let d : Rig = record c { staged = ws } in
    followed_same (deposit setup w.sig w.act d) (deposit setup w.sig w.act (with_counts n d)) (flushed setup ws)
    (deposit_blind setup w.sig w.act n d) (flushed_blind setup ws)

flush_blind : (setup : Setup) (b : Bool) → Blind (flushed_if setup b)
flush_blind setup true n c = flushed_blind setup c.staged n c
flush_blind setup false n c = record { rig = refl; lines = refl }

served_blind : (keys others : List Key) → Blind (served keys others)
served_blind keys others n c = record {
  rig = counted_same keys c (with_counts n c) (serve_keys keys others c) (serve_keys keys others (with_counts n c)) n (serve_keys_blind keys others n c);
  lines = refl;
}

ended_if_blind : (b : Bool) → Blind (ended_if b)
ended_if_blind true n c = record { rig = refl; lines = refl }
ended_if_blind false n c = record { rig = refl; lines = refl }

serve_blind : (setup : Setup) (keys : List Key) → Blind (serve setup keys)
serve_blind setup keys n c =
    let b : Bool = among ReadWrite keys in
    let d : Rig = with_fired keys c in
    let now : Rig → After = served keys c.fired in
    followed_same (followed_by (flushed_if setup b d) now) (followed_by (flushed_if setup b (with_counts n d)) now) (ended_if (is_due keys c.deadline))
    (followed_same (flushed_if setup b d) (flushed_if setup b (with_counts n d)) now (flush_blind setup b n d) (served_blind keys c.fired))
    (ended_if_blind (is_due keys c.deadline))

-- ---- effects

begun_blind : (task : TaskNo) (tree : Tree) (s : Step) → Blind (begun_by task tree s)
begun_blind task tree (Done g) n c = record { rig = refl; lines = refl }
begun_blind task tree Still n c = record { rig = refl; lines = refl }

awaits_blind : (task : TaskNo) (tree : Tree) (o : Option Fault) → Blind (awaits_by task tree o)
awaits_blind task tree (Some fault) n c = record { rig = refl; lines = refl }
awaits_blind task tree None n c =
    let b = begin tree (facts_of c) in
    begun_blind task b.tree (step_of b.tree) n (record c { objects = record c.objects { locks = b.facts.locks } })

write_blind : (b : Bool) (sig : SigId) (f : Rig → After) → Blind f → Blind (λ c. write_by b sig (f c) c)
write_blind true sig f h n c = record { rig = refl; lines = refl }
write_blind false sig f h n c = h n c

puts_blind : (setup : Setup) (task : TaskNo) (sig : SigId) (act : Write) → Blind (puts setup task sig act)
puts_blind setup task sig act n c =
    followed_same (deposit setup sig act c) (deposit setup sig act (with_counts n c)) (gives_value task value.Absent) (deposit_blind setup sig act n c)
    (λ m d. record { rig = refl; lines = refl })

starter_blind : (task number : TaskNo) (b : Bool) → Blind (starter task number b)
starter_blind task number true n c = record { rig = refl; lines = refl }
starter_blind task number false n c = record { rig = refl; lines = refl }

starts_blind : (full : Bool) (task : TaskNo) (function : Function) (args : List Value) (b : Bool) → Blind (starts full task function args b)
starts_blind true task function args b n c = record { rig = refl; lines = refl }
starts_blind false task function args b n c = starter_blind task (next_task c) b n (with_new_task function args c)

fails_blind : (b : Bool) (task : TaskNo) (fault : Fault) → Blind (fails b task fault)
fails_blind true task fault n c = record { rig = refl; lines = refl }
fails_blind false task fault n c = record { rig = refl; lines = refl }

kill_blind : (b : Bool) (other : TaskNo) (n : Counts) (c : Rig) → SameButCounts (kills_by b other c) (kills_by b other (with_counts n c))
kill_blind true other n c = refl
kill_blind false other n c = refl

kills_blind : (b : Bool) (task other : TaskNo) → Blind (kills b task other)
kills_blind true task other n c = record { rig = refl; lines = refl }
kills_blind false task other n c =
    let d : Rig = kills_by (is_done other c.endings) other c in
    let e : Rig = kills_by (is_done other c.endings) other (with_counts n c) in
    let h : SameButCounts d e = kill_blind (is_done other c.endings) other n c in
    record { rig = ap (λ (r : Rig). (gives_value task value.Absent r).rig) h; lines = refl }

makes_event_blind : (b : Bool) (task : TaskNo) → Blind (makes_event b task)
makes_event_blind true task n c = record { rig = refl; lines = refl }
makes_event_blind false task n c = record { rig = refl; lines = refl }

makes_lock_blind : (b : Bool) (task : TaskNo) → Blind (makes_lock b task)
makes_lock_blind true task n c = record { rig = refl; lines = refl }
makes_lock_blind false task n c = record { rig = refl; lines = refl }

handed_blind : (b : Bool) (lock : LockNo) (n : Counts) (c : Rig) → handed_on b lock (with_counts n c) ≡ with_counts n (handed_on b lock c)
handed_blind true lock n c = refl
handed_blind false lock n c = refl

releases_blind : (b : Bool) (task : TaskNo) (lock : LockNo) → Blind (releases b task lock)
releases_blind true task lock n c =
    let w : Bool = is_wanted lock c.waiting in
    let h : SameButCounts (counted [] c (handed_on w lock c)) (counted [] (with_counts n c) (handed_on w lock (with_counts n c))) =
    counted_same [] c (with_counts n c) (handed_on w lock c) (handed_on w lock (with_counts n c)) n (handed_blind w lock n c) in
    record { rig = ap (λ (r : Rig). (gives_value task value.Absent r).rig) h; lines = refl }
releases_blind false task lock n c = record { rig = refl; lines = refl }

makes_queue_blind : (b : Bool) (task : TaskNo) (bound : ℕ) → Blind (makes_queue b task bound)
makes_queue_blind true task bound n c = record { rig = refl; lines = refl }
makes_queue_blind false task bound n c = record { rig = refl; lines = refl }

flags_blind : (a b : Bool) (x y : EventNo) (n : Counts) (c : Rig) → SameButCounts (clears_if a x (sets_if b y c)) (clears_if a x (sets_if b y (with_counts n c)))
flags_blind true true x y n c = refl
flags_blind false true x y n c = refl
flags_blind true false x y n c = refl
flags_blind false false x y n c = refl

puts_item_blind : (full limit : Bool) (task : TaskNo) (q : QueueNo) (item : Value) → Blind (puts_item full limit task q item)
puts_item_blind true limit task q item n c = record { rig = refl; lines = refl }
puts_item_blind false true task q item n c = record { rig = refl; lines = refl }
puts_item_blind false false task q item n c =
    let old : TaskQueue = queue_at q c.queues in
    let h : SameButCounts (with_put q item c) (with_put q item (with_counts n c)) =
    flags_blind (has_no_room (queue_at q (with_item q item c.queues))) (is_empty old.items) old.space_event old.items_event n (record c { queues = with_item q item c.queues }) in
    record { rig = ap (λ (r : Rig). (gives_value task value.Absent r).rig) h; lines = refl }

gets_item_blind : (task : TaskNo) (q : QueueNo) (items : List Value) → Blind (gets_item task q items)
gets_item_blind task q [] n c = record { rig = refl; lines = refl }
gets_item_blind task q (item ∷ items) n c =
    let old : TaskQueue = queue_at q c.queues in
    let h : SameButCounts (with_get q items c) (with_get q items (with_counts n c)) =
    flags_blind (is_empty items) (has_no_room old) old.items_event old.space_event n (record c { queues = with_items q items c.queues }) in
    record { rig = ap (λ (r : Rig). (gives_value task item r).rig) h; lines = refl }

effect_blind : (setup : Setup) (task : TaskNo) (t : Turned) → Blind (effect setup task t)
effect_blind setup task (turned.Await trig) n c = awaits_blind task (tree_of trig c.sim.time) (check trig c.sim.time c.sim.region) n c
effect_blind setup task (turned.Stage sig act) n c = write_blind (is_end c.sim.region) sig (stages task sig act) (λ m d. record { rig = refl; lines = refl }) n c
effect_blind setup task (turned.Put sig act) n c = write_blind (is_end c.sim.region) sig (puts setup task sig act) (puts_blind setup task sig act) n c
effect_blind setup task (turned.Start func args give_way) n c = starts_blind (is_full c) task (function_at setup.functions func) args give_way n c
effect_blind setup task (turned.Kill other) n c = kills_blind (other.0 == task.0) task other n c
effect_blind setup task turned.NewEvent n c = makes_event_blind (nat_le event_limit (length c.objects.events)) task n c
effect_blind setup task (turned.SetEvent e) n c = record { rig = refl; lines = refl }
effect_blind setup task (turned.ClearEvent e) n c = record { rig = refl; lines = refl }
effect_blind setup task turned.NewLock n c = makes_lock_blind (nat_le lock_limit (length c.objects.locks)) task n c
effect_blind setup task (turned.Release l) n c = releases_blind (is_held l c.objects) task l n c
effect_blind setup task (turned.NewQueue bound) n c = makes_queue_blind (nat_lt event_limit (length c.objects.events + 2)) task bound n c
effect_blind setup task (turned.PutNow q item) n c = puts_item_blind (has_no_room (queue_at q c.queues)) (is_at_limit (queue_at q c.queues)) task q item n c
effect_blind setup task (turned.GetNow q) n c = gets_item_blind task q (queue_at q c.queues).items n c
effect_blind setup task (turned.Draw low span) n c = record { rig = refl; lines = refl }
effect_blind setup task (turned.Log level text) n c = record { rig = refl; lines = refl }
effect_blind setup task (turned.Done v) n c = record { rig = refl; lines = refl }
effect_blind setup task (turned.Raised fault) n c = fails_blind (is_joined task c.waiting) task fault n c
effect_blind setup task turned.Spent n c = record { rig = refl; lines = refl }

wish_blind : (setup : Setup) (task : TaskNo) (o : Option Turned) → Blind (effect_of setup task o)
wish_blind setup task None n c = record { rig = refl; lines = refl }
wish_blind setup task (Some t) n c = effect_blind setup task t n c

-- ---- steps

stepped_blind : (setup : Setup) (r : Running) (o : Option Task) (n : Counts) (c : Rig) → SameStepped (stepped setup r o c) (stepped setup r o (with_counts n c))
stepped_blind setup r None n c = record { rig = refl; lines = refl; cost = refl }
stepped_blind setup r (Some task) n c =
    let m = next setup.functions task r.given (view_of setup c) in
    let d : Rig = kept r.task m.task c in
    let h : SameAfter (effect_of setup r.task m.turned d) (effect_of setup r.task m.turned (with_counts n d)) = wish_blind setup r.task m.turned n d in
    record { rig = h.rig; lines = h.lines; cost = refl }

event_blind : (setup : Setup) (o : Option Event) (n : Counts) (c : Rig) → SameStepped (after_event setup o c) (after_event setup o (with_counts n c))
event_blind setup None n c = record { rig = refl; lines = refl; cost = refl }
event_blind setup (Some e) n c =
    let d : Rig = record c { sim = e.state } in
    let h : SameAfter (serve setup e.fired d) (serve setup e.fired (with_counts n d)) = serve_blind setup e.fired n d in
    record { rig = h.rig; lines = cc (h.lines); cost = refl }

chosen_blind : (setup : Setup) (running : Option Running) (ready : List Entry) (n : Counts) (c : Rig)
    → SameStepped (chosen setup running ready c) (chosen setup running ready (with_counts n c))
chosen_blind setup (Some r) ready n c = stepped_blind setup r (task_at r.task c.tasks) n c
chosen_blind setup None (e ∷ es) n c = stepped_blind setup (taken c e) (task_at e.task c.tasks) n (resumed e es c)
chosen_blind setup None [] n c = event_blind setup (event_of setup c) n c

-- a step of a test, or of the wait for the next one
pub step_blind : (setup : Setup) (n : Counts) (c : Rig) → SameStepped (rig_step setup c) (rig_step setup (with_counts n c))
step_blind setup n c = chosen_blind setup c.running c.ready n c

-- ---- begins of tests

deadline_blind : (steps : Answer ℕ) (n : Counts) (c : Rig) → with_deadline steps (with_counts n c) ≡ with_counts n (with_deadline steps c)
deadline_blind (Ok steps) n c = refl
deadline_blind (Err kind) n c = refl

limit_blind : (step_fs : ℕ) (limit : Option Limit) (n : Counts) (c : Rig) → with_limit step_fs limit (with_counts n c) ≡ with_counts n (with_limit step_fs limit c)
limit_blind step_fs None n c = refl
limit_blind step_fs (Some limit) n c = deadline_blind (limit_steps step_fs limit) n c

test_blind : (setup : Setup) (case : Case) (values : Answer (List Value)) (n : Counts) (c : Rig)
    → with_test setup case values (with_counts n c) ≡ with_counts n (with_test setup case values c)
test_blind setup case (Ok values) n c =
    limit_blind setup.flat.step_fs case.time n (with_new_task (function_at setup.functions case.function) (value.Place 0 ∷ values) c)
test_blind setup case (Err kind) n c = refl

pub begin_blind : (setup : Setup) (case : Case) (n : Counts) (c : Rig) → SameButCounts (test_begun setup case c) (test_begun setup case (with_counts n c))
begin_blind setup case n c =
    let values : Answer (List Value) = values_of case.arguments in
    counted_same [] c (with_counts n c) (with_test setup case values c) (with_test setup case values (with_counts n c)) n (test_blind setup case values n c)
