-- What a step does to configurations that are alike.
use Rattle.std.proofs.Common.{◌≡◌, ℕ, suc, Bool, true, false, List, [], ◌∷◌, ◌++◌, length, Option, None, Some, refl, ap, sym, subst, if◌then◌else◌}
use Rattle.std.specs.Prelude.{◌==◌, ◌||◌, nat_le, not, filter, cond, Ok, Err, nat_lt, ◌+◌}
use Rattle.gpi.specs.Keys.{among, set_of}
use Rattle.gpi.specs.Events.{Event}
use Rattle.gpi.specs.State.{is_end}
use Rattle.gpi.specs.declared.types.Key.{Key}
use Rattle.gpi.specs.declared.types.Key.TheVariants.{ReadWrite}
use Rattle.gpi.specs.declared.types.SigId.{SigId}
use Rattle.gpi.specs.declared.types.Write.{Write}
use Rattle.gpi.specs.declared.types.Told.{Told}
use Rattle.py_value.specs.Answer.{Answer}
use Rattle.py_value.specs.declared.trigger.TaskNo.{TaskNo}
use Rattle.py_value.specs.declared.trigger.LockNo.{LockNo}
use Rattle.py_value.specs.declared.value.Value.{Value}
use Rattle.py_value.specs.declared.value.Value.TheVariants as value
use Rattle.py_value.specs.declared.value.Fault.{Fault}
use Rattle.await_tree.specs.Tree.{Tree}
use Rattle.await_tree.specs.Begin.{begin}
use Rattle.await_tree.specs.Steps.{step_of}
use Rattle.await_tree.specs.Check.{tree_of, check}
use Rattle.await_tree.specs.declared.cause.Cause.TheVariants as cause
use Rattle.await_tree.specs.declared.cause.Step.{Step}
use Rattle.await_tree.specs.declared.cause.Step.TheVariants.{Still, Done}
use Rattle.await_tree.specs.EndedTasks.Endings.{is_done, start_limit}
use Rattle.await_tree.specs.SyncObjects.States.{is_held, event_limit, lock_limit}
use Rattle.run_view.specs.declared.signal_port.staged.Staged.{Staged}
use Rattle.test_meaning.specs.Body.BodyTrees.{Block, Function, Limit, Case}
use Rattle.task_queue.specs.Queues.{TaskQueue, queue_at, is_full as has_no_room, is_at_limit, is_empty, with_items, with_item}
use Rattle.py_value.specs.declared.trigger.EventNo.{EventNo}
use Rattle.py_value.specs.declared.trigger.QueueNo.{QueueNo}
use Rattle.rig_model.specs.Task.Frame.{Task, function_at, fresh}
use Rattle.rig_model.specs.Task.Step.{Next, next}
use Rattle.rig_model.specs.declared.task.task.Turned.{Turned}
use Rattle.rig_model.specs.declared.task.task.Turned.TheVariants as turned
use Rattle.await_tree.specs.declared.wait_list.ready.Entry.{Entry}
use Rattle.await_tree.specs.WaitList.Waiting.{is_wanted, is_joined}
use Rattle.rig_model.specs.Run.Limits.{live_limit}
use Rattle.rig_model.specs.Run.Rig.{Rig, Setup, Running, After, followed_by, event_of, view_of, facts_of, awaited, told_line, told_lines}
use Rattle.rig_model.specs.Run.Counts.{counted}
use Rattle.rig_model.specs.Run.Serve.{wake, serve_keys, with_fired, after_put, deposit, flushed, flushed_if, served, ended_if, is_due, serve, written}
use Rattle.rig_model.specs.Run.Effect.{is_numbered, begun_by, awaits_by, write_by, stages, puts, gives_value, starts, starter, next_task, with_new_task, fails, kills_by, kills, makes_event, makes_lock, releases, is_full, handed_on, effect, effect_of, makes_queue, sets_if, clears_if, with_put, puts_item, with_get, gets_item}
use Rattle.rig_model.specs.Run.Step.{Stepped, task_at, stored, taken, stepped, kept, after_event, resumed, chosen, rig_step}
use Rattle.rig_model.specs.Run.Case.{limit_steps, with_deadline, with_limit, with_test, values_of, test_begun}
use Rattle.run_laws.specs.Remainder.Rests.{FunctionAlike, TaskAlike, TasksAlike}
use Rattle.run_laws.specs.Remainder.Alike.{RigAlike, turn_of, BeginsBy, BeginsWith, RigBegins}
use Rattle.run_laws.proofs.RemainderLemmas.Tasks.{NextAlike, entered_alike, next_alike, next_cost_alike}

abbrev pub with_tasks : List Task → Rig → Rig
with_tasks tasks c = record c { tasks = tasks }

module _ (one other : Block) where
  -- ---- lists of tasks

  same_number : (t u : Task) → TaskAlike one other t u → u.number ≡ t.number
  same_number t u h = ap (λ (x : Task). x.number) h.same

  tasks_length : (ts us : List Task) → TasksAlike one other ts us → length us ≡ length ts
  tasks_length [] [] h = refl
  tasks_length [] (u ∷ us) h = elim h [ ]
  tasks_length (t ∷ ts) [] h = elim h [ ]
  tasks_length (t ∷ ts) (u ∷ us) h = ap suc (tasks_length ts us h.1)

  tasks_more : (ts us : List Task) (t u : Task) → TasksAlike one other ts us → TaskAlike one other t u → TasksAlike one other (ts ++ t ∷ []) (us ++ u ∷ [])
  tasks_more [] [] t u h k = (k, tt)
  tasks_more [] (y ∷ ys) t u h k = elim h [ ]
  tasks_more (x ∷ xs) [] t u h k = elim h [ ]
  tasks_more (x ∷ xs) (y ∷ ys) t u h k = (h.0, tasks_more xs ys t u h.1 k)

  abbrev without : TaskNo → List Task → List Task
  without number ts = filter (λ (t : Task). not (is_numbered number t)) ts

  left_alike : (b : Bool) (t u : Task) (ts us : List Task) → TaskAlike one other t u → TasksAlike one other ts us → TasksAlike one other (cond (not b) (t ∷ ts) ts) (cond (not b) (u ∷ us) us)
  left_alike true t u ts us h k = k
  left_alike false t u ts us h k = (h, k)

  tasks_without : (number : TaskNo) (ts us : List Task) → TasksAlike one other ts us → TasksAlike one other (without number ts) (without number us)
  tasks_without number [] [] h = tt
  tasks_without number [] (u ∷ us) h = elim h [ ]
  tasks_without number (t ∷ ts) [] h = elim h [ ]
  tasks_without number (t ∷ ts) (u ∷ us) h =
      let same : is_numbered number u ≡ is_numbered number t = ap (λ (n : TaskNo). n.0 == number.0) (same_number t u h.0) in
      subst (λ (b : Bool). TasksAlike one other (without number (t ∷ ts)) (cond (not b) (u ∷ without number us) (without number us))) (sym same)
      (left_alike (is_numbered number t) t u (without number ts) (without number us) h.0 (tasks_without number ts us h.1))

  stored_by : (b : Bool) (x y t u : Task) (ts us : List Task) (xs ys : List Task) → TaskAlike one other x y → TaskAlike one other t u → TasksAlike one other ts us → TasksAlike one other xs ys
      → TasksAlike one other (if b then x ∷ ts else t ∷ xs) (if b then y ∷ us else u ∷ ys)
  stored_by true x y t u ts us xs ys h k l m = (h, l)
  stored_by false x y t u ts us xs ys h k l m = (k, m)

  tasks_stored : (number : TaskNo) (x y : Task) (ts us : List Task) → TaskAlike one other x y → TasksAlike one other ts us → TasksAlike one other (stored number x ts) (stored number y us)
  tasks_stored number x y [] [] h k = tt
  tasks_stored number x y [] (u ∷ us) h k = elim k [ ]
  tasks_stored number x y (t ∷ ts) [] h k = elim k [ ]
  tasks_stored number x y (t ∷ ts) (u ∷ us) h k =
      let same : is_numbered number u ≡ is_numbered number t = ap (λ (n : TaskNo). n.0 == number.0) (same_number t u k.0) in
      subst (λ (b : Bool). TasksAlike one other (stored number x (t ∷ ts)) (if b then y ∷ us else u ∷ stored number y us)) (sym same)
      (stored_by (is_numbered number t) x y t u ts us (stored number x ts) (stored number y us) h k.0 k.1 (tasks_stored number x y ts us h k.1))

  -- none in both, or one in each
  abbrev OptionAlike : Option Task → Option Task → Type 0
  OptionAlike None None = Unit {0}
  OptionAlike None (Some u) = ⊥
  OptionAlike (Some t) None = ⊥
  OptionAlike (Some t) (Some u) = TaskAlike one other t u

  found_by : (b : Bool) (t u : Task) (o p : Option Task) → TaskAlike one other t u → OptionAlike o p → OptionAlike (if b then Some t else o) (if b then Some u else p)
  found_by true t u o p h k = h
  found_by false t u o p h k = k

  task_found : (number : TaskNo) (ts us : List Task) → TasksAlike one other ts us → OptionAlike (task_at number ts) (task_at number us)
  task_found number [] [] h = tt
  task_found number [] (u ∷ us) h = elim h [ ]
  task_found number (t ∷ ts) [] h = elim h [ ]
  task_found number (t ∷ ts) (u ∷ us) h =
      let same : is_numbered number u ≡ is_numbered number t = ap (λ (n : TaskNo). n.0 == number.0) (same_number t u h.0) in
      subst (λ (b : Bool). OptionAlike (task_at number (t ∷ ts)) (if b then Some u else task_at number us)) (sym same)
      (found_by (is_numbered number t) t u (task_at number ts) (task_at number us) h.0 (task_found number ts us h.1))

  -- ---- what follows

  -- alike, after the same lines
  record AfterAlike (a b : After) : Type 0 where
    rig : RigAlike one other a.rig b.rig
    lines : b.lines ≡ a.lines

  -- alike, after the same lines and at the same cost
  pub record SteppedAlike (s t : Stepped) : Type 0 where
    pub rig : RigAlike one other s.rig t.rig
    pub lines : t.lines ≡ s.lines
    pub cost : t.cost ≡ s.cost

  -- two effects on configurations that are alike
  abbrev Alike : (Rig → After) → (Rig → After) → Type 0
  Alike f g = (c : Rig) (ts : List Task) → TasksAlike one other c.tasks ts → AfterAlike (f c) (g (with_tasks ts c))

  followed_alike : (a b : After) (f g : Rig → After) → AfterAlike a b → Alike f g → AfterAlike (followed_by a f) (followed_by b g)
  followed_alike a b f g h k =
      let s : AfterAlike (f a.rig) (g b.rig) = subst (λ (r : Rig). AfterAlike (f a.rig) (g r)) (sym h.rig.same) (k a.rig b.rig.tasks h.rig.tasks) in
      record { rig = s.rig; lines = cc (h.lines, s.lines) }

  counted_alike : (fired : List Key) (before : Rig) (ts : List Task) (c d : Rig) → RigAlike one other c d → RigAlike one other (counted fired before c) (counted fired (with_tasks ts before) d)
  counted_alike fired before ts c d h = record { same = ap (counted fired (with_tasks ts before)) h.same; tasks = h.tasks }

  -- ---- serving

  serve_keys_alike : (keys others : List Key) (c : Rig) (ts : List Task) → TasksAlike one other c.tasks ts
      → RigAlike one other (serve_keys keys others c) (serve_keys keys others (with_tasks ts c))
  serve_keys_alike [] others c ts h = record { same = refl; tasks = h }
  serve_keys_alike (k ∷ ks) others c ts h = serve_keys_alike ks others (record (wake (cause.Key k) c) { fired = others ++ ks }) ts h

  served_alike : (keys others : List Key) → Alike (served keys others) (served keys others)
  served_alike keys others c ts h = record {
    rig = counted_alike keys c ts (serve_keys keys others c) (serve_keys keys others (with_tasks ts c)) (serve_keys_alike keys others c ts h);
    lines = refl;
  }

  ended_if_alike : (b : Bool) → Alike (ended_if b) (ended_if b)
  ended_if_alike true c ts h = record { rig = record { same = refl; tasks = h }; lines = refl }
  ended_if_alike false c ts h = record { rig = record { same = refl; tasks = h }; lines = refl }

  module _ (setup : Setup) (functions : List Function) (known : (n : ℕ) → FunctionAlike one other (function_at setup.functions n) (function_at functions n)) where
    -- the setup of the other file
    abbrev its : Setup
    its = record setup { functions = functions }

    told_by : (b : Bool) (time : ℕ) (told : Told) → told_line its b time told ≡ told_line setup b time told
    told_by true time told = refl
    told_by false time told = refl

    told_same : (time : ℕ) (told : Option Told) → told_lines its time told ≡ told_lines setup time told
    told_same time None = refl
    told_same time (Some told) = told_by setup.trace time told

    put_alike : (e : Event) → Alike (after_put setup e) (after_put its e)
    put_alike e c ts h =
        let d : Rig = with_fired e.fired (record c { sim = e.state }) in
        record {
          rig = counted_alike e.fired c ts (serve_keys e.fired c.fired d) (serve_keys e.fired c.fired (with_tasks ts d)) (serve_keys_alike e.fired c.fired d ts h);
          lines = told_same c.sim.time e.told;
        }

    deposit_alike : (sig : SigId) (act : Write) → Alike (deposit setup sig act) (deposit its sig act)
    deposit_alike sig act c ts h = put_alike (written setup c.sim (set_of (awaited c)) sig act) c ts h

    flushed_alike : (writes : List Staged) → Alike (flushed setup writes) (flushed its writes)
    flushed_alike [] c ts h = record { rig = record { same = refl; tasks = h }; lines = refl }
    flushed_alike (w ∷ ws) c ts h =
        let d : Rig = record c { staged = ws } in
        followed_alike (deposit setup w.sig w.act d) (deposit its w.sig w.act (with_tasks ts d)) (flushed setup ws) (flushed its ws)
        (deposit_alike w.sig w.act d ts h) (flushed_alike ws)

    flush_alike : (b : Bool) → Alike (flushed_if setup b) (flushed_if its b)
    flush_alike true c ts h = flushed_alike c.staged c ts h
    flush_alike false c ts h = record { rig = record { same = refl; tasks = h }; lines = refl }

    serve_alike : (keys : List Key) → Alike (serve setup keys) (serve its keys)
    serve_alike keys c ts h =
        let b : Bool = among ReadWrite keys in
        let d : Rig = with_fired keys c in
        let now : Rig → After = served keys c.fired in
        let last : Rig → After = ended_if (is_due keys c.deadline) in
        followed_alike (followed_by (flushed_if setup b d) now) (followed_by (flushed_if its b (with_tasks ts d)) now) last last
        (followed_alike (flushed_if setup b d) (flushed_if its b (with_tasks ts d)) now now (flush_alike b d ts h) (served_alike keys c.fired))
        (ended_if_alike (is_due keys c.deadline))

    -- ---- effects

    begun_alike : (task : TaskNo) (tree : Tree) (s : Step) → Alike (begun_by task tree s) (begun_by task tree s)
    begun_alike task tree (Done g) c ts h = record { rig = record { same = refl; tasks = h }; lines = refl }
    begun_alike task tree Still c ts h = record { rig = record { same = refl; tasks = h }; lines = refl }

    awaits_alike : (task : TaskNo) (tree : Tree) (o : Option Fault) → Alike (awaits_by task tree o) (awaits_by task tree o)
    awaits_alike task tree (Some fault) c ts h = record { rig = record { same = refl; tasks = h }; lines = refl }
    awaits_alike task tree None c ts h =
        let b = begin tree (facts_of c) in
        begun_alike task b.tree (step_of b.tree) (record c { objects = record c.objects { locks = b.facts.locks } }) ts h

    write_alike : (b : Bool) (sig : SigId) (f g : Rig → After) → Alike f g → Alike (λ c. write_by b sig (f c) c) (λ c. write_by b sig (g c) c)
    write_alike true sig f g k c ts h = record { rig = record { same = refl; tasks = h }; lines = refl }
    write_alike false sig f g k c ts h = k c ts h

    value_alike : (task : TaskNo) (v : Value) → Alike (gives_value task v) (gives_value task v)
    value_alike task v c ts h = record { rig = record { same = refl; tasks = h }; lines = refl }

    puts_alike : (task : TaskNo) (sig : SigId) (act : Write) → Alike (puts setup task sig act) (puts its task sig act)
    puts_alike task sig act c ts h =
        followed_alike (deposit setup sig act c) (deposit its sig act (with_tasks ts c)) (gives_value task value.Absent) (gives_value task value.Absent)
        (deposit_alike sig act c ts h) (value_alike task value.Absent)

    starter_alike : (task number : TaskNo) (b : Bool) → Alike (starter task number b) (starter task number b)
    starter_alike task number true c ts h = record { rig = record { same = refl; tasks = h }; lines = refl }
    starter_alike task number false c ts h = record { rig = record { same = refl; tasks = h }; lines = refl }

    -- a new task of the function that ends so, and of the one that ends otherwise
    fresh_alike : (n : ℕ) (args : List Value) (number : TaskNo) → TaskAlike one other (fresh number (function_at setup.functions n) args) (fresh number (function_at functions n) args)
    fresh_alike n args number = record { same = refl; frames = (entered_alike one other (function_at setup.functions n) (function_at functions n) args (known n), tt) }

    started_alike : (n : ℕ) (args : List Value) (c : Rig) (ts : List Task) → TasksAlike one other c.tasks ts
        → RigAlike one other (with_new_task (function_at setup.functions n) args c) (with_new_task (function_at functions n) args (with_tasks ts c))
    started_alike n args c ts h = record {
      same = refl;
      tasks = tasks_more c.tasks ts (fresh (next_task c) (function_at setup.functions n) args) (fresh (next_task c) (function_at functions n) args) h (fresh_alike n args (next_task c));
    }

    starts_alike : (b : Bool) (task : TaskNo) (n : ℕ) (args : List Value) (give_way : Bool)
        → Alike (starts b task (function_at setup.functions n) args give_way) (starts b task (function_at functions n) args give_way)
    starts_alike true task n args give_way c ts h = record { rig = record { same = refl; tasks = h }; lines = refl }
    starts_alike false task n args give_way c ts h =
        let d : Rig = with_new_task (function_at setup.functions n) args c in
        let e : Rig = with_new_task (function_at functions n) args (with_tasks ts c) in
        starter_alike task (next_task c) give_way d e.tasks (started_alike n args c ts h).tasks

    full_same : (c : Rig) (ts : List Task) → TasksAlike one other c.tasks ts → is_full (with_tasks ts c) ≡ is_full c
    full_same c ts h = ap (λ (n : ℕ). nat_le live_limit n || nat_le start_limit (length c.endings)) (tasks_length c.tasks ts h)

    fails_alike : (b : Bool) (task : TaskNo) (fault : Fault) → Alike (fails b task fault) (fails b task fault)
    fails_alike true task fault c ts h = record { rig = record { same = refl; tasks = tasks_without task c.tasks ts h }; lines = refl }
    fails_alike false task fault c ts h = record { rig = record { same = refl; tasks = tasks_without task c.tasks ts h }; lines = refl }

    kill_alike : (b : Bool) (other_task : TaskNo) (c : Rig) (ts : List Task) → TasksAlike one other c.tasks ts → RigAlike one other (kills_by b other_task c) (kills_by b other_task (with_tasks ts c))
    kill_alike true other_task c ts h = record { same = refl; tasks = h }
    kill_alike false other_task c ts h = record { same = refl; tasks = tasks_without other_task c.tasks ts h }

    -- the task goes on after an effect that gives it nothing
    given_alike : (task : TaskNo) (v : Value) (c d : Rig) → RigAlike one other c d → AfterAlike (gives_value task v c) (gives_value task v d)
    given_alike task v c d h = subst (λ (x : Rig). AfterAlike (gives_value task v c) (gives_value task v x)) (sym h.same) (value_alike task v c d.tasks h.tasks)

    kills_alike : (b : Bool) (task other_task : TaskNo) → Alike (kills b task other_task) (kills b task other_task)
    kills_alike true task other_task c ts h = record { rig = record { same = refl; tasks = h }; lines = refl }
    kills_alike false task other_task c ts h =
        let b : Bool = is_done other_task c.endings in
        given_alike task value.Absent (kills_by b other_task c) (kills_by b other_task (with_tasks ts c)) (kill_alike b other_task c ts h)

    makes_event_alike : (b : Bool) (task : TaskNo) → Alike (makes_event b task) (makes_event b task)
    makes_event_alike true task c ts h = record { rig = record { same = refl; tasks = h }; lines = refl }
    makes_event_alike false task c ts h = record { rig = record { same = refl; tasks = h }; lines = refl }

    makes_lock_alike : (b : Bool) (task : TaskNo) → Alike (makes_lock b task) (makes_lock b task)
    makes_lock_alike true task c ts h = record { rig = record { same = refl; tasks = h }; lines = refl }
    makes_lock_alike false task c ts h = record { rig = record { same = refl; tasks = h }; lines = refl }

    handed_alike : (b : Bool) (lock : LockNo) (c : Rig) (ts : List Task) → TasksAlike one other c.tasks ts → RigAlike one other (handed_on b lock c) (handed_on b lock (with_tasks ts c))
    handed_alike true lock c ts h = record { same = refl; tasks = h }
    handed_alike false lock c ts h = record { same = refl; tasks = h }

    releases_alike : (b : Bool) (task : TaskNo) (lock : LockNo) → Alike (releases b task lock) (releases b task lock)
    releases_alike true task lock c ts h =
        let w : Bool = is_wanted lock c.waiting in
        given_alike task value.Absent (counted [] c (handed_on w lock c)) (counted [] (with_tasks ts c) (handed_on w lock (with_tasks ts c)))
        (counted_alike [] c ts (handed_on w lock c) (handed_on w lock (with_tasks ts c)) (handed_alike w lock c ts h))
    releases_alike false task lock c ts h = record { rig = record { same = refl; tasks = h }; lines = refl }

    makes_queue_alike : (b : Bool) (task : TaskNo) (bound : ℕ) → Alike (makes_queue b task bound) (makes_queue b task bound)
    makes_queue_alike true task bound c ts h = record { rig = record { same = refl; tasks = h }; lines = refl }
    makes_queue_alike false task bound c ts h = record { rig = record { same = refl; tasks = h }; lines = refl }

    flags_alike : (a b : Bool) (x y : EventNo) (c : Rig) (ts : List Task) → TasksAlike one other c.tasks ts
        → RigAlike one other (clears_if a x (sets_if b y c)) (clears_if a x (sets_if b y (with_tasks ts c)))
    flags_alike true true x y c ts h = record { same = refl; tasks = h }
    flags_alike false true x y c ts h = record { same = refl; tasks = h }
    flags_alike true false x y c ts h = record { same = refl; tasks = h }
    flags_alike false false x y c ts h = record { same = refl; tasks = h }

    puts_item_alike : (full limit : Bool) (task : TaskNo) (q : QueueNo) (item : Value) → Alike (puts_item full limit task q item) (puts_item full limit task q item)
    puts_item_alike true limit task q item c ts h = record { rig = record { same = refl; tasks = h }; lines = refl }
    puts_item_alike false true task q item c ts h = record { rig = record { same = refl; tasks = h }; lines = refl }
    puts_item_alike false false task q item c ts h =
        let old : TaskQueue = queue_at q c.queues in
        given_alike task value.Absent (with_put q item c) (with_put q item (with_tasks ts c))
        (flags_alike (has_no_room (queue_at q (with_item q item c.queues))) (is_empty old.items) old.space_event old.items_event
        (record c { queues = with_item q item c.queues }) ts h)

    gets_item_alike : (task : TaskNo) (q : QueueNo) (items : List Value) → Alike (gets_item task q items) (gets_item task q items)
    gets_item_alike task q [] c ts h = record { rig = record { same = refl; tasks = h }; lines = refl }
    gets_item_alike task q (item ∷ items) c ts h =
        let old : TaskQueue = queue_at q c.queues in
        given_alike task item (with_get q items c) (with_get q items (with_tasks ts c))
        (flags_alike (is_empty items) (has_no_room old) old.items_event old.space_event (record c { queues = with_items q items c.queues }) ts h)

    effect_alike : (task : TaskNo) (t : Turned) → Alike (effect setup task t) (effect its task t)
    effect_alike task (turned.Await trig) c ts h = awaits_alike task (tree_of trig c.sim.time) (check trig c.sim.time c.sim.region) c ts h
    effect_alike task (turned.Stage sig act) c ts h =
        write_alike (is_end c.sim.region) sig (stages task sig act) (stages task sig act) (λ d us k. record { rig = record { same = refl; tasks = k }; lines = refl }) c ts h
    effect_alike task (turned.Put sig act) c ts h = write_alike (is_end c.sim.region) sig (puts setup task sig act) (puts its task sig act) (puts_alike task sig act) c ts h
    effect_alike task (turned.Start func args give_way) c ts h =
        subst (λ (b : Bool). AfterAlike (effect setup task (turned.Start func args give_way) c) (starts b task (function_at functions func) args give_way (with_tasks ts c)))
        (sym (full_same c ts h)) (starts_alike (is_full c) task func args give_way c ts h)
    effect_alike task (turned.Kill other_task) c ts h = kills_alike (other_task.0 == task.0) task other_task c ts h
    effect_alike task turned.NewEvent c ts h = makes_event_alike (nat_le event_limit (length c.objects.events)) task c ts h
    effect_alike task (turned.SetEvent e) c ts h = record { rig = record { same = refl; tasks = h }; lines = refl }
    effect_alike task (turned.ClearEvent e) c ts h = record { rig = record { same = refl; tasks = h }; lines = refl }
    effect_alike task turned.NewLock c ts h = makes_lock_alike (nat_le lock_limit (length c.objects.locks)) task c ts h
    effect_alike task (turned.Release l) c ts h = releases_alike (is_held l c.objects) task l c ts h
    effect_alike task (turned.NewQueue bound) c ts h = makes_queue_alike (nat_lt event_limit (length c.objects.events + 2)) task bound c ts h
    effect_alike task (turned.PutNow q item) c ts h = puts_item_alike (has_no_room (queue_at q c.queues)) (is_at_limit (queue_at q c.queues)) task q item c ts h
    effect_alike task (turned.GetNow q) c ts h = gets_item_alike task q (queue_at q c.queues).items c ts h
    effect_alike task (turned.Draw low span) c ts h = record { rig = record { same = refl; tasks = h }; lines = refl }
    effect_alike task (turned.Log level text) c ts h = record { rig = record { same = refl; tasks = h }; lines = refl }
    effect_alike task (turned.Done v) c ts h = record { rig = record { same = refl; tasks = tasks_without task c.tasks ts h }; lines = refl }
    effect_alike task (turned.Raised fault) c ts h = fails_alike (is_joined task c.waiting) task fault c ts h
    effect_alike task turned.Spent c ts h = record { rig = record { same = refl; tasks = h }; lines = refl }

    wish_alike : (task : TaskNo) (o : Option Turned) → Alike (effect_of setup task o) (effect_of its task o)
    wish_alike task None c ts h = record { rig = record { same = refl; tasks = h }; lines = refl }
    wish_alike task (Some t) c ts h = effect_alike task t c ts h

    -- ---- steps

    stepped_alike : (r : Running) (o p : Option Task) (c : Rig) (ts : List Task) → OptionAlike o p → TasksAlike one other c.tasks ts → (BeginsBy one r.given o → ⊥)
        → SteppedAlike (stepped setup r o c) (stepped its r p (with_tasks ts c))
    stepped_alike r None None c ts k h b = record { rig = record { same = refl; tasks = h }; lines = refl; cost = refl }
    stepped_alike r None (Some u) c ts k h b = elim k [ ]
    stepped_alike r (Some t) None c ts k h b = elim k [ ]
    stepped_alike r (Some t) (Some u) c ts k h b =
        let m : Next = next setup.functions t r.given (view_of setup c) in
        let n : Next = next functions u r.given (view_of setup c) in
        let left : NextAlike one other m n = next_alike one other setup.functions functions known t u r.given (view_of setup c) k b in
        let d : Rig = kept r.task m.task c in
        let e : Rig = kept r.task n.task (with_tasks ts c) in
        let done : AfterAlike (effect_of setup r.task m.turned d) (effect_of its r.task m.turned e) =
        wish_alike r.task m.turned d e.tasks (tasks_stored r.task m.task n.task c.tasks ts left.task h) in
        let own : AfterAlike (effect_of setup r.task m.turned d) (effect_of its r.task n.turned e) =
        subst (λ (x : Option Turned). AfterAlike (effect_of setup r.task m.turned d) (effect_of its r.task x e)) (sym left.turned) done in
        record { rig = own.rig; lines = own.lines; cost = next_cost_alike one other t u r.given k b }

    event_alike : (o : Option Event) (c : Rig) (ts : List Task) → TasksAlike one other c.tasks ts → SteppedAlike (after_event setup o c) (after_event its o (with_tasks ts c))
    event_alike None c ts h = record { rig = record { same = refl; tasks = h }; lines = refl; cost = refl }
    event_alike (Some e) c ts h =
        let d : Rig = record c { sim = e.state } in
        let s : AfterAlike (serve setup e.fired d) (serve its e.fired (with_tasks ts d)) = serve_alike e.fired d ts h in
        let told : told_lines its c.sim.time e.told ≡ told_lines setup c.sim.time e.told = told_same c.sim.time e.told in
        record { rig = s.rig; lines = cc (told, s.lines); cost = refl }

    chosen_alike : (running : Option Running) (ready : List Entry) (c : Rig) (ts : List Task) → TasksAlike one other c.tasks ts
        → (BeginsWith one (turn_of running ready c) c → ⊥) → SteppedAlike (chosen setup running ready c) (chosen its running ready (with_tasks ts c))
    chosen_alike (Some r) ready c ts h b = stepped_alike r (task_at r.task c.tasks) (task_at r.task ts) c ts (task_found r.task c.tasks ts h) h b
    chosen_alike None (e ∷ es) c ts h b =
        stepped_alike (taken c e) (task_at e.task c.tasks) (task_at e.task ts) (resumed e es c) ts (task_found e.task c.tasks ts h) h b
    chosen_alike None [] c ts h b = event_alike (event_of setup c) c ts h

    -- a step that doesn't begin the rest
    pub rig_step_alike : (c d : Rig) → RigAlike one other c d → (RigBegins one c → ⊥) → SteppedAlike (rig_step setup c) (rig_step its d)
    rig_step_alike c d h b =
        subst (λ (x : Rig). SteppedAlike (rig_step setup c) (rig_step its x)) (sym h.same) (chosen_alike c.running c.ready c d.tasks h.tasks b)

    -- ---- begins of tests

    deadline_alike : (steps : Answer ℕ) (c : Rig) (ts : List Task) → TasksAlike one other c.tasks ts → RigAlike one other (with_deadline steps c) (with_deadline steps (with_tasks ts c))
    deadline_alike (Ok steps) c ts h = record { same = refl; tasks = h }
    deadline_alike (Err kind) c ts h = record { same = refl; tasks = h }

    limit_alike : (step_fs : ℕ) (limit : Option Limit) (c : Rig) (ts : List Task) → TasksAlike one other c.tasks ts
        → RigAlike one other (with_limit step_fs limit c) (with_limit step_fs limit (with_tasks ts c))
    limit_alike step_fs None c ts h = record { same = refl; tasks = h }
    limit_alike step_fs (Some limit) c ts h = deadline_alike (limit_steps step_fs limit) c ts h

    test_alike : (case : Case) (values : Answer (List Value)) (c : Rig) (ts : List Task) → TasksAlike one other c.tasks ts
        → RigAlike one other (with_test setup case values c) (with_test its case values (with_tasks ts c))
    test_alike case (Ok values) c ts h =
        let d : Rig = with_new_task (function_at setup.functions case.function) (value.Place 0 ∷ values) c in
        let e : Rig = with_new_task (function_at functions case.function) (value.Place 0 ∷ values) (with_tasks ts c) in
        limit_alike setup.flat.step_fs case.time d e.tasks (started_alike case.function (value.Place 0 ∷ values) c ts h).tasks
    test_alike case (Err kind) c ts h = record { same = refl; tasks = h }

    pub begin_alike : (case : Case) (c : Rig) (ts : List Task) → TasksAlike one other c.tasks ts → RigAlike one other (test_begun setup case c) (test_begun its case (with_tasks ts c))
    begin_alike case c ts h =
        let values : Answer (List Value) = values_of case.arguments in
        counted_alike [] c ts (with_test setup case values c) (with_test its case values (with_tasks ts c)) (test_alike case values c ts h)
