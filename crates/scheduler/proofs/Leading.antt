-- Where the effects of a task lead.
use Rattle.std.proofs.Common.{◌≡◌, ℕ, Bool, true, false, List, [], ◌∷◌, ◌++◌, length, Some, refl, ap, sym, ◌∙◌}
use Rattle.std.specs.Prelude.{◌==◌}
use Rattle.gpi.specs.Content.{Content}
use Rattle.gpi.specs.State.{State, is_end}
use Rattle.gpi.specs.declared.types.Counts.{Counts}
use Rattle.gpi.specs.declared.types.SigId.{SigId}
use Rattle.gpi.specs.declared.types.Write.{Write}
use Rattle.py_value.specs.declared.trigger.TaskNo.{TaskNo}
use Rattle.py_value.specs.declared.trigger.EventNo.{EventNo}
use Rattle.py_value.specs.declared.trigger.LockNo.{LockNo}
use Rattle.py_value.specs.declared.value.Value.{Value}
use Rattle.py_value.specs.declared.value.Value.TheVariants as value
use Rattle.py_value.specs.declared.value.Fault.{Fault}
use Rattle.await_tree.specs.declared.cause.Cause.TheVariants as cause
use Rattle.await_tree.specs.declared.cause.Given.{Given}
use Rattle.await_tree.specs.declared.cause.Given.TheVariants as given
use Rattle.await_tree.specs.EndedTasks.Endings.{Endings, is_done, with_ending}
use Rattle.await_tree.specs.declared.ended_tasks.ending.Ending.{Ending}
use Rattle.await_tree.specs.declared.ended_tasks.ending.Ending.TheVariants.{Returned, Failed, Killed}
use Rattle.await_tree.specs.SyncObjects.States.{States, with_set, with_free, is_held}
use Rattle.test_meaning.specs.Body.BodyTrees.{Function}
use Rattle.rig_model.specs.Task.Frame.{Task, function_at}
use Rattle.rig_model.specs.declared.task.task.Turned.TheVariants as turned
use Rattle.await_tree.specs.WaitList.Counts.{counts_after}
use Rattle.await_tree.specs.WaitList.Waiting.{is_wanted, is_joined}
use Rattle.rig_model.specs.Run.Counts.{counted}
use Rattle.rig_model.specs.Run.Rig.{Rig, Setup, awaited}
use Rattle.rig_model.specs.Run.Serve.{deposit}
use Rattle.rig_model.specs.Run.Effect.{goes_on, write_by, stages, puts, starts, starter, with_new_task, is_full, ends, returned, fails, kills, kills_by, releases, handed_on, effect}
use Rattle.rig_model.specs.declared.run.outcome.Outcome.TheVariants as outcome
use Rattle.rig_model.specs.Parts.Queue.{Queue, Leads}
use Rattle.run_state.specs.Queue.Effects.{staging, waking, granting, killing}
use Rattle.run_state.proofs.QueueLemmas.CountLaws.{counts_still}
use Rattle.run_state.specs.TestTasks.Tasks.{without}
use Rattle.scheduler.specs.Parts.{Parts, rig_by}
use Rattle.scheduler.proofs.Nexts.{append_none}

abbrev Absent : Given
Absent = given.Value value.Absent

-- a task has ended
abbrev pub ended_parts : TaskNo → Ending → Parts → Parts
ended_parts task ending p = record p { tasks = without task p.tasks; endings = with_ending task ending p.endings }

pub ended_is : (p : Parts) (task : TaskNo) (ending : Ending) (tasks : List Task) (endings : Endings) → tasks ≡ without task p.tasks
    → endings ≡ with_ending task ending p.endings → (let r : Parts = record p { tasks = tasks; endings = endings } in r) ≡ ended_parts task ending p
ended_is p task ending tasks endings t e =
    ap (λ (ts : List Task). (let r : Parts = record p { tasks = ts; endings = endings } in r)) t
    ∙ ap (λ (es : Endings). (let r : Parts = record p { tasks = without task p.tasks; endings = es } in r)) e

abbrev pub with_objects : States → Parts → Parts
with_objects objects p = record p { objects = objects }

-- the same, where nothing is fired
pub counted_same : (c d : Rig) → awaited d ≡ awaited c → d.counts ≡ c.counts → counted [] c d ≡ d
counted_same c d e h =
    ap (λ (x : Counts). (let r : Rig = record d { counts = x } in r))
    (ap (λ (ks : List _). counts_after [] (awaited c) ks c.counts) e ∙ counts_still (awaited c) (awaited c) c.counts (λ k. refl) ∙ sym h)

module _ (setup : Setup) (task : TaskNo) (p : Parts) (q : Queue) (k : Content) where
  -- ---- writes

  pub put_lines : (sig : SigId) (act : Write) → is_end k.state.region ≡ false
      → (effect setup task (turned.Put sig act) (rig_by p q k)).lines ≡ (deposit setup sig act (rig_by p q k)).lines
  put_lines sig act e =
      ap (λ (x : Bool). (write_by x sig (puts setup task sig act (rig_by p q k)) (rig_by p q k)).lines) e ∙ append_none (deposit setup sig act (rig_by p q k)).lines

  module _ (q' : Queue) (k' : Content) where
    pub stage_leads : (sig : SigId) (act : Write) → is_end k.state.region ≡ false → Leads (staging sig act) q k q' k'
        → (effect setup task (turned.Stage sig act) (rig_by p q k)).rig ≡ goes_on task (Some Absent) (rig_by p q' k')
    stage_leads sig act e l =
        ap (λ (x : Bool). (write_by x sig (stages task sig act (rig_by p q k)) (rig_by p q k)).rig) e ∙ ap (goes_on task (Some Absent)) (l (rig_by p q k))

    pub put_leads : (sig : SigId) (act : Write) → is_end k.state.region ≡ false → Leads (λ c. (deposit setup sig act c).rig) q k q' k'
        → (effect setup task (turned.Put sig act) (rig_by p q k)).rig ≡ goes_on task (Some Absent) (rig_by p q' k')
    put_leads sig act e l =
        ap (λ (x : Bool). (write_by x sig (puts setup task sig act (rig_by p q k)) (rig_by p q k)).rig) e ∙ ap (goes_on task (Some Absent)) (l (rig_by p q k))

  -- ---- kills and ends

  module _ (p' : Parts) (q' : Queue) (k' : Content) where
    pub kill_leads : (other : TaskNo) → (other.0 == task.0) ≡ false → is_done other p.endings ≡ false → p' ≡ ended_parts other Killed p
        → Leads (killing other) q k q' k' → (effect setup task (turned.Kill other) (rig_by p q k)).rig ≡ goes_on task (Some Absent) (rig_by p' q' k')
    kill_leads other e d is l =
        ap (λ (x : Bool). (kills x task other (rig_by p q k)).rig) e
        ∙ ap (λ (x : Bool). goes_on task (Some Absent) (kills_by x other (rig_by p q k))) d
        ∙ ap (goes_on task (Some Absent)) (l (rig_by (ended_parts other Killed p) q k))
        ∙ ap (λ (x : Parts). goes_on task (Some Absent) (rig_by x q' k')) (sym is)

    -- a task has ended, and its joiners are served
    ends_leads : (ending : Ending) (failed : Bool) → p' ≡ ended_parts task ending p → Leads (waking (cause.Ended task failed)) q k q' k'
        → ends task ending failed (rig_by p q k) ≡ rig_by p' q' k'
    ends_leads ending failed is l = l (rig_by (ended_parts task ending p) q k) ∙ ap (λ (x : Parts). rig_by x q' k') (sym is)

    abbrev closing : Bool → Rig → Rig
    closing b d = record d { outcome = returned b d.outcome }

    pub return_over : (v : Value) → (task.0 == 0) ≡ true → p' ≡ ended_parts task (Returned v) p → Leads (waking (cause.Ended task false)) q k q' k'
        → (effect setup task (turned.Done v) (rig_by p q k)).rig ≡ record (rig_by p' q' k') { outcome = Some outcome.Normal }
    return_over v e is l = ap (closing (task.0 == 0)) (ends_leads (Returned v) false is l) ∙ ap (λ (b : Bool). closing b (rig_by p' q' k')) e

    pub return_went : (v : Value) → (task.0 == 0) ≡ false → p' ≡ ended_parts task (Returned v) p → Leads (waking (cause.Ended task false)) q k q' k'
        → (effect setup task (turned.Done v) (rig_by p q k)).rig ≡ rig_by p' q' k'
    return_went v e is l = ap (closing (task.0 == 0)) (ends_leads (Returned v) false is l) ∙ ap (λ (b : Bool). closing b (rig_by p' q' k')) e

    pub fail_joined : (fault : Fault) → is_joined task q.waiting ≡ true → p' ≡ ended_parts task (Failed fault) p → Leads (waking (cause.Ended task true)) q k q' k'
        → (effect setup task (turned.Raised fault) (rig_by p q k)).rig ≡ rig_by p' q' k'
    fail_joined fault e is l = ap (λ (b : Bool). (fails b task fault (rig_by p q k)).rig) e ∙ ends_leads (Failed fault) true is l

  -- ---- events and locks

  pub set_leads : (event : EventNo) (objects : States) (q' : Queue) (k' : Content) → objects ≡ with_set event p.objects → Leads (waking (cause.Event event)) q k q' k'
      → (effect setup task (turned.SetEvent event) (rig_by p q k)).rig ≡ goes_on task (Some Absent) (rig_by (with_objects objects p) q' k')
  set_leads event objects q' k' is l =
      ap (goes_on task (Some Absent)) (l (rig_by (with_objects (with_set event p.objects) p) q k))
      ∙ ap (λ (x : States). goes_on task (Some Absent) (rig_by (with_objects x p) q' k')) (sym is)

  pub release_granted : (lock : LockNo) (q' : Queue) (k' : Content) → is_held lock p.objects ≡ true → is_wanted lock q.waiting ≡ true → Leads (granting lock) q k q' k'
      → (effect setup task (turned.Release lock) (rig_by p q k)).rig ≡ goes_on task (Some Absent) (rig_by p q' k')
  release_granted lock q' k' e w l =
      ap (λ (x : Bool). (releases x task lock (rig_by p q k)).rig) e
      ∙ ap (λ (x : Bool). goes_on task (Some Absent) (counted [] (rig_by p q k) (handed_on x lock (rig_by p q k)))) w
      ∙ ap (goes_on task (Some Absent)) (l (rig_by p q k))

  pub release_freed : (lock : LockNo) (objects : States) (q' : Queue) (k' : Content) → is_held lock p.objects ≡ true → is_wanted lock q.waiting ≡ false
      → objects ≡ with_free lock p.objects → q' ≡ q → k'.state ≡ k.state → k'.counts ≡ k.counts
      → (effect setup task (turned.Release lock) (rig_by p q k)).rig ≡ goes_on task (Some Absent) (rig_by (with_objects objects p) q' k')
  release_freed lock objects q' k' e w is same state counts =
      let freed : Rig = rig_by (with_objects (with_free lock p.objects) p) q k in
      ap (λ (x : Bool). (releases x task lock (rig_by p q k)).rig) e
      ∙ ap (λ (x : Bool). goes_on task (Some Absent) (counted [] (rig_by p q k) (handed_on x lock (rig_by p q k)))) w
      ∙ ap (goes_on task (Some Absent)) (counted_same (rig_by p q k) freed refl refl)
      ∙ ap (λ (x : States). goes_on task (Some Absent) (rig_by (with_objects x p) q k)) (sym is)
      ∙ ap (λ (x : Queue). goes_on task (Some Absent) (rig_by (with_objects objects p) x k)) (sym same)
      ∙ ap (λ (s : State). goes_on task (Some Absent) (let r : Rig = record (rig_by (with_objects objects p) q' k) { sim = s } in r)) (sym state)
      ∙ ap (λ (n : Counts). goes_on task (Some Absent) (let r : Rig = record (rig_by (with_objects objects p) q' k) { sim = k'.state; counts = n } in r)) (sym counts)

  -- ---- starts

  module _ (functions : List Function) (own : setup.functions ≡ functions) (func : ℕ) (args : List Value) (number : TaskNo) (d : Rig) (free : is_full (rig_by p q k) ≡ false)
      (is : number ≡ record { 0 = length p.endings }) (added : d ≡ with_new_task (function_at functions func) args (rig_by p q k)) where
    started : (give_way : Bool) → (effect setup task (turned.Start func args give_way) (rig_by p q k)).rig ≡ (starter task number give_way d).rig
    started give_way =
        ap (λ (x : Bool). (starts x task (function_at setup.functions func) args give_way (rig_by p q k)).rig) free
        ∙ ap (λ (fs : List Function). (starts false task (function_at fs func) args give_way (rig_by p q k)).rig) own
        ∙ ap (λ (n : TaskNo). (starter task n give_way (with_new_task (function_at functions func) args (rig_by p q k))).rig) (sym is)
        ∙ ap (λ (x : Rig). (starter task number give_way x).rig) (sym added)

    -- the task goes on
    pub start_on : (give_way : Bool) → give_way ≡ false
        → (effect setup task (turned.Start func args give_way) (rig_by p q k)).rig ≡ goes_on task (Some (given.Value (value.Task number))) d
    start_on give_way e = started give_way ∙ ap (λ (b : Bool). (starter task number b d).rig) e

    -- the task gives way
    pub start_way : (give_way : Bool) (e : Rig) → give_way ≡ true → e ≡ record d { ready = d.ready ++ record { task = task; given = given.Value (value.Task number) } ∷ [] }
        → (effect setup task (turned.Start func args give_way) (rig_by p q k)).rig ≡ e
    start_way give_way e h is = started give_way ∙ ap (λ (b : Bool). (starter task number b d).rig) h ∙ sym is
