-- Which effects write no line, and what may be asked where a view knows what a task wants.
use Rattle.std.proofs.Common.{◌≡◌, ℕ, zero, suc, ◌<◌, Bool, true, false, List, [], ◌∷◌, length, Option, None, Some, refl, ap, subst, ◌∙◌, arith}
use Rattle.std.specs.Prelude.{◌==◌, ◌+◌, nat_lt, nat_le, slice_index_or, is_some, Result, Ok, Err, IfOk, OnOk}
use Rattle.std.proofs.lemmas.List.{length-map}
use Rattle.four_value.specs.declared.Digit.{Digit}
use Rattle.gpi.specs.Content.{Content}
use Rattle.gpi.specs.Design.{widths}
use Rattle.gpi.specs.State.{is_end}
use Rattle.gpi.specs.Terms.{widths_of}
use Rattle.gpi.specs.declared.design.Flat.{Flat}
use Rattle.gpi.specs.declared.design.Signal.{Signal}
use Rattle.gpi.specs.declared.types.SigId.{SigId}
use Rattle.gpi.specs.declared.types.Write.{Write}
use Rattle.port_io.specs.declared.ports.NoMemory.{NoMemory}
use Rattle.py_value.specs.Trigger.{Trig}
use Rattle.py_value.specs.declared.trigger.QueueNo.{QueueNo}
use Rattle.py_value.specs.declared.trigger.TaskNo.{TaskNo}
use Rattle.py_value.specs.declared.value.Value.{Value}
use Rattle.py_value.specs.declared.value.Fault.{Fault}
use Rattle.await_tree.specs.Begin.{begin}
use Rattle.await_tree.specs.Check.{tree_of, check}
use Rattle.await_tree.specs.Steps.{step_of}
use Rattle.await_tree.specs.Tree.{Tree}
use Rattle.await_tree.specs.declared.cause.Step.{Step}
use Rattle.await_tree.specs.declared.cause.Step.TheVariants.{Still, Done}
use Rattle.await_tree.specs.SyncObjects.States.{is_held, event_limit, lock_limit}
use Rattle.task_queue.specs.Queues.{queue_at, is_full as has_no_room, is_at_limit}
use Rattle.run_view.specs.View.{seen}
use Rattle.rig_model.specs.Task.Frame.{function_at}
use Rattle.rig_model.specs.Task.Known.{HasDigits, KnowsWrite}
use Rattle.rig_model.specs.declared.task.task.Turned.{Turned}
use Rattle.rig_model.specs.declared.task.task.Turned.TheVariants as turned
use Rattle.await_tree.specs.WaitList.Waiting.{is_joined}
use Rattle.rig_model.specs.Run.Effect.{begun_by, awaits_by, write_by, stages, starts, starter, next_task, with_new_task, is_full, kills, makes_event, makes_lock, makes_queue, puts_item, gets_item, releases, fails, effect}
use Rattle.rig_model.specs.Run.Known.{KnowsTrigger}
use Rattle.rig_model.specs.Run.Rig.{Rig, Setup, view_of, facts_of}
use Rattle.rig_model.specs.Parts.Fits.{IsSoundWrite}
use Rattle.run_state.specs.Queue.Fits.{Fits}
use Rattle.scheduler.specs.EffectLaws.Stands.{StandsIn}
use Rattle.scheduler.specs.Turns.{LeadsTo}
use Rattle.scheduler.specs.declared.turned.Next.{Next}
use Rattle.scheduler.specs.TestFits.{HasRoom, FitsNext}
use Rattle.scheduler.specs.Parts.{Means, rig_of}
use Rattle.scheduler.specs.Waits.{KnowsWait}
use Rattle.scheduler.specs.declared.test.RunningTest.{RunningTest}
use Rattle.scheduler.proofs.Nexts.{fits_next}

-- ---- lines

-- neither a write that is done at once, nor a log line
abbrev pub IsQuiet : Turned → Type 0
IsQuiet (turned.Put sig act) = ⊥
IsQuiet (turned.Log level text) = ⊥
IsQuiet _ = Unit {0}

module _ (task : TaskNo) (c : Rig) where
  begun_quiet : (t : Tree) (s : Step) (d : Rig) → (begun_by task t s d).lines ≡ []
  begun_quiet t (Done g) d = refl
  begun_quiet t Still d = refl

  awaits_quiet : (t : Tree) (o : Option Fault) → (awaits_by task t o c).lines ≡ []
  awaits_quiet t (Some fault) = refl
  awaits_quiet t None = let b = begin t (facts_of c) in begun_quiet b.tree (step_of b.tree) (record c { objects = record c.objects { locks = b.facts.locks } })

  stage_quiet : (b : Bool) (sig : SigId) (act : Write) → (write_by b sig (stages task sig act c) c).lines ≡ []
  stage_quiet true sig act = refl
  stage_quiet false sig act = refl

  starter_quiet : (n : TaskNo) (b : Bool) (d : Rig) → (starter task n b d).lines ≡ []
  starter_quiet n true d = refl
  starter_quiet n false d = refl

  starts_quiet : (full : Bool) (f : _) (args : _) (b : Bool) → (starts full task f args b c).lines ≡ []
  starts_quiet true f args b = refl
  starts_quiet false f args b = starter_quiet (next_task c) b (with_new_task f args c)

  kills_quiet : (b : Bool) (other : TaskNo) → (kills b task other c).lines ≡ []
  kills_quiet true other = refl
  kills_quiet false other = refl

  event_quiet : (b : Bool) → (makes_event b task c).lines ≡ []
  event_quiet true = refl
  event_quiet false = refl

  lock_quiet : (b : Bool) → (makes_lock b task c).lines ≡ []
  lock_quiet true = refl
  lock_quiet false = refl

  release_quiet : (b : Bool) (l : _) → (releases b task l c).lines ≡ []
  release_quiet true l = refl
  release_quiet false l = refl

  queue_quiet : (b : Bool) (bound : ℕ) → (makes_queue b task bound c).lines ≡ []
  queue_quiet true bound = refl
  queue_quiet false bound = refl

  puts_quiet : (full limit : Bool) (queue : QueueNo) (item : Value) → (puts_item full limit task queue item c).lines ≡ []
  puts_quiet true limit queue item = refl
  puts_quiet false true queue item = refl
  puts_quiet false false queue item = refl

  gets_quiet : (queue : QueueNo) (items : List Value) → (gets_item task queue items c).lines ≡ []
  gets_quiet queue [] = refl
  gets_quiet queue (item ∷ items) = refl

  fails_quiet : (b : Bool) (fault : Fault) → (fails b task fault c).lines ≡ []
  fails_quiet true fault = refl
  fails_quiet false fault = refl

  pub quiet_lines : (setup : Setup) (t : Turned) → IsQuiet t → (effect setup task t c).lines ≡ []
  quiet_lines setup (turned.Await trig) h = awaits_quiet (tree_of trig c.sim.time) (check trig c.sim.time c.sim.region)
  quiet_lines setup (turned.Stage sig act) h = stage_quiet (is_end c.sim.region) sig act
  quiet_lines setup (turned.Put sig act) h = absurd h
  quiet_lines setup (turned.Start func args give_way) h = starts_quiet (is_full c) (function_at setup.functions func) args give_way
  quiet_lines setup (turned.Kill other) h = kills_quiet (other.0 == task.0) other
  quiet_lines setup turned.NewEvent h = event_quiet (nat_le event_limit (length c.objects.events))
  quiet_lines setup (turned.SetEvent event) h = refl
  quiet_lines setup (turned.ClearEvent event) h = refl
  quiet_lines setup turned.NewLock h = lock_quiet (nat_le lock_limit (length c.objects.locks))
  quiet_lines setup (turned.Release lock) h = release_quiet (is_held lock c.objects) lock
  quiet_lines setup (turned.NewQueue bound) h = queue_quiet (nat_lt event_limit (length c.objects.events + 2)) bound
  quiet_lines setup (turned.PutNow queue item) h =
      puts_quiet (has_no_room (queue_at queue c.queues)) (is_at_limit (queue_at queue c.queues)) queue item
  quiet_lines setup (turned.GetNow queue) h = gets_quiet queue (queue_at queue c.queues).items
  quiet_lines setup (turned.Draw low span) h = refl
  quiet_lines setup (turned.Log level text) h = absurd h
  quiet_lines setup (turned.Done v) h = refl
  quiet_lines setup (turned.Raised fault) h = fails_quiet (is_joined task c.waiting) fault
  quiet_lines setup turned.Spent h = refl

-- ---- what is known

pub knows_wait : (setup : Setup) (c : Rig) (trig : Trig) → KnowsTrigger (view_of setup c) trig → KnowsWait c trig
knows_wait setup c trig h = record {
  view = view_of setup c;
  signals = refl;
  events = omega arith;
  locks = omega arith;
  ended = omega (arith, length-map c.endings is_some);
  known = h;
}

pub knows_task : (setup : Setup) (c : Rig) (n : ℕ) → n < length (view_of setup c).ended → n < length c.endings
knows_task setup c n h = omega (arith, h, length-map c.endings is_some)

pub knows_queue : (setup : Setup) (c : Rig) (n : ℕ) → n < length (view_of setup c).queues → n < length c.queues
knows_queue setup c n h = omega (arith, h, length-map c.queues seen)

width_is : (m : List (List Digit)) (n : ℕ) → length (slice_index_or m n []) ≡ slice_index_or (widths_of m) n 0
width_is [] n = refl
width_is (ds ∷ m) zero = refl
width_is (ds ∷ m) (suc n) = width_is m n

values_long : (m : List (List Digit)) → length (widths_of m) ≡ length m
values_long [] = refl
values_long (ds ∷ m) = ap suc (values_long m)

signals_long : (ss : List Signal) → length (widths ss) ≡ length ss
signals_long [] = refl
signals_long (s ∷ ss) = ap suc (signals_long ss)

pub sound_write : (setup : Setup) (c : Rig) (flat : Flat) (sig : SigId) (act : Write) → widths_of c.sim.signals ≡ widths flat.signals
    → KnowsWrite (view_of setup c) sig act → IsSoundWrite flat.signals (record { sig = sig; act = act })
sound_write setup c flat sig act e h = (
  omega (arith, h.signal.0, values_long c.sim.signals, ap (λ (ws : List ℕ). length ws) e, signals_long flat.signals),
  subst (λ (n : ℕ). HasDigits n act) (width_is c.sim.signals sig.0 ∙ ap (λ (ws : List ℕ). slice_index_or ws sig.0 0) e) h.digits,
)

-- ---- answers

module _ {M W F : Type 0} (m : Means M W F) (flat : Flat) (setup : Setup) (task : TaskNo) (t : Turned) (c : Rig) (idle : c.running ≡ None)
    (stands : StandsIn (Some task) c) (after : RunningTest M W F) (content : Content) (queue : Fits flat m.waiting m.held after.queue content) where
  pub fits_if : (r : Result Next NoMemory) → IfOk r (λ next. LeadsTo setup task t c next (rig_of m after content)) → OnOk r (HasRoom m after)
      → IfOk r (λ next. FitsNext task next flat m after content)
  fits_if (Ok next) l h = fits_next m flat setup task t c idle stands after content queue h next l
  fits_if (Err no_memory) l h = tt

pub on_ok : {P : Type 0} (r : Result Next NoMemory) → P → OnOk r P
on_ok (Ok next) p = p
on_ok (Err no_memory) p = tt

pub if_ok : {P Q : Next → Type 0} (r : Result Next NoMemory) → IfOk r P → ((x : Next) → P x → Q x) → IfOk r Q
if_ok (Ok x) p k = k x p
if_ok (Err e) p k = tt
