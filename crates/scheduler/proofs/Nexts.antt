-- What holds after something that a task wanted.
use Rattle.std.proofs.Common.{◌≡◌, ℕ, ◌≤◌, ◌<◌, ◌+◌, arith, rules, Bool, true, false, List, [], ◌∷◌, ◌++◌, length, Option, None, Some, refl, ap, sym, ◌∙◌, subst, inl}
use Rattle.std.specs.Prelude.{◌||◌, nat_le, Result, Ok, Err, IfOk}
use Rattle.gpi.specs.Content.{Content}
use Rattle.gpi.specs.declared.design.Flat.{Flat}
use Rattle.gpi.specs.declared.interface.Gpi.{Ghosts as GpiGhosts}
use Rattle.port_io.specs.Means.{SinkMeans, PutsTo}
use Rattle.port_io.specs.Ports.{AppendsPart}
use Rattle.port_io.proofs.PartLaws.{part_one}
use Rattle.port_io.specs.declared.ports.NoMemory.{NoMemory}
use Rattle.port_io.specs.declared.ports.SinkFault.{SinkFault}
use Rattle.port_io.specs.declared.ports.SinkFault.TheVariants.{Failed, OutOfMemory}
use Rattle.py_value.specs.declared.trigger.TaskNo.{TaskNo}
use Rattle.py_value.specs.declared.value.Value.TheVariants as value
use Rattle.await_tree.specs.declared.cause.Given.{Given}
use Rattle.await_tree.specs.declared.cause.Given.TheVariants as given
use Rattle.rig_model.specs.declared.task.task.Turned.{Turned}
use Rattle.rig_model.specs.Run.Effect.{effect, goes_on, with_new_task}
use Rattle.rig_model.specs.Run.Rig.{Rig, Setup}
use Rattle.run_state.specs.Queue.Fits.{Fits, Keeps, queue_of}
use Rattle.run_state.specs.Queue.Effects.{with_ready}
use Rattle.rig_model.specs.Parts.Fits.{KeepsQueue}
use Rattle.rig_model.specs.Parts.Queue.{Queue}
use Rattle.rig_model.specs.Run.Limits.{live_limit}
use Rattle.py_value.specs.declared.value.Value.{Value}
use Rattle.test_meaning.specs.Body.BodyTrees.{Function}
use Rattle.rig_model.specs.Task.Frame.{Task}
use Rattle.scheduler.specs.EffectLaws.Stands.{StandsIn, StandsOwn}
use Rattle.scheduler.proofs.EffectLawsLemmas.Effects.{effect_stands, new_stands}
use Rattle.scheduler.specs.Turns.{LeadsTo, IsLogged, next_fault}
use Rattle.scheduler.specs.declared.turned.Next.{Next}
use Rattle.scheduler.specs.declared.turned.Next.TheVariants.{GoesOn, Ends}
use Rattle.scheduler.specs.declared.turned.Turn.TheVariants.{Went, Due, Over, Spent, WriteFault}
use Rattle.scheduler.specs.Parts.{Means, rig_of}
use Rattle.scheduler.specs.TestFits.{FitsAt, FitsNext, HasRoom, HasTurn}
use Rattle.scheduler.specs.declared.test.RunningTest.{RunningTest}
use Rattle.run_state.specs.declared.queue.queue.RunQueue.{RunQueue}
use Rattle.run_state.specs.LiveTasks.Flows.{meanings}
use Rattle.run_state.specs.TestTasks.Tasks.{IsWhole, are_full, live_in, without}
use Rattle.scheduler.proofs.EffectLawsLemmas.Places.{few_placed, no_more}
use Rattle.await_tree.specs.EndedTasks.Endings.{Endings, start_limit}
use Rattle.await_tree.specs.WaitList.Waiting.{Waiting}
use Rattle.gpi.specs.declared.types.Key.{Key}

-- ---- places

-- where the task stands after what it wanted
module _ {M W F : Type 0} (m : Means M W F) (flat : Flat) (setup : Setup) (task : TaskNo) (t : Turned) (c : Rig) (idle : c.running ≡ None)
    (stands : StandsIn (Some task) c) (after : RunningTest M W F) (content : Content) (queue : Fits flat m.waiting m.held after.queue content) (room : HasRoom m after) where
  own : (d : Rig) → (effect setup task t c).rig ≡ d → StandsOwn d
  own d is = subst (λ (x : Rig). StandsOwn x) is (effect_stands setup task t c idle stands)

  pub fits_next : (next : Next) → LeadsTo setup task t c next (rig_of m after content) → FitsNext task next flat m after content
  fits_next (GoesOn g) l =
      let s : StandsOwn (goes_on task (Some g) (rig_of m after content)) = own (goes_on task (Some g) (rig_of m after content)) l in
      record { queue = queue; room = room; stands = record { placed_are = s.placed_are; live = s.live } }
  fits_next (Ends Went) l =
      let s : StandsOwn (rig_of m after content) = own (rig_of m after content) l in
      record { queue = queue; room = room; stands = record { placed_are = s.placed_are; live = s.live } }
  fits_next (Ends Due) l = absurd l
  fits_next (Ends (Over o)) l =
      let s : StandsOwn (record (rig_of m after content) { outcome = Some o }) = own (record (rig_of m after content) { outcome = Some o }) l in
      record { queue = queue; room = room; stands = record { placed_are = s.placed_are; live = s.live } }
  fits_next (Ends Spent) l = absurd l
  fits_next (Ends WriteFault) l = tt

-- ---- lines

module _ {O : Type 0} (sink : SinkMeans O) (out : O) where
  -- nothing is put
  pub none_put : (r : Result Next NoMemory) (lines : List (List ℕ)) → lines ≡ [] → IfOk r (λ next. next_fault (Ok next) ≡ None) → PutsTo sink out lines (next_fault r) out
  none_put (Ok next) lines e h = rw (e, h) refl
  none_put (Err no_memory) lines e h = rw e (record { front = []; rest = []; split = refl; mid = out; taken = refl; part = inl refl })

-- the same lines, and the same fault
pub same_put : {O : Type 0} (sink : SinkMeans O) (out out' : O) (lines lines' : List (List ℕ)) (fault fault' : Option SinkFault) → lines ≡ lines' → fault ≡ fault'
    → PutsTo sink out lines' fault' out' → PutsTo sink out lines fault out'
same_put sink out out' lines lines' fault fault' e f h = rw (e, f) h

-- one line is put
pub put_one : {O : Type 0} (sink : SinkMeans O) (fault : SinkFault) (out : O) (line : List ℕ) (out' : O) → (fault ≡ Failed → sink.breaks out line out')
    → AppendsPart (sink.told out) (sink.told out') line → PutsTo sink out (line ∷ []) (Some fault) out'
put_one sink Failed out line out' b p = ([], line, [], refl, (out, refl, b refl))
put_one sink OutOfMemory out line out' b p = part_one sink.takes sink.told out line out' p

-- a line that was put leads on, or nothing is said
pub logged_leads : (setup : Setup) (task : TaskNo) (t : Turned) (c e : Rig) (next : Next) → (effect setup task t c).rig ≡ goes_on task (Some (given.Value value.Absent)) e
    → IsLogged next → LeadsTo setup task t c next e
logged_leads setup task t c e (GoesOn g) h k = h ∙ ap (λ (x : Given). goes_on task (Some x) e) (sym k)
logged_leads setup task t c e (Ends Went) h k = absurd k
logged_leads setup task t c e (Ends Due) h k = absurd k
logged_leads setup task t c e (Ends (Over o)) h k = absurd k
logged_leads setup task t c e (Ends Spent) h k = absurd k
logged_leads setup task t c e (Ends WriteFault) h k = tt

pub append_none : {A : Type 0} → (xs : List A) → xs ++ [] ≡ xs
append_none [] = refl
append_none (x ∷ xs) = ap (λ (ys : List _). x ∷ ys) (append_none xs)

-- ---- room

module _ {M W F : Type 0} (m : Means M W F) (t : RunningTest M W F) (room : HasRoom m t) where
  -- the same tasks, and as much room
  pub room_same : (t' : RunningTest M W F) → t'.tasks ≡ t.tasks → t'.queue.ready.room ≡ t.queue.ready.room → HasRoom m t'
  room_same t' tasks q = record { whole = rw tasks room.whole; room_is = rw (tasks, q) room.room_is }

  -- a task has ended
  pub room_ended : (t' : RunningTest M W F) (task : TaskNo) → IsWhole m.functions (meanings m.file m.task) t'.tasks
      → live_in m.task t'.tasks ≡ without task (live_in m.task t.tasks) → t'.queue.ready.room ≡ t.queue.ready.room → HasRoom m t'
  room_ended t' task whole live q = record { whole = whole; room_is = rw (live, q) (omega (arith, no_more task (live_in m.task t.tasks), room.room_is)) }

  -- a place is free for the task that has its turn
  pub has_place : (content : Content) (task : TaskNo) → StandsIn (Some task) (rig_of m t content)
      → length t.queue.ready.entries + length (m.waiting t.queue.awaits) < t.queue.ready.room
  has_place content task stands =
      omega (arith, few_placed (live_in m.task t.tasks) t.tasks.ended (Some task) t.queue.ready.entries (m.waiting t.queue.awaits) stands.placed_are, room.room_is)

  pub has_places : (content : Content) (task : TaskNo) → StandsIn (Some task) (rig_of m t content)
      → length t.queue.ready.entries + length (m.waiting t.queue.awaits) ≤ t.queue.ready.room
  has_places content task stands = omega (arith, has_place content task stands)

-- the registered keys are the awaited ones where queue and simulator fit
pub fits_keeps : {W : Type 0} (flat : Flat) (waiting : W → List Waiting) (held : W → List Key) (q : RunQueue W) (content : Content) → Fits flat waiting held q content → Keeps waiting held q content
fits_keeps flat waiting held q content f = record { keys_are = f.queue.keys_are; held_are = f.queue.held_are }

-- a task has its turn where test and simulator fit so
pub has_turn : {M W F K : Type 0} (m : Means M W F) (gpi : GpiGhosts K) (task : TaskNo) (flat : Flat) (t : RunningTest M W F) (kernel : K) → gpi.is_loaded kernel
    → FitsAt (Some task) flat m t (gpi.content kernel) → HasTurn m gpi task t kernel
has_turn m gpi task flat t kernel loaded fits =
    record { loaded = loaded; keeps = fits_keeps flat m.waiting m.held t.queue (gpi.content kernel) fits.queue; room = fits.room; stands = fits.stands }

-- a task more is ready
pub keeps_ready : {W : Type 0} (waiting : W → List Waiting) (held : W → List Key) (q q' : RunQueue W) (task : TaskNo) (given : Given) (content : Content)
    → q'.awaits ≡ q.awaits → queue_of waiting q' ≡ with_ready task given (queue_of waiting q) → Keeps waiting held q content → Keeps waiting held q' content
keeps_ready {W} waiting held q q' task given content a is h =
    subst (λ (w : W). KeepsQueue (held w) (queue_of waiting q') content) (sym a)
    (subst (λ (x : Queue). KeepsQueue (held q.awaits) x content) (sym is) (record { keys_are = h.keys_are; held_are = h.held_are }))

-- a limit on tasks isn't reached
under : (a n : ℕ) → nat_le n a ≡ false → a < n
under a n h = search rules

first_false : (a b : Bool) → (a || b) ≡ false → a ≡ false
first_false true b h = absurd (cc)
first_false false b h = refl

pub few_live : (tasks : List Task) (endings : Endings) → are_full tasks endings ≡ false → length tasks < live_limit
few_live tasks endings h = under (length tasks) live_limit (first_false (nat_le live_limit (length tasks)) (nat_le start_limit (length endings)) h)

-- a task was started by one that has its turn
pub started_stands : (task : TaskNo) (function : Function) (args : List Value) (c d : Rig) → are_full c.tasks c.endings ≡ false → StandsIn (Some task) c
    → d ≡ with_new_task function args c → StandsIn (Some task) d
started_stands task function args c d free h is =
    subst (λ (x : Rig). StandsIn (Some task) x) (sym is) (new_stands task (Some task) function args c (few_live c.tasks c.endings free) h)
