-- How a test begins, and times that are awaited from then on.
use Rattle.std.proofs.Common.{◌≡◌, ℕ, ◌+◌, ◌≤◌, nat_lt, Bool, true, false, List, [], Option, None, Some, IfSome, Result, Ok, Err, IfOk, OnOk, refl, ap, sym, subst, ◌∙◌, arith, rules, length, if◌then◌else◌}
use Rattle.std.specs.Prelude.{OnErr}
use Rattle.gpi.specs.Content.{Content}
use Rattle.gpi.specs.Limits.{latest_time}
use Rattle.gpi.specs.State.{State}
use Rattle.gpi.specs.declared.types.Counts.{Counts}
use Rattle.gpi.specs.declared.types.Key.{Key}
use Rattle.py_value.specs.declared.value.Value.{Value}
use Rattle.py_evaluate.specs.Attribute.Knows.{KnowsAll, KnowsNode}
use Rattle.py_evaluate.specs.Attribute.Look.{View}
use Rattle.await_tree.specs.Check.{last_time}
use Rattle.run_view.specs.RandomStream.Generator.{Generator}
use Rattle.test_meaning.specs.Body.BodyTrees.{Limit}
use Rattle.rig_model.specs.Task.Frame.{function_at}
use Rattle.await_tree.specs.WaitList.Counts.{counts_after}
use Rattle.rig_model.specs.Run.Case.{deadline_at, emptied, start_planned, with_deadline, with_limit}
use Rattle.rig_model.specs.Run.Counts.{counted}
use Rattle.rig_model.specs.Run.Effect.{with_new_task}
use Rattle.rig_model.specs.Run.Known.{IsKnown}
use Rattle.rig_model.specs.Run.Rig.{Rig, Setup, awaited}
use Rattle.rig_model.specs.Parts.Queue.{Leads, Queue}
use Rattle.run_state.specs.Queue.Effects.{giving_up, planning}
use Rattle.run_state.specs.Queue.Fits.{Fits, queue_of}
use Rattle.run_state.specs.declared.queue.queue.RunQueue.{RunQueue}
use Rattle.scheduler.specs.Timely.{IsTimely}
use Rattle.run_view.specs.View.{IsOf}
use Rattle.scheduler.specs.EffectLaws.Stands.{StandsIn}
use Rattle.scheduler.proofs.EffectLawsLemmas.Effects.{new_stands}
use Rattle.scheduler.specs.TestFits.{HasRoom}
use Rattle.scheduler.specs.Parts.{Means, Parts, rig_by, parts_of}
use Rattle.scheduler.specs.declared.test.RunningTest.{RunningTest}
use Rattle.scheduler.specs.Engine.{counting, rig_of, setup_of}
use Rattle.scheduler.specs.Fits.{FitsKernel}
use Rattle.scheduler.specs.declared.engine.Engine.{Engine}
use Rattle.scheduler.proofs.Known.{first_task_known, known_but}

-- ---- answers that may be errors

pub on_ok : {T E : Type 0} → (r : Result T E) (P Q : Type 0) → (P → Q) → OnOk r P → OnOk r Q
on_ok (Ok x) P Q f h = f h
on_ok (Err x) P Q f h = tt

pub on_err : {T E : Type 0} → (r : Result T E) (P Q : Type 0) → (P → Q) → OnErr r P → OnErr r Q
on_err (Ok x) P Q f h = tt
on_err (Err x) P Q f h = f h

pub if_ok : {T E : Type 0} → (r : Result T E) (P Q : T → Type 0) → ((x : T) → P x → Q x) → IfOk r P → IfOk r Q
if_ok (Ok x) P Q f h = f x h
if_ok (Err x) P Q f h = tt

-- where each answer gives it
pub by_answer : {T E : Type 0} → (r : Result T E) (P Q R : Type 0) → (P → R) → (Q → R) → OnOk r P → OnErr r Q → R
by_answer (Ok x) P Q R f g h k = f h
by_answer (Err x) P Q R f g h k = g k

-- ---- effects while nothing is awaited

-- nothing is counted
pub still_counted : (c d : Rig) → awaited c ≡ [] → awaited d ≡ [] → d.counts ≡ c.counts → counted [] c d ≡ d
still_counted c d a b e =
    ap (λ (ks : List Key). (let x : Rig = record d { counts = counts_after [] ks (awaited d) c.counts } in x)) a
    ∙ ap (λ (ks : List Key). (let x : Rig = record d { counts = counts_after [] [] ks c.counts } in x)) b
    ∙ ap (λ (n : Counts). (let x : Rig = record d { counts = n } in x)) (sym e)

-- ---- deadlines

-- a time that can come
pub due_is : (time due : ℕ) → deadline_at time ≡ Some due → (due ≡ time) × (due ≤ last_time)
due_is time due h = decided (nat_lt last_time time) refl h
  where
    not_above : (n m : ℕ) → nat_lt n m ≡ false → m ≤ n
    not_above n m q = search rules

    some_same : (a b : ℕ) → Some a ≡ Some b → a ≡ b
    some_same a b q = cc

    decided : (b : Bool) → nat_lt last_time time ≡ b → (if b then None else Some time) ≡ Some due → (due ≡ time) × (due ≤ last_time)
    decided true q e = cc
    decided false q e =
        let same : time ≡ due = some_same time due e in
        (sym same, subst (λ (n : ℕ). n ≤ last_time) same (not_above last_time time q))

-- the test is given up then
pub some_deadline : (p : Parts) (q q' : Queue) (k k' : Content) (steps now due : ℕ) → now ≡ k.state.time → deadline_at (now + steps) ≡ Some due → Leads (giving_up due) q k q' k'
    → rig_by p q' k' ≡ counted [] (rig_by p q k) (with_deadline (Ok steps) (rig_by p q k))
some_deadline p q q' k k' steps now due t h l =
    let c : Rig = rig_by p q k in
    sym (ap (λ (d : Option ℕ). counted [] c (let x : Rig = record c { deadline = d } in x)) (ap (λ (n : ℕ). deadline_at (n + steps)) (sym t) ∙ h) ∙ l c)

-- ---- another queue, which differs in times alone

module _ {M W F : Type 0} (m : Means M W F) (e : Engine M W F) (k k' : Content) (fits : FitsKernel m e k) (q : RunQueue W) where
  abbrev after : Engine M W F
  after = record e { test = record e.test { queue = q } }

  pub timed_fits : (deadline planned : Option ℕ) (counts : Counts) → Fits e.teller.flat.now m.waiting m.held q k' → q.ready.room ≡ e.test.queue.ready.room → k'.state ≡ k.state
      → rig_of m after k' ≡ (let x : Rig = record (rig_of m e k) { deadline = deadline; planned = planned; counts = counts } in x)
      → IfSome deadline (λ due. due ≤ last_time) → IfSome planned (λ due. due ≤ latest_time) → FitsKernel m after k'
  timed_fits deadline planned counts queue room state is d p =
      let c : Rig = rig_of m e k in
      record {
        test = record {
          queue = queue;
          room = record { whole = fits.test.room.whole; room_is = subst (λ (n : ℕ). length (rig_of m e k).tasks ≤ n) (sym room) fits.test.room.room_is };
          stands = subst (StandsIn None) (sym is) (record { placed_are = fits.test.stands.placed_are; live = fits.test.stands.live });
        };
        names = subst (λ (s : State). IsOf e.teller.flat.now e.names s) (sym state) fits.names;
        known = subst (IsKnown (setup_of m e)) (sym is) (known_but (setup_of m e) c deadline planned c.random counts c.outcome fits.known);
        timely = subst (IsTimely latest_time) (sym is) (record { time = fits.timely.time; updates = fits.timely.updates; leaves = fits.timely.leaves; deadline = d; planned = p });
      }

  -- a deadline was set
  pub deadline_fits : (due : ℕ) → due ≤ last_time → Fits e.teller.flat.now m.waiting m.held q k' → q.ready.room ≡ e.test.queue.ready.room → k'.state ≡ k.state
      → Leads (giving_up due) (queue_of m.waiting e.test.queue) k (queue_of m.waiting q) k' → FitsKernel m after k'
  deadline_fits due h queue room state l =
      let c : Rig = rig_of m e k in
      timed_fits (Some due) c.planned (giving_up due c).counts queue room state (sym (l c)) h fits.timely.planned

  -- a start was planned
  pub planned_is : (due : ℕ) → due ≡ k.state.time + 1 → Leads (planning due) (queue_of m.waiting e.test.queue) k (queue_of m.waiting q) k' → rig_of m after k' ≡ start_planned (rig_of m e k)
  planned_is due d l = sym (l (rig_of m e k)) ∙ ap (λ (n : ℕ). planning n (rig_of m e k)) d

  pub planned_fits : (due : ℕ) → due ≤ latest_time → Fits e.teller.flat.now m.waiting m.held q k' → q.ready.room ≡ e.test.queue.ready.room → k'.state ≡ k.state
      → Leads (planning due) (queue_of m.waiting e.test.queue) k (queue_of m.waiting q) k' → FitsKernel m after k'
  planned_fits due h queue room state l =
      let c : Rig = rig_of m e k in
      timed_fits c.deadline (Some due) (planning due c).counts queue room state (sym (l c)) fits.timely.deadline h

  -- nothing was done but for the counts
  pub unplanned_is : k'.state ≡ k.state → queue_of m.waiting q ≡ queue_of m.waiting e.test.queue → rig_of m after k' ≡ counting k'.counts (rig_of m e k)
  unplanned_is state same =
      let c : Rig = rig_of m e k in
      ap (λ (x : Queue). rig_by (parts_of m e.test) x k') same
      ∙ ap (λ (s : State). (let x : Rig = record c { sim = s; counts = k'.counts } in x)) state

  pub unplanned_fits : Fits e.teller.flat.now m.waiting m.held q k' → q.ready.room ≡ e.test.queue.ready.room → k'.state ≡ k.state
      → queue_of m.waiting q ≡ queue_of m.waiting e.test.queue → FitsKernel m after k'
  unplanned_fits queue room state same =
      let c : Rig = rig_of m e k in
      timed_fits c.deadline c.planned k'.counts queue room state
      (unplanned_is state same) fits.timely.deadline fits.timely.planned

-- ---- a test's own task

module _ {M W F : Type 0} (m : Means M W F) (e : Engine M W F) (k : Content) (fits : FitsKernel m e k) (random : Generator) (empty : rig_of m e k ≡ emptied k.state random k.counts)
    (t : RunningTest M W F) (n : ℕ) (values : List Value) (maker : t.tasks.maker ≡ e.test.tasks.maker)
    (added : rig_of m (record e { test = t }) k ≡ with_new_task (function_at (m.functions e.test.tasks.maker) n) values (rig_of m e k)) where
  abbrev then' : Engine M W F
  then' = record e { test = t }

  abbrev own : Rig
  own = with_new_task (function_at (m.functions e.test.tasks.maker) n) values (emptied k.state random k.counts)

  own_is : rig_of m then' k ≡ own
  own_is = added ∙ ap (with_new_task (function_at (m.functions e.test.tasks.maker) n) values) empty

  pub own_awaits : awaited (rig_of m then' k) ≡ []
  own_awaits = ap awaited own_is

  pub own_deadline : (rig_of m then' k).deadline ≡ None
  own_deadline = ap (λ (c : Rig). c.deadline) own_is

  pub own_fits : Fits e.teller.flat.now m.waiting m.held t.queue k → HasRoom m t → ((v : View) → KnowsNode v 0 → KnowsAll v values) → FitsKernel m then' k
  own_fits queue room known =
      let old : IsTimely latest_time (emptied k.state random k.counts) = subst (IsTimely latest_time) empty fits.timely in
      let none : StandsIn None (emptied k.state random k.counts) = subst (StandsIn None) empty fits.test.stands in
      let first : IsKnown (setup_of m e) own = first_task_known (setup_of m e) e.names k.state random k.counts n values fits.names fits.known.sound known in
      record {
        test = record {
          queue = queue;
          room = room;
          stands = subst (StandsIn None) (sym own_is)
              (new_stands (record { 0 = 0 }) None (function_at (m.functions e.test.tasks.maker) n) values (emptied k.state random k.counts) (omega arith) none);
        };
        names = fits.names;
        known = subst (λ (s : Setup). IsKnown s (rig_of m then' k)) (ap (λ (x : M). (let s : Setup = record { functions = m.functions x; flat = e.teller.flat.now; trace = e.teller.trace } in s)) (sym maker))
            (subst (IsKnown (setup_of m e)) (sym own_is) first);
        timely = subst (IsTimely latest_time) (sym own_is) (record { time = old.time; updates = old.updates; leaves = old.leaves; deadline = old.deadline; planned = old.planned });
      }

  -- the test has no limit
  pub own_begins : (step_fs : ℕ) (limit : Option Limit) → limit ≡ None
      → rig_of m then' k ≡ counted [] (rig_of m e k) (with_limit step_fs limit (with_new_task (function_at (m.functions e.test.tasks.maker) n) values (rig_of m e k)))
  own_begins step_fs limit h =
      let c : Rig = rig_of m e k in
      let w : Rig = with_new_task (function_at (m.functions e.test.tasks.maker) n) values c in
      let z : awaited c ≡ [] = ap awaited empty in
      added ∙ sym (ap (λ (l : Option Limit). counted [] c (with_limit step_fs l w)) h ∙ still_counted c w z z refl)

  -- it has one
  pub own_limited : (step_fs : ℕ) (limit : Option Limit) (l : Limit) (x : Rig) → limit ≡ Some l → x ≡ counted [] (rig_of m then' k) (with_limit step_fs (Some l) (rig_of m then' k))
      → x ≡ counted [] (rig_of m e k) (with_limit step_fs limit (with_new_task (function_at (m.functions e.test.tasks.maker) n) values (rig_of m e k)))
  own_limited step_fs limit l x h is =
      let c : Rig = rig_of m e k in
      let w : Rig = with_new_task (function_at (m.functions e.test.tasks.maker) n) values c in
      is
      ∙ ap (λ (y : Rig). counted [] y (with_limit step_fs (Some l) y)) added
      ∙ ap (λ (o : Option Limit). counted [] c (with_limit step_fs o w)) (sym h)
