-- The updates that wait.
use Rattle.std.proofs.Common.{◌≡◌, ℕ, ◌≤◌, List, [], ◌∷◌, ◌++◌, length, refl, ap, ◌∙◌, arith, vec_capacity}
use Rattle.gpi.specs.declared.types.Update.{Update}
use Rattle.gpi.specs.declared.types.Delayed.{Delayed}
use Rattle.gpi.specs.Keys.{least, lesser}
use Rattle.gpi.specs.Targets.{AreFitting}
use Rattle.gpi.specs.State.{at_once, all_delaying, arriving, waiting_on, delayed_times}
use Rattle.gpi.specs.declared.acts.Act.{Act}
use Rattle.gpi.specs.Activation.{Map, Hidden, Run, activation}
use Rattle.kernel_base.proofs.Delays.{fitting_both, fitting_at_once, fitting_all_delaying, fitting_arriving, fitting_waiting}
use Rattle.list_kernel.specs.declared.updates.Updates.{Updates}
use Rattle.list_kernel.specs.declared.values.Values.{Values}
use Rattle.list_kernel.specs.Updates.{soonest, AreUpdates, HasRoom, HasRun}

-- ---- the next time

pub soonest_is : (ds : List Delayed) (ts : List ℕ) → soonest ds (least ts) ≡ least (delayed_times ds ++ ts)
soonest_is [] ts = refl
soonest_is (d ∷ ds) ts = ap (lesser d.time) (soonest_is ds ts)

-- ---- the updates as a whole

-- what an activation appends is where it waits
pub updates_after : (now : ℕ) (us : List Update) (u v : Updates) (ws : List ℕ) → AreUpdates u ws → AreFitting us ws → v.due.items ≡ u.due.items
    → v.later.items ≡ u.later.items ++ at_once us → v.delayed.items ≡ all_delaying now us u.delayed.items → v.appended.items ≡ [] → HasRoom 0 v → AreUpdates v ws
updates_after now us u v ws a f d l e n r = record {
  due = rw d a.due;
  later = rw l (fitting_both u.later.items (at_once us) ws a.later (fitting_at_once us ws f));
  delayed = rw e (fitting_all_delaying now us u.delayed.items ws f a.delayed);
  appended = n;
  due_room = let h = r.due in omega arith;
  later_room = let h = r.later in omega arith;
}

-- the updates are those of before, and have no less room
pub updates_back : (u v : Updates) (ws : List ℕ) → AreUpdates u ws → v.due.items ≡ u.due.items → v.later.items ≡ u.later.items → v.delayed.items ≡ u.delayed.items
    → v.appended.items ≡ [] → vec_capacity u.due ≤ vec_capacity v.due → vec_capacity u.later ≤ vec_capacity v.later → AreUpdates v ws
updates_back u v ws a d l e n p q =
    let k : length v.delayed.items ≡ length u.delayed.items = ap length e in record {
      due = rw d a.due;
      later = rw l a.later;
      delayed = rw e a.delayed;
      appended = n;
      due_room = let h = a.due_room in omega arith;
      later_room = let h = a.later_room in omega arith;
    }

-- those of a time have become the later ones
pub updates_arrived : (t : ℕ) (u v : Updates) (ws : List ℕ) → AreUpdates u ws → v.due ≡ u.due → v.appended ≡ u.appended → v.later.items ≡ arriving t u.delayed.items
    → v.delayed.items ≡ waiting_on t u.delayed.items → vec_capacity v.later ≡ vec_capacity u.later → length v.delayed.items ≤ length u.delayed.items → AreUpdates v ws
updates_arrived t u v ws a d n l e c f = record {
  due = rw d a.due;
  later = rw l (fitting_arriving t u.delayed.items ws a.delayed);
  delayed = rw e (fitting_waiting t u.delayed.items ws a.delayed);
  appended = rw n a.appended;
  due_room = rw d (let h = a.due_room in omega arith);
  later_room = rw c (let h = a.later_room in omega arith);
}

-- what an activation leaves, by what was run
pub has_run : (act : Act) (now : ℕ) (m p x : Map) (h g y : Hidden) (us : List Update) (u v : Updates) (w : Values) → m ≡ x → h ≡ y
    → (let r : Run = record { signals = p; hidden = g; updates = us } in r) ≡ activation act (record { signals = m; hidden = h; updates = [] })
    → w.shown.items ≡ p → w.hidden.items ≡ g → v.later.items ≡ u.later.items ++ at_once us → v.delayed.items ≡ all_delaying now us u.delayed.items
    → HasRun now (activation act (record { signals = x; hidden = y; updates = [] })) u v w
has_run act now m p x h g y us u v w a b e s i l d =
    let f : (let r : Run = record { signals = p; hidden = g; updates = us } in r) ≡ activation act (record { signals = x; hidden = y; updates = [] }) = rw (a, b) at e in
    record {
      shown = s ∙ ap (λ (r : Run). r.signals) f;
      hidden = i ∙ ap (λ (r : Run). r.hidden) f;
      later = l ∙ ap (λ (r : Run). u.later.items ++ at_once r.updates) f;
      delayed = d ∙ ap (λ (r : Run). all_delaying now r.updates u.delayed.items) f;
    }
