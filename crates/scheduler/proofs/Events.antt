-- The time after an event: the time before it, a registered time, or that of an update that waited for it.
use Rattle.std.proofs.Common.{◌≡◌, ℕ, ◌+◌, ◌≤◌, Bool, true, false, List, [], ◌∷◌, ◌++◌, Option, None, Some, get_or, refl, sym, subst, arith, rules}
use Rattle.std.specs.Prelude.{IfSome, ◌&&◌, ◌==◌, not, cond, filter, nat_le, nat_lt, if◌then◌else◌, slice_get}
use Rattle.four_value.specs.declared.Digit.{Digit}
use Rattle.four_value.specs.Vector.{same_digits}
use Rattle.gpi.specs.Design.{Proc}
use Rattle.gpi.specs.Activation.{with_part}
use Rattle.gpi.specs.Keys.{Keys, has, least, times_of, set_of}
use Rattle.gpi.specs.Limits.{latest_update}
use Rattle.gpi.specs.State.{State, is_end, with_delayed, delaying, all_delaying, delayed_times}
use Rattle.gpi.specs.Events.{Event, value_at, hidden_at, stored_at, with_hidden, write_change, show, put_over, put, release_over, report_case, due_case, activate, active_case, later_case, settle_case, end_case, time_case, or_else, event}
use Rattle.gpi.specs.declared.types.Delayed.{Delayed}
use Rattle.gpi.specs.declared.types.Key.{Key}
use Rattle.gpi.specs.declared.types.Key.TheVariants.{ReadWrite, ReadOnly}
use Rattle.gpi.specs.declared.types.Region.TheVariants as region
use Rattle.gpi.specs.declared.types.Report.{Report}
use Rattle.gpi.specs.declared.types.SigId.{SigId}
use Rattle.gpi.specs.declared.types.Update.{Update}
use Rattle.gpi.specs.declared.types.Write.{Write}
use Rattle.gpi.specs.declared.types.Write.TheVariants.{Plain, Force, Freeze, Release}
use Rattle.rig_model.specs.Run.Rig.{Setup, nets, procs}
use Rattle.rig_model.specs.Run.Serve.{written}
use Rattle.scheduler.specs.Timely.{AreTimely, AreEarly, IsEarly}
use Rattle.scheduler.proofs.Keys.{least_within, lesser_within}

-- the time, and the updates that wait for one, are as they were
pub record KeepsTimes (before after : State) : Type 0 where
  pub time : after.time ≡ before.time
  pub delayed : after.delayed ≡ before.delayed

change_time : (ps : List Proc) (s : State) (keys : Keys) (c : Report) → KeepsTimes s (write_change ps s keys c).state
change_time ps s keys c = decided (same_digits c.before c.after) refl
  where
    decided : (b : Bool) → same_digits c.before c.after ≡ b → KeepsTimes s (write_change ps s keys c).state
    decided true e = rw e (record { time = refl; delayed = refl })
    decided false e = rw e (record { time = refl; delayed = refl })

show_time : (ps : List Proc) (s : State) (keys : Keys) (sig : SigId) (bits : List Digit) → KeepsTimes s (show ps s keys sig bits).state
show_time ps s keys sig bits = change_time ps s keys (record { sig = sig; before = value_at s sig; after = bits })

put_over_time : (o : Option (List Digit)) (ps : List Proc) (s : State) (keys : Keys) (sig : SigId) (bits : List Digit) → KeepsTimes s (put_over o ps s keys sig bits).state
put_over_time None ps s keys sig bits = show_time ps s keys sig bits
put_over_time (Some ds) ps s keys sig bits = record { time = refl; delayed = refl }

-- a deposit takes no time, and delays nothing
pub put_time : (ps : List Proc) (s : State) (keys : Keys) (sig : SigId) (bits : List Digit) → KeepsTimes s (put ps s keys sig bits).state
put_time ps s keys sig bits = put_over_time (hidden_at s sig) ps s keys sig bits

-- neither does it where a hidden value has changed before
hidden_time : (ps : List Proc) (s : State) (keys : Keys) (sig : SigId) (o : Option (List Digit)) (bits : List Digit) → KeepsTimes s (show ps (with_hidden s sig o) keys sig bits).state
hidden_time ps s keys sig o bits =
    let t : KeepsTimes (with_hidden s sig o) (show ps (with_hidden s sig o) keys sig bits).state = show_time ps (with_hidden s sig o) keys sig bits in
    record { time = t.time; delayed = t.delayed }

release_time : (o : Option (List Digit)) (net : Bool) (ps : List Proc) (s : State) (keys : Keys) (sig : SigId) → KeepsTimes s (release_over o net ps s keys sig).state
release_time None net ps s keys sig = record { time = refl; delayed = refl }
release_time (Some ds) true ps s keys sig = hidden_time ps s keys sig None ds
release_time (Some ds) false ps s keys sig = record { time = refl; delayed = refl }

-- and so each write
pub written_time : (setup : Setup) (s : State) (keys : Keys) (sig : SigId) (act : Write) → KeepsTimes s (written setup s keys sig act).state
written_time setup s keys sig (Plain bits) = put_time (procs setup) s keys sig bits
written_time setup s keys sig (Force bits) = hidden_time (procs setup) s keys sig (Some (stored_at s sig)) bits
written_time setup s keys sig Freeze = hidden_time (procs setup) s keys sig (Some (stored_at s sig)) (value_at s sig)
written_time setup s keys sig Release = release_time (hidden_at s sig) (get_or (nets setup) sig.0 false) (procs setup) s keys sig

-- ---- updates that wait for a time

no_later : (m n : ℕ) → nat_le m n ≡ true → m ≤ n
no_later m n h = search rules

with_early : (d : Delayed) (ds : List Delayed) → d.time ≤ latest_update → AreEarly ds → AreEarly (with_delayed d ds)
with_early d [] h k = (h, tt)
with_early d (e ∷ es) h k = decided (nat_le e.time d.time) (with_early d es h k.1)
  where
    decided : (b : Bool) → AreEarly (with_delayed d es) → AreEarly (if b then e ∷ with_delayed d es else d ∷ e ∷ es)
    decided true more = (k.0, more)
    decided false more = (h, k)

delaying_early : (now : ℕ) (u : Update) (ds : List Delayed) → AreEarly ds → AreEarly (delaying now u ds)
delaying_early now u ds k = decided (nat_lt 0 u.delay) (nat_le (now + u.delay) latest_update) refl
  where
    decided : (a b : Bool) → nat_le (now + u.delay) latest_update ≡ b → AreEarly (if a && b then with_delayed (record { time = now + u.delay; update = u }) ds else ds)
    decided true true e = with_early (record { time = now + u.delay; update = u }) ds (no_later (now + u.delay) latest_update e) k
    decided true false e = k
    decided false b e = k

all_early : (now : ℕ) (us : List Update) (ds : List Delayed) → AreEarly ds → AreEarly (all_delaying now us ds)
all_early now [] ds k = k
all_early now (u ∷ us) ds k = all_early now us (delaying now u ds) (delaying_early now u ds k)

left_early : (p : Delayed → Bool) (ds : List Delayed) → AreEarly ds → AreEarly (filter p ds)
left_early p [] k = tt
left_early p (d ∷ ds) k = decided (p d) (left_early p ds k.1)
  where
    decided : (b : Bool) → AreEarly (filter p ds) → AreEarly (cond b (d ∷ filter p ds) (filter p ds))
    decided true more = (k.0, more)
    decided false more = more

-- ---- the cases of an event

module _ (bound : ℕ) where
  abbrev pub Comes : Event → Type 0
  Comes e = IsEarly bound e.state

  pub kept_early : (s t : State) → KeepsTimes s t → IsEarly bound s → IsEarly bound t
  kept_early s t k h = record { time = subst (λ (n : ℕ). n ≤ bound) (sym k.time) h.time; updates = subst AreEarly (sym k.delayed) h.updates }

  or_comes : (a b : Option Event) → IfSome a Comes → IfSome b Comes → IfSome (or_else a b) Comes
  or_comes (Some e) b h k = h
  or_comes None b h k = k

  if_comes : (b : Bool) (e : Event) → Comes e → IfSome (if b then Some e else None) Comes
  if_comes true e h = h
  if_comes false e h = tt

  report_comes : (s : State) (keys : Keys) (cs : List Report) → IsEarly bound s → IfSome (report_case s keys cs) Comes
  report_comes s keys [] h = tt
  report_comes s keys (c ∷ cs) h = record { time = h.time; updates = h.updates }

  due_comes : (ps : List Proc) (s : State) (keys : Keys) (us : List Update) → IsEarly bound s → IfSome (due_case ps s keys us) Comes
  due_comes ps s keys [] h = tt
  due_comes ps s keys (u ∷ us) h =
      let t : State = record s { due = us; region = region.Active } in
      kept_early t (put ps t keys u.sig (with_part (stored_at s u.sig) u.low u.bits)).state (put_time ps t keys u.sig (with_part (stored_at s u.sig) u.low u.bits))
      (record { time = h.time; updates = h.updates })

  activate_comes : (ps : List Proc) (s : State) (p : ℕ) (o : Option Proc) → IsEarly bound s → IsEarly bound (activate ps s p o)
  activate_comes ps s p None h = h
  activate_comes ps s p (Some proc) h = record { time = h.time; updates = all_early s.time (proc.run s.signals s.hidden).updates s.delayed h.updates }

  active_comes : (ps : List Proc) (s : State) (active : List ℕ) → IsEarly bound s → IfSome (active_case ps s active) Comes
  active_comes ps s [] h = tt
  active_comes ps s (p ∷ rest) h = activate_comes ps (record s { active = rest }) p (slice_get ps p) (record { time = h.time; updates = h.updates })

  settle_comes : (s : State) (keys : Keys) → IsEarly bound s → IfSome (settle_case s keys) Comes
  settle_comes s keys h =
      if_comes (has ReadWrite keys && not (is_end s.region)) (record { state = record s { region = region.Settle }; told = None; fired = ReadWrite ∷ [] })
      (record { time = h.time; updates = h.updates })

  end_comes : (s : State) (keys : Keys) → IsEarly bound s → IfSome (end_case s keys) Comes
  end_comes s keys h =
      if_comes (has ReadOnly keys && not (is_end s.region)) (record { state = record s { region = region.End }; told = None; fired = ReadOnly ∷ [] })
      (record { time = h.time; updates = h.updates })

  time_comes : (s : State) (keys : Keys) (o : Option ℕ) → AreEarly s.delayed → IfSome o (λ (t : ℕ). t ≤ bound) → IfSome (time_case s keys o) Comes
  time_comes s keys None k h = tt
  time_comes s keys (Some t) k h = record { time = h; updates = left_early (λ d. not (d.time == t)) s.delayed k }

  -- the least of the times of the updates that wait and of some others
  next_within : (ds : List Delayed) (ts : List ℕ) → latest_update ≤ bound → AreEarly ds → IfSome (least ts) (λ (t : ℕ). t ≤ bound)
      → IfSome (least (delayed_times ds ++ ts)) (λ (t : ℕ). t ≤ bound)
  next_within [] ts w h k = k
  next_within (d ∷ ds) ts w h k = let l : d.time ≤ latest_update = h.0 in lesser_within bound d.time (least (delayed_times ds ++ ts)) (omega arith)

  pub event_comes : (ps : List Proc) (s : State) (ks : List Key) → latest_update ≤ bound → IsEarly bound s → AreTimely bound ks → IfSome (event ps s (set_of ks)) Comes
  event_comes ps s ks w h k =
      let keys : Keys = set_of ks in
      let next : Option ℕ = least (delayed_times s.delayed ++ times_of ks) in
      let last : Option Event = time_case s keys next in
      let a : Option Event = or_else (end_case s keys) last in
      let b : Option Event = or_else (settle_case s keys) a in
      let d : Option Event = or_else (later_case ps s keys) b in
      let e : Option Event = or_else (active_case ps s s.active) d in
      let f : Option Event = or_else (due_case ps s keys s.due) e in
      or_comes (report_case s keys s.reports) f (report_comes s keys s.reports h) (
      or_comes (due_case ps s keys s.due) e (due_comes ps s keys s.due h) (
      or_comes (active_case ps s s.active) d (active_comes ps s s.active h) (
      or_comes (later_case ps s keys) b (due_comes ps (record s { later = [] }) keys s.later (record { time = h.time; updates = h.updates })) (
      or_comes (settle_case s keys) a (settle_comes s keys h) (
      or_comes (end_case s keys) last (end_comes s keys h)
      (time_comes s keys next h.updates (next_within s.delayed (times_of ks) w h.updates (least_within bound ks k))))))))
