-- An event comes no sooner than the one before it, and what is left to come comes no sooner than that.
use Rattle.std.proofs.Common.{◌≡◌, ℕ, ◌+◌, ◌≤◌, Bool, true, false, List, [], ◌∷◌, ◌++◌, Option, None, Some, sym, subst, arith}
use Rattle.std.specs.Prelude.{IfSome, ◌&&◌, ◌==◌, not, nat_le, nat_lt, if◌then◌else◌, slice_get}
use Rattle.gpi.specs.Design.{Proc}
use Rattle.gpi.specs.Activation.{with_part}
use Rattle.gpi.specs.Keys.{Keys, has, least, times_of, set_of}
use Rattle.gpi.specs.Limits.{latest_update}
use Rattle.gpi.specs.State.{State, is_end, with_delayed, delaying, all_delaying, delayed_times}
use Rattle.gpi.specs.Events.{Event, stored_at, put, report_case, due_case, activate, active_case, later_case, settle_case, end_case, time_case, or_else, event}
use Rattle.gpi.specs.declared.types.Delayed.{Delayed}
use Rattle.gpi.specs.declared.types.Key.{Key}
use Rattle.gpi.specs.declared.types.Key.TheVariants.{ReadWrite, ReadOnly}
use Rattle.gpi.specs.declared.types.Region.TheVariants as region
use Rattle.gpi.specs.declared.types.Report.{Report}
use Rattle.gpi.specs.declared.types.Update.{Update}
use Rattle.scheduler.proofs.Events.{KeepsTimes, put_time}
use Rattle.run_laws.proofs.WavesLemmas.Times.{AllFrom, AreSince, delayed_kept, from_back, from_front, least_first, least_since, from_both, since_times, times_since}

-- it is this time, and no update that waits for its time comes before it
pub record IsNow (now : ℕ) (sim : State) : Type 0 where
  pub time : sim.time ≡ now
  pub updates : AllFrom now (delayed_times sim.delayed)

-- ---- updates that wait for a time

module _ (now : ℕ) where
  with_from : (d : Delayed) (ds : List Delayed) → now ≤ d.time → AllFrom now (delayed_times ds) → AllFrom now (delayed_times (with_delayed d ds))
  with_from d [] h k = (h, tt)
  with_from d (e ∷ es) h (k, more) = decided (nat_le e.time d.time) (with_from d es h more)
    where
      decided : (b : Bool) → AllFrom now (delayed_times (with_delayed d es)) → AllFrom now (delayed_times (if b then e ∷ with_delayed d es else d ∷ e ∷ es))
      decided true rest = (k, rest)
      decided false rest = (h, (k, more))

  delaying_from : (u : Update) (ds : List Delayed) → AllFrom now (delayed_times ds) → AllFrom now (delayed_times (delaying now u ds))
  delaying_from u ds k = decided (nat_lt 0 u.delay && nat_le (now + u.delay) latest_update)
    where
      decided : (b : Bool) → AllFrom now (delayed_times (if b then with_delayed (record { time = now + u.delay; update = u }) ds else ds))
      decided true = with_from (record { time = now + u.delay; update = u }) ds (omega arith) k
      decided false = k

  all_from : (us : List Update) (ds : List Delayed) → AllFrom now (delayed_times ds) → AllFrom now (delayed_times (all_delaying now us ds))
  all_from [] ds k = k
  all_from (u ∷ us) ds k = all_from us (delaying now u ds) (delaying_from u ds k)

pub kept_now : (now : ℕ) (s t : State) → KeepsTimes s t → IsNow now s → IsNow now t
kept_now now s t k h = record {
  time = subst (λ (n : ℕ). n ≡ now) (sym k.time) h.time;
  updates = subst (λ (ds : List Delayed). AllFrom now (delayed_times ds)) (sym k.delayed) h.updates;
}

-- ---- the cases of an event

-- an event of a state at this time, where these keys are awaited: what it leaves is no sooner, and neither these keys nor updates come before that
pub record Comes (now : ℕ) (ks : List Key) (e : Event) : Type 0 where
  pub later : now ≤ e.state.time
  pub updates : AllFrom e.state.time (delayed_times e.state.delayed)
  pub keys : AreSince e.state.time ks

module _ (now : ℕ) (ks : List Key) (since : AreSince now ks) where
  stays : (e : Event) → IsNow now e.state → Comes now ks e
  stays e h = record {
    later = subst (λ (n : ℕ). now ≤ n) (sym h.time) (omega arith);
    updates = subst (λ (n : ℕ). AllFrom n (delayed_times e.state.delayed)) (sym h.time) h.updates;
    keys = subst (λ (n : ℕ). AreSince n ks) (sym h.time) since;
  }

  or_comes : (a b : Option Event) → IfSome a (Comes now ks) → IfSome b (Comes now ks) → IfSome (or_else a b) (Comes now ks)
  or_comes (Some e) b h k = h
  or_comes None b h k = k

  if_comes : (b : Bool) (e : Event) → Comes now ks e → IfSome (if b then Some e else None) (Comes now ks)
  if_comes true e h = h
  if_comes false e h = tt

  report_comes : (s : State) (keys : Keys) (cs : List Report) → IsNow now s → IfSome (report_case s keys cs) (Comes now ks)
  report_comes s keys [] h = tt
  report_comes s keys (c ∷ cs) h = stays _ (record { time = h.time; updates = h.updates })

  due_comes : (ps : List Proc) (s : State) (keys : Keys) (us : List Update) → IsNow now s → IfSome (due_case ps s keys us) (Comes now ks)
  due_comes ps s keys [] h = tt
  due_comes ps s keys (u ∷ us) h =
      let t : State = record s { due = us; region = region.Active } in
      let e : Event = put ps t keys u.sig (with_part (stored_at s u.sig) u.low u.bits) in
      stays e (kept_now now t e.state (put_time ps t keys u.sig (with_part (stored_at s u.sig) u.low u.bits)) (record { time = h.time; updates = h.updates }))

  activate_now : (ps : List Proc) (s : State) (p : ℕ) (o : Option Proc) → IsNow now s → IsNow now (activate ps s p o)
  activate_now ps s p None h = h
  activate_now ps s p (Some proc) h = record {
    time = h.time;
    updates = subst (λ (n : ℕ). AllFrom now (delayed_times (all_delaying n (proc.run s.signals s.hidden).updates s.delayed))) (sym h.time)
        (all_from now (proc.run s.signals s.hidden).updates s.delayed h.updates);
  }

  active_comes : (ps : List Proc) (s : State) (active : List ℕ) → IsNow now s → IfSome (active_case ps s active) (Comes now ks)
  active_comes ps s [] h = tt
  active_comes ps s (p ∷ rest) h =
      stays _ (activate_now ps (record s { active = rest }) p (slice_get ps p) (record { time = h.time; updates = h.updates }))

  settle_comes : (s : State) (keys : Keys) → IsNow now s → IfSome (settle_case s keys) (Comes now ks)
  settle_comes s keys h =
      if_comes (has ReadWrite keys && not (is_end s.region)) (record { state = record s { region = region.Settle }; told = None; fired = ReadWrite ∷ [] })
      (stays _ (record { time = h.time; updates = h.updates }))

  end_comes : (s : State) (keys : Keys) → IsNow now s → IfSome (end_case s keys) (Comes now ks)
  end_comes s keys h =
      if_comes (has ReadOnly keys && not (is_end s.region)) (record { state = record s { region = region.End }; told = None; fired = ReadOnly ∷ [] })
      (stays _ (record { time = h.time; updates = h.updates }))

  -- the time moves on to the first of all that is to come
  time_comes : (s : State) (keys : Keys) (o : Option ℕ) → IfSome o (λ (t : ℕ). now ≤ t)
      → IfSome o (λ (t : ℕ). AllFrom t (delayed_times s.delayed ++ times_of ks)) → IfSome (time_case s keys o) (Comes now ks)
  time_comes s keys None h k = tt
  time_comes s keys (Some t) h k = record {
    later = h;
    updates = delayed_kept t (λ d. not (d.time == t)) s.delayed (from_front t (delayed_times s.delayed) (times_of ks) k);
    keys = since_times t ks (from_back t (delayed_times s.delayed) (times_of ks) k);
  }

  pub event_comes : (ps : List Proc) (s : State) → IsNow now s → IfSome (event ps s (set_of ks)) (Comes now ks)
  event_comes ps s h =
      let keys : Keys = set_of ks in
      let times : List ℕ = delayed_times s.delayed ++ times_of ks in
      let last : Option Event = time_case s keys (least times) in
      let a : Option Event = or_else (end_case s keys) last in
      let b : Option Event = or_else (settle_case s keys) a in
      let d : Option Event = or_else (later_case ps s keys) b in
      let e : Option Event = or_else (active_case ps s s.active) d in
      let f : Option Event = or_else (due_case ps s keys s.due) e in
      or_comes (report_case s keys s.reports) f (report_comes s keys s.reports h) (
      or_comes (due_case ps s keys s.due) e (due_comes ps s keys s.due h) (
      or_comes (active_case ps s s.active) d (active_comes ps s s.active h) (
      or_comes (later_case ps s keys) b (due_comes ps (record s { later = [] }) keys s.later (record { time = h.time; updates = h.updates })) (
      or_comes (settle_case s keys) a (settle_comes s keys h) (
      or_comes (end_case s keys) last (end_comes s keys h)
      (time_comes s keys (least times) (least_since now times (from_both now (delayed_times s.delayed) (times_of ks) h.updates (times_since now ks since)))
      (least_first times)))))))
