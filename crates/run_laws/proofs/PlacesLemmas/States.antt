-- An event of the simulator leaves each signal as wide as the design says.
use Rattle.std.proofs.Common.{◌≡◌, ℕ, ◌+◌, ◌<◌, Bool, true, false, List, [], ◌∷◌, ◌++◌, length, map, Option, None, Some, refl, ap, sym, ◌∙◌, arith}
use Rattle.std.specs.Prelude.{IfSome, ◌&&◌, ◌==◌, not, cond, filter, nat_le, nat_lt, if◌then◌else◌, slice_get, slice_index, slice_index_or}
use Rattle.four_value.specs.declared.Digit.{Digit}
use Rattle.four_value.specs.Vector.{same_digits}
use Rattle.gpi.specs.declared.design.Process.{Process}
use Rattle.gpi.specs.declared.types.Delayed.{Delayed}
use Rattle.gpi.specs.declared.types.Key.TheVariants.{ReadWrite, ReadOnly}
use Rattle.gpi.specs.declared.types.Region.TheVariants as region
use Rattle.gpi.specs.declared.types.Report.{Report}
use Rattle.gpi.specs.declared.types.SigId.{SigId}
use Rattle.gpi.specs.declared.types.Update.{Update}
use Rattle.gpi.specs.declared.types.Write.{Write}
use Rattle.gpi.specs.declared.types.Write.TheVariants as write
use Rattle.gpi.specs.Activation.{with_part, AreHidden}
use Rattle.gpi.specs.Design.{Proc, procs_of}
use Rattle.gpi.specs.Events.{Event, value_at, hidden_at, or_shown, stored_at, show, put_over, put, force, release_over, release, with_hidden, report_case, due_case, activate, active_case, later_case, settle_case, end_case, time_case, or_else, event}
use Rattle.gpi.specs.Keys.{Keys, has, least}
use Rattle.gpi.specs.Limits.{latest_update}
use Rattle.gpi.specs.Soundness.{AreProcesses}
use Rattle.gpi.specs.State.{State, is_end, at_once, with_delayed, delaying, all_delaying, delayed_times}
use Rattle.gpi.specs.Targets.{IsFitting, AreFitting}
use Rattle.gpi.specs.Terms.{widths_of}
use Rattle.gpi.proofs.Steps.{hidden_set, hidden_width}
use Rattle.gpi.proofs.Widths.{length_widths}
use Rattle.run_laws.proofs.PlacesLemmas.Activations.{part_width, same_widths, fitting_more, at_once_fitting, inside_width, Fits, process_fits}

module _ (ws : List ℕ) where
  -- ---- updates that wait for a time

  -- they lie in their signals
  abbrev pub AreWaiting : List Delayed → Type 0
  AreWaiting [] = Unit {0}
  AreWaiting (d ∷ ds) = IsFitting d.update ws × AreWaiting ds

  with_waiting : (d : Delayed) (ds : List Delayed) → IsFitting d.update ws → AreWaiting ds → AreWaiting (with_delayed d ds)
  with_waiting d [] h k = (h, tt)
  with_waiting d (e ∷ es) h k = decided (nat_le e.time d.time) (with_waiting d es h k.1)
    where
      decided : (b : Bool) → AreWaiting (with_delayed d es) → AreWaiting (if b then e ∷ with_delayed d es else d ∷ e ∷ es)
      decided true more = (k.0, more)
      decided false more = (h, k)

  delaying_waiting : (now : ℕ) (u : Update) (ds : List Delayed) → IsFitting u ws → AreWaiting ds → AreWaiting (delaying now u ds)
  delaying_waiting now u ds h k = decided (nat_lt 0 u.delay && nat_le (now + u.delay) latest_update)
    where
      decided : (b : Bool) → AreWaiting (if b then with_delayed (record { time = now + u.delay; update = u }) ds else ds)
      decided true = with_waiting (record { time = now + u.delay; update = u }) ds h k
      decided false = k

  all_waiting : (now : ℕ) (us : List Update) (ds : List Delayed) → AreFitting us ws → AreWaiting ds → AreWaiting (all_delaying now us ds)
  all_waiting now [] ds h k = k
  all_waiting now (u ∷ us) ds h k = all_waiting now us (delaying now u ds) h.1 (delaying_waiting now u ds h.0 k)

  left_waiting : (p : Delayed → Bool) (ds : List Delayed) → AreWaiting ds → AreWaiting (filter p ds)
  left_waiting p [] k = tt
  left_waiting p (d ∷ ds) k = decided (p d) (left_waiting p ds k.1)
    where
      decided : (b : Bool) → AreWaiting (filter p ds) → AreWaiting (cond b (d ∷ filter p ds) (filter p ds))
      decided true more = (k.0, more)
      decided false more = more

  updates_fitting : (ds : List Delayed) → AreWaiting ds → AreFitting (map (λ d. d.update) ds) ws
  updates_fitting [] k = tt
  updates_fitting (d ∷ ds) k = (k.0, updates_fitting ds k.1)

  -- ---- a state

  -- the signals and the hidden values have these widths, and all updates lie in their signals
  pub record IsWide (s : State) : Type 0 where
    pub signals : widths_of s.signals ≡ ws
    pub hidden : AreHidden s.hidden ws
    pub due : AreFitting s.due ws
    pub later : AreFitting s.later ws
    pub delayed : AreWaiting s.delayed

  -- digits for a signal, as many as it has
  abbrev pub IsWrite : ℕ → ℕ → Type 0
  IsWrite s count = (s < length ws) × (count ≡ slice_index ws s)

  change_wide : (ps : List Proc) (s : State) (keys : Keys) (sig : SigId) (bits : List Digit) → IsWide s → IsWrite sig.0 (length bits) → (b : Bool)
      → same_digits (value_at s sig) bits ≡ b → IsWide (show ps s keys sig bits).state
  change_wide ps s keys sig bits h k true e = rw e h
  change_wide ps s keys sig bits h k false e = rw e (record {
    signals = same_widths s.signals sig.0 bits inside (k.1 ∙ sym (inside_width ws s.signals sig.0 h.signals k.0)) ∙ h.signals;
    hidden = h.hidden;
    due = h.due;
    later = h.later;
    delayed = h.delayed;
  })
    where
      inside : sig.0 < length s.signals
      inside = let l : length ws ≡ length s.signals = ap length (sym h.signals) ∙ length_widths s.signals in omega (arith, k.0)

  put_over_wide : (o : Option (List Digit)) (ps : List Proc) (s : State) (keys : Keys) (sig : SigId) (bits : List Digit) → IsWide s → IsWrite sig.0 (length bits)
      → IsWide (put_over o ps s keys sig bits).state
  put_over_wide None ps s keys sig bits h k = change_wide ps s keys sig bits h k (same_digits (value_at s sig) bits) refl
  put_over_wide (Some ds) ps s keys sig bits h k =
      record { signals = h.signals; hidden = hidden_set s.hidden ws sig.0 (Some bits) h.hidden k.0 k.1; due = h.due; later = h.later; delayed = h.delayed }

  pub put_wide : (ps : List Proc) (s : State) (keys : Keys) (sig : SigId) (bits : List Digit) → IsWide s → IsWrite sig.0 (length bits) → IsWide (put ps s keys sig bits).state
  put_wide ps s keys sig bits h k = put_over_wide (hidden_at s sig) ps s keys sig bits h k

  -- what is stored of a signal has its width
  stored_width : (s : State) (sig : SigId) → IsWide s → sig.0 < length ws → length (stored_at s sig) ≡ slice_index ws sig.0
  stored_width s sig h l = by_hidden (hidden_at s sig) refl
    where
      by_hidden : (o : Option (List Digit)) → hidden_at s sig ≡ o → length (or_shown o (value_at s sig)) ≡ slice_index ws sig.0
      by_hidden (Some ds) e = hidden_width s.hidden ws sig.0 ds h.hidden l e
      by_hidden None e = inside_width ws s.signals sig.0 h.signals l

  -- what a force hides has the width of its signal
  pub force_wide : (ps : List Proc) (s : State) (keys : Keys) (sig : SigId) (bits : List Digit) → IsWide s → IsWrite sig.0 (length bits) → IsWide (force ps s keys sig bits).state
  force_wide ps s keys sig bits h k =
      let t : State = with_hidden s sig (Some (stored_at s sig)) in
      change_wide ps t keys sig bits (record {
        signals = h.signals;
        hidden = hidden_set s.hidden ws sig.0 (Some (stored_at s sig)) h.hidden k.0 (stored_width s sig h k.0);
        due = h.due;
        later = h.later;
        delayed = h.delayed;
      }) k (same_digits (value_at t sig) bits) refl

  bare_wide : (s : State) (sig : SigId) → IsWide s → sig.0 < length ws → IsWide (with_hidden s sig None)
  bare_wide s sig h l = record { signals = h.signals; hidden = hidden_set s.hidden ws sig.0 None h.hidden l tt; due = h.due; later = h.later; delayed = h.delayed }

  release_over_wide : (o : Option (List Digit)) (net : Bool) (ps : List Proc) (s : State) (keys : Keys) (sig : SigId) → hidden_at s sig ≡ o → IsWide s → sig.0 < length ws
      → IsWide (release_over o net ps s keys sig).state
  release_over_wide None net ps s keys sig e h l = h
  release_over_wide (Some ds) true ps s keys sig e h l =
      let t : State = with_hidden s sig None in
      change_wide ps t keys sig ds (bare_wide s sig h l) (l, hidden_width s.hidden ws sig.0 ds h.hidden l e) (same_digits (value_at t sig) ds) refl
  release_over_wide (Some ds) false ps s keys sig e h l = bare_wide s sig h l

  pub release_wide : (ps : List Proc) (nets : List Bool) (s : State) (keys : Keys) (sig : SigId) → IsWide s → sig.0 < length ws → IsWide (release ps nets s keys sig).state
  release_wide ps nets s keys sig h l = release_over_wide (hidden_at s sig) (slice_index_or nets sig.0 false) ps s keys sig refl h l

  -- the digits that are shown
  pub shown_write : (s : State) (sig : SigId) → IsWide s → sig.0 < length ws → IsWrite sig.0 (length (value_at s sig))
  shown_write s sig h l = (l, inside_width ws s.signals sig.0 h.signals l)

  -- a write of a signal of the design, with as many digits as it has where there are any
  abbrev pub IsAct : SigId → Write → Type 0
  IsAct sig (write.Plain bits) = IsWrite sig.0 (length bits)
  IsAct sig (write.Force bits) = IsWrite sig.0 (length bits)
  IsAct sig write.Freeze = sig.0 < length ws
  IsAct sig write.Release = sig.0 < length ws

  -- ---- the cases of an event

  abbrev pub Leaves : Event → Type 0
  Leaves e = IsWide e.state

  or_leaves : (a b : Option Event) → IfSome a Leaves → IfSome b Leaves → IfSome (or_else a b) Leaves
  or_leaves (Some e) b h k = h
  or_leaves None b h k = k

  if_leaves : (b : Bool) (e : Event) → Leaves e → IfSome (if b then Some e else None) Leaves
  if_leaves true e h = h
  if_leaves false e h = tt

  report_leaves : (s : State) (keys : Keys) (cs : List Report) → IsWide s → IfSome (report_case s keys cs) Leaves
  report_leaves s keys [] h = tt
  report_leaves s keys (c ∷ cs) h = record { signals = h.signals; hidden = h.hidden; due = h.due; later = h.later; delayed = h.delayed }

  due_leaves : (ps : List Proc) (s : State) (keys : Keys) (us : List Update) → AreFitting us ws → IsWide s → IfSome (due_case ps s keys us) Leaves
  due_leaves ps s keys [] k h = tt
  due_leaves ps s keys (u ∷ us) k h =
      let t : State = record s { due = us; region = region.Active } in
      let w : length (stored_at s u.sig) ≡ slice_index ws u.sig.0 = stored_width s u.sig h k.0.0 in
      put_wide ps t keys u.sig (with_part (stored_at s u.sig) u.low u.bits)
      (record { signals = h.signals; hidden = h.hidden; due = k.1; later = h.later; delayed = h.delayed })
      (k.0.0, part_width (stored_at s u.sig) u.low u.bits (omega (arith, k.0.1)) ∙ w)

  activate_wide : (ps : List Proc) (s : State) (p : ℕ) (o : Option Proc) → IfSome o (Fits ws) → IsWide s → IsWide (activate ps s p o)
  activate_wide ps s p None k h = h
  activate_wide ps s p (Some proc) k h =
      let r = k s.signals s.hidden h.signals h.hidden in
      let us : List Update = (proc.run s.signals s.hidden).updates in
      record {
        signals = r.wide;
        hidden = r.hidden;
        due = h.due;
        later = fitting_more ws s.later (at_once us) h.later (at_once_fitting ws us r.fits);
        delayed = all_waiting s.time us s.delayed r.fits h.delayed;
      }

  active_leaves : (ps : List Process) (s : State) (active : List ℕ) → AreProcesses ps ws → IsWide s → IfSome (active_case (procs_of ps) s active) Leaves
  active_leaves ps s [] k h = tt
  active_leaves ps s (p ∷ rest) k h =
      activate_wide (procs_of ps) (record s { active = rest }) p (slice_get (procs_of ps) p) (process_fits ws ps p k)
      (record { signals = h.signals; hidden = h.hidden; due = h.due; later = h.later; delayed = h.delayed })

  settle_leaves : (s : State) (keys : Keys) → IsWide s → IfSome (settle_case s keys) Leaves
  settle_leaves s keys h =
      if_leaves (has ReadWrite keys && not (is_end s.region)) (record { state = record s { region = region.Settle }; told = None; fired = ReadWrite ∷ [] })
      (record { signals = h.signals; hidden = h.hidden; due = h.due; later = h.later; delayed = h.delayed })

  end_leaves : (s : State) (keys : Keys) → IsWide s → IfSome (end_case s keys) Leaves
  end_leaves s keys h =
      if_leaves (has ReadOnly keys && not (is_end s.region)) (record { state = record s { region = region.End }; told = None; fired = ReadOnly ∷ [] })
      (record { signals = h.signals; hidden = h.hidden; due = h.due; later = h.later; delayed = h.delayed })

  time_leaves : (s : State) (keys : Keys) (o : Option ℕ) → IsWide s → IfSome (time_case s keys o) Leaves
  time_leaves s keys None h = tt
  time_leaves s keys (Some t) h = record {
    signals = h.signals;
    hidden = h.hidden;
    due = h.due;
    later = updates_fitting (filter (λ d. d.time == t) s.delayed) (left_waiting (λ d. d.time == t) s.delayed h.delayed);
    delayed = left_waiting (λ d. not (d.time == t)) s.delayed h.delayed;
  }

  pub event_wide : (ps : List Process) (s : State) (keys : Keys) → AreProcesses ps ws → IsWide s → IfSome (event (procs_of ps) s keys) Leaves
  event_wide ps s keys k h =
      let qs : List Proc = procs_of ps in
      let next : Option ℕ = least (delayed_times s.delayed ++ keys.times) in
      let last : Option Event = time_case s keys next in
      let a : Option Event = or_else (end_case s keys) last in
      let b : Option Event = or_else (settle_case s keys) a in
      let d : Option Event = or_else (later_case qs s keys) b in
      let e : Option Event = or_else (active_case qs s s.active) d in
      let f : Option Event = or_else (due_case qs s keys s.due) e in
      or_leaves (report_case s keys s.reports) f (report_leaves s keys s.reports h) (
      or_leaves (due_case qs s keys s.due) e (due_leaves qs s keys s.due h.due h) (
      or_leaves (active_case qs s s.active) d (active_leaves ps s s.active k h) (
      or_leaves (later_case qs s keys) b (due_leaves qs (record s { later = [] }) keys s.later h.later
      (record { signals = h.signals; hidden = h.hidden; due = h.due; later = tt; delayed = h.delayed })) (
      or_leaves (settle_case s keys) a (settle_leaves s keys h) (
      or_leaves (end_case s keys) last (end_leaves s keys h)
      (time_leaves s keys next h))))))
