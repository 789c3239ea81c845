-- Where a time is registered, the simulator has an event.
use Rattle.std.proofs.Common.{◌≡◌, ℕ, Bool, true, false, List, [], ◌∷◌, ◌++◌, Option, None, Some, refl, ap, sym, subst}
use Rattle.std.specs.Prelude.{is_some}
use Rattle.gpi.specs.Design.{Proc}
use Rattle.gpi.specs.State.{State, delayed_times}
use Rattle.gpi.specs.Keys.{Keys, least, lesser}
use Rattle.gpi.specs.Events.{Event, event, or_else, report_case, due_case, active_case, later_case, settle_case, end_case, time_case}

abbrev pub is_event : Option Event → Bool
is_event None = false
is_event (Some e) = true

or_else_is : (o e : Option Event) → is_event e ≡ true → is_event (or_else o e) ≡ true
or_else_is None e h = h
or_else_is (Some x) e h = refl

lesser_is : (t : ℕ) (o : Option ℕ) → is_some (lesser t o) ≡ true
lesser_is t None = refl
lesser_is t (Some u) = refl

-- times with one more behind them have a least one
least_is : (ts : List ℕ) (time : ℕ) → is_some (least (ts ++ time ∷ [])) ≡ true
least_is [] time = refl
least_is (t ∷ ts) time = lesser_is t (least (ts ++ time ∷ []))

time_is : (sim : State) (keys : Keys) (o : Option ℕ) → is_some o ≡ true → is_event (time_case sim keys o) ≡ true
time_is sim keys None h = cc
time_is sim keys (Some t) h = refl

pub event_is : (ps : List Proc) (sim : State) (keys : Keys) (time : ℕ) → keys.times ≡ time ∷ [] → is_event (event ps sim keys) ≡ true
event_is ps sim keys time h =
    let next : Option ℕ = least (delayed_times sim.delayed ++ keys.times) in
    let there : is_some next ≡ true
    = subst (λ (ts : List ℕ). is_some (least (delayed_times sim.delayed ++ ts)) ≡ true) (sym h) (least_is (delayed_times sim.delayed) time) in
    let last : Option Event = time_case sim keys next in
    let a : Option Event = or_else (end_case sim keys) last in
    let b : Option Event = or_else (settle_case sim keys) a in
    let d : Option Event = or_else (later_case ps sim keys) b in
    let e : Option Event = or_else (active_case ps sim sim.active) d in
    let f : Option Event = or_else (due_case ps sim keys sim.due) e in
    or_else_is (report_case sim keys sim.reports) f (
    or_else_is (due_case ps sim keys sim.due) e (
    or_else_is (active_case ps sim sim.active) d (
    or_else_is (later_case ps sim keys) b (
    or_else_is (settle_case sim keys) a (
    or_else_is (end_case sim keys) last (time_is sim keys next there))))))
