-- When nothing is left to do.
use Rattle.std.proofs.Common.{◌≡◌, ℕ, ◌&&◌, Bool, true, false, not, if◌then◌else◌, List, [], ◌∷◌, ◌++◌, refl, Option, Some, None, is_none}
use Rattle.gpi.specs.declared.types.Key.TheVariants.{ReadWrite, ReadOnly}
use Rattle.gpi.specs.declared.types.Report.{Report}
use Rattle.gpi.specs.declared.types.Update.{Update}
use Rattle.gpi.specs.Design.{Proc}
use Rattle.gpi.specs.Keys.{Keys, has, least}
use Rattle.gpi.specs.State.{State, delayed_times, is_end}
use Rattle.gpi.specs.Events.{Event, idle, or_else, report_case, due_case, active_case, time_case}
use Rattle.kernel_base.specs.Lists.{is_empty}

none_or : (a b : Option Event) → is_none (or_else a b) ≡ (is_none a && is_none b)
none_or (Some e) b = refl
none_or None b = refl

none_report : (s : State) (keys : Keys) (rs : List Report) → is_none (report_case s keys rs) ≡ is_empty rs
none_report s keys [] = refl
none_report s keys (r ∷ rs) = refl

none_due : (ps : List Proc) (s : State) (keys : Keys) (us : List Update) → is_none (due_case ps s keys us) ≡ is_empty us
none_due ps s keys [] = refl
none_due ps s keys (u ∷ us) = refl

none_active : (ps : List Proc) (s : State) (bs : List ℕ) → is_none (active_case ps s bs) ≡ is_empty bs
none_active ps s [] = refl
none_active ps s (a ∷ bs) = refl

none_if : (t : Bool) (e : Event) → is_none (if t then Some e else None) ≡ not t
none_if true e = refl
none_if false e = refl

none_time : (s : State) (keys : Keys) (o : Option ℕ) → is_none (time_case s keys o) ≡ is_none o
none_time s keys None = refl
none_time s keys (Some t) = refl

pub idle_is : (ps : List Proc) (s : State) (keys : Keys) → idle ps s keys
    ≡ (is_empty s.reports && (is_empty s.due && (is_empty s.active && (is_empty s.later
    && (not (has ReadWrite keys && not (is_end s.region)) && (not (has ReadOnly keys && not (is_end s.region)) && is_none (least (delayed_times s.delayed ++ keys.times))))))))
idle_is ps s keys = simp (none_or, none_report, none_due, none_active, none_if, none_time)
