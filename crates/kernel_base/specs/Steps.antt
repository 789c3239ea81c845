-- A means of proof: the cases of an event one after the other, for the proofs of simulators.
use Rattle.std.specs.Prelude.{◌≡◌, ℕ, ◌<◌, List, [], ◌∷◌, ◌++◌, Bool, true, false, Option, None, Some, if◌then◌else◌}
use Rattle.gpi.specs.declared.types.Moved.{Moved}
use Rattle.gpi.specs.declared.types.Report.{Report}
use Rattle.gpi.specs.Keys.{fired_of, least}
use Rattle.gpi.specs.Activation.{Map, Hidden, Run}
use Rattle.gpi.specs.State.{State, changes, woken, bars_itself, at_once, all_delaying, delayed_times}
use Rattle.gpi.specs.declared.types.Region.TheVariants as region
use Rattle.gpi.specs.Design.{Proc}
use Rattle.gpi.specs.Events.{Event, report_case, due_case, active_case, later_case, settle_case, end_case, time_case, or_else}
use Rattle.gpi.specs.Content.{Content, Does}

-- the reports are of the n signals
abbrev pub AreInside : List Report → ℕ → Type 0
AreInside [] n = Unit {0}
AreInside (r ∷ rs) n = (r.sig.0 < n) × AreInside rs n

-- what is told of an event that is done
pub record TellsIt (before : Content) (e : Event) (told : Moved) (after : Content) : Type 0 where
  pub tells : told ≡ record { change = e.told; fired = fired_of e.fired }
  pub does : Does before e after

-- the answer to an event, or to none
abbrev pub Answered : Content → Option Event → Option Moved → Content → Type 0
Answered before None answer after = (answer ≡ None) × (after ≡ before)
Answered before (Some e) answer after = (answer ≡ Some (record { change = e.told; fired = fired_of e.fired })) × Does before e after

-- what is answered where a process ran, and where none is active
abbrev pub moved_if : Bool → Option Moved
moved_if true = Some (record { change = None; fired = fired_of [] })
moved_if false = None

-- the cases of an event, from one on
abbrev pub from_time : Content → Option Event
from_time c = time_case c.state c.keys (least (delayed_times c.state.delayed ++ c.keys.times))

abbrev pub from_end : Content → Option Event
from_end c = or_else (end_case c.state c.keys) (from_time c)

abbrev pub from_settle : Content → Option Event
from_settle c = or_else (settle_case c.state c.keys) (from_end c)

abbrev pub from_later : Content → Option Event
from_later c = or_else (later_case c.procs c.state c.keys) (from_settle c)

abbrev pub from_active : Content → Option Event
from_active c = or_else (active_case c.procs c.state c.state.active) (from_later c)

abbrev pub from_due : Content → Option Event
from_due c = or_else (due_case c.procs c.state c.keys c.state.due) (from_active c)

abbrev pub from_reports : Content → Option Event
from_reports c = or_else (report_case c.state c.keys c.state.reports) (from_due c)

-- what a process leaves of the values; a number without a process leaves all as it is
abbrev pub ran : Option Proc → Map → Hidden → Run
ran (Some proc) m h = proc.run m h
ran None m h = record { signals = m; hidden = h; updates = [] }

-- the body has run: the values are new, and its updates wait
abbrev pub with_run : State → Run → State
with_run s r = record s {
  signals = r.signals;
  hidden = r.hidden;
  later = s.later ++ at_once r.updates;
  delayed = all_delaying s.time r.updates s.delayed;
}

-- the activation is over: its changes are to be told, and wake what waits for them
abbrev pub ended : List Proc → State → Map → ℕ → Option Proc → State
ended ps s before p None = s
ended ps s before p (Some proc) =
    let cs = changes 0 before s.signals in
    record s { active = s.active ++ woken 0 ps cs (if bars_itself proc.kind then p ∷ s.active else s.active); reports = cs; region = region.Active }
