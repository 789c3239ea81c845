-- What a simulator holds, and what its calls leave (IEEE 1364-2005, clause 11).
use Rattle.std.specs.Prelude.{length, ◌<◌, [], ◌≡◌, ℕ, ◌≤◌, List, ◌∷◌, Option, None, Some, Bool, false}
use Rattle.gpi.specs.declared.types.Region.TheVariants as region
use Rattle.gpi.specs.declared.types.Key.{Key}
use Rattle.gpi.specs.declared.types.Key.TheVariants as key
use Rattle.gpi.specs.declared.types.Counts.{Counts}
use Rattle.gpi.specs.declared.types.Advance.{Advance}
use Rattle.gpi.specs.declared.types.Advance.TheVariants as advance
use Rattle.gpi.specs.declared.design.Flat.{Flat}
use Rattle.gpi.specs.Limits.{latest_time}
use Rattle.gpi.specs.Design.{Proc, procs_of, nets_of, start_map, start_hidden, starters}
use Rattle.gpi.specs.Keys.{Keys, no_keys, IsWith, IsWithout, fired_of, raised, raised_by}
use Rattle.gpi.specs.State.{State, is_end}
use Rattle.gpi.specs.Events.{Event}
use Rattle.gpi.specs.declared.types.Told.{Told}

pub record Content : Type 0 where
  pub procs : List Proc
  -- which signals are nets, by number
  pub nets : List Bool
  pub state : State
  pub keys : Keys
  pub counts : Counts

abbrev pub no_counts : Counts
no_counts = record { primed = 0; removed = 0; fired = 0 }

-- the opening state of a design
abbrev pub opening : Flat → Content
opening flat = let ps = procs_of flat.processes in record {
  procs = ps;
  nets = nets_of flat.signals;
  state = record {
    signals = start_map flat.signals;
    hidden = start_hidden flat.signals;
    active = starters 0 ps;
    reports = [];
    due = [];
    later = [];
    delayed = [];
    time = 0;
    region = region.Begin;
  };
  keys = no_keys;
  counts = no_counts;
}

-- nothing is held
abbrev pub no_design : Content
no_design = record {
  procs = [];
  nets = [];
  state = record { signals = []; hidden = []; active = []; reports = []; due = []; later = []; delayed = []; time = 0; region = region.Begin };
  keys = no_keys;
  counts = no_counts;
}

-- an event is done: its state, and its fired keys are registered no more and counted
pub record Does (before : Content) (e : Event) (after : Content) : Type 0 where
  pub procs : after.procs ≡ before.procs
  pub nets : after.nets ≡ before.nets
  pub state : after.state ≡ e.state
  pub keys : IsWithout e.fired before.keys after.keys
  pub counts : after.counts ≡ record before.counts { fired = raised_by e.fired before.counts.fired }

-- the answer to an event; to none, Idle, and nothing has changed
abbrev pub Answers : Content → Option Event → Advance → Content → Type 0
Answers before None answer after = (answer ≡ advance.Idle) × (after ≡ before)
Answers before (Some e) answer after = (answer ≡ advance.Moved (record { change = e.told; fired = fired_of e.fired })) × Does before e after

-- a key may be registered, where n is the number of signals
abbrev pub IsAsked : ℕ → State → Key → Type 0
IsAsked n s (key.At t) = (s.time < t) × (t ≤ latest_time)
IsAsked n s (key.Rise sig) = sig.0 < n
IsAsked n s (key.Fall sig) = sig.0 < n
IsAsked n s (key.Change sig) = sig.0 < n
IsAsked n s key.ReadWrite = is_end s.region ≡ false
IsAsked n s key.ReadOnly = is_end s.region ≡ false
IsAsked n s key.NextStep = Unit {0}

pub record Registers (before : Content) (k : Key) (after : Content) : Type 0 where
  pub procs : after.procs ≡ before.procs
  pub nets : after.nets ≡ before.nets
  pub state : after.state ≡ before.state
  pub keys : IsWith k before.keys after.keys
  pub counts : after.counts ≡ record before.counts { primed = raised before.counts.primed }

pub record Removes (before : Content) (k : Key) (after : Content) : Type 0 where
  pub procs : after.procs ≡ before.procs
  pub nets : after.nets ≡ before.nets
  pub state : after.state ≡ before.state
  pub keys : IsWithout (k ∷ []) before.keys after.keys
  pub counts : after.counts ≡ record before.counts { removed = raised before.counts.removed }

-- the third case: a process is to run
pub record IsRunning (s : State) : Type 0 where
  pub reports : s.reports ≡ []
  pub due : s.due ≡ []
  pub active : 0 < length s.active

-- the change, if there is one, is of one of the n signals
abbrev pub IsChangeOf : ℕ → Option Told → Type 0
IsChangeOf n None = Unit {0}
IsChangeOf n (Some t) = t.sig.0 < n

-- what is told is of one of the n signals
abbrev pub IsToldOf : ℕ → Advance → Type 0
IsToldOf n (advance.Moved m) = IsChangeOf n m.change
IsToldOf n advance.Idle = Unit {0}
