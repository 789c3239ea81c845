-- One event of the simulator, a deposit, a force and a release (IEEE 1364-2005, clauses 9.3.2 and 11).
use Rattle.std.specs.Prelude.{ℕ, ◌==◌, ◌&&◌, Bool, true, false, not, List, [], ◌∷◌, ◌++◌, length, Option, None, Some, slice_index_or, slice_set, slice_get, is_some, is_none, if◌then◌else◌}
use Rattle.four_value.specs.declared.Digit.{Digit}
use Rattle.four_value.specs.declared.Digit.TheVariants.{Zero, One}
use Rattle.four_value.specs.Vector.{digit_at, same_digits}
use Rattle.gpi.specs.declared.types.Region.TheVariants as region
use Rattle.gpi.specs.declared.types.Key.{Key}
use Rattle.gpi.specs.declared.types.Key.TheVariants as key
use Rattle.gpi.specs.declared.types.Told.{Told}
use Rattle.gpi.specs.declared.types.Report.{Report}
use Rattle.gpi.specs.declared.types.SigId.{SigId}
use Rattle.gpi.specs.declared.types.Update.{Update}
use Rattle.gpi.specs.Design.{Proc}
use Rattle.gpi.specs.Keys.{Keys, has, least}
use Rattle.gpi.specs.Activation.{hidden_in, with_part}
use Rattle.gpi.specs.State.{State, changes, woken, bars_itself, at_once, all_delaying, arriving, waiting_on, delayed_times, is_end}

-- what an event leaves, the change that it tells, and the keys that it fires, in order
pub record Event : Type 0 where
  pub state : State
  pub told : Option Told
  pub fired : List Key

abbrev pub tells : Report → Option Told
tells c = Some (record { sig = c.sig; bits = c.after })

-- the key, if it is registered
abbrev pub if_has : Key → Keys → List Key
if_has k keys = if has k keys then k ∷ [] else []

-- on a signal of one bit
abbrev pub level_keys : SigId → Digit → Keys → List Key
level_keys sig One keys = if_has (key.Rise sig) keys
level_keys sig Zero keys = if_has (key.Fall sig) keys
level_keys sig _ keys = []

-- the edge keys of a change that fire
abbrev pub edge_keys : Report → Keys → List Key
edge_keys c keys =
    (if length c.after == 1 then level_keys c.sig (digit_at c.after 0) keys else []) ++ if_has (key.Change c.sig) keys

-- nothing is told, and no key fires
abbrev pub unseen : State → Event
unseen s = record { state = s; told = None; fired = [] }

-- a value shown: if the signal changed, processes are woken, the change is told, its keys fire
abbrev pub write_change : List Proc → State → Keys → Report → Event
write_change ps s keys c =
    if same_digits c.before c.after
    then unseen s
    else record {
      state = record s { signals = slice_set s.signals c.sig.0 c.after; active = s.active ++ woken 0 ps (c ∷ []) s.active };
      told = tells c;
      fired = edge_keys c keys;
    }

-- the value that a signal shows
abbrev pub value_at : State → SigId → List Digit
value_at s sig = slice_index_or s.signals sig.0 []

-- a signal shows these digits from now on
abbrev pub show : List Proc → State → Keys → SigId → List Digit → Event
show ps s keys sig bits = write_change ps s keys (record { sig = sig; before = value_at s sig; after = bits })

-- ---- forced signals (clause 9.3.2)

-- the hidden value of a forced signal
abbrev pub hidden_at : State → SigId → Option (List Digit)
hidden_at s sig = hidden_in s.hidden sig.0

abbrev pub is_forced : State → SigId → Bool
is_forced s sig = is_some (hidden_at s sig)

abbrev pub with_hidden : State → SigId → Option (List Digit) → State
with_hidden s sig value = record s { hidden = slice_set s.hidden sig.0 value }

-- where writes go: the hidden value of a forced signal, the shown one of another
abbrev pub or_shown : Option (List Digit) → List Digit → List Digit
or_shown (Some ds) shown = ds
or_shown None shown = shown

abbrev pub stored_at : State → SigId → List Digit
stored_at s sig = or_shown (hidden_at s sig) (value_at s sig)

-- a deposit: of a forced signal the hidden value alone is written
abbrev pub put_over : Option (List Digit) → List Proc → State → Keys → SigId → List Digit → Event
put_over (Some ds) ps s keys sig bits = unseen (with_hidden s sig (Some bits))
put_over None ps s keys sig bits = show ps s keys sig bits

abbrev pub put : List Proc → State → Keys → SigId → List Digit → Event
put ps s keys sig bits = put_over (hidden_at s sig) ps s keys sig bits

-- a force: a signal that isn't forced yet has its shown value hidden
abbrev pub force : List Proc → State → Keys → SigId → List Digit → Event
force ps s keys sig bits = show ps (with_hidden s sig (Some (stored_at s sig))) keys sig bits

-- a release: a net shows its hidden value, a register goes on with what it shows
abbrev pub release_over : Option (List Digit) → Bool → List Proc → State → Keys → SigId → Event
release_over None net ps s keys sig = unseen s
release_over (Some ds) true ps s keys sig = show ps (with_hidden s sig None) keys sig ds
release_over (Some ds) false ps s keys sig = unseen (with_hidden s sig None)

-- the list tells which signals are nets
abbrev pub release : List Proc → List Bool → State → Keys → SigId → Event
release ps nets s keys sig = release_over (hidden_at s sig) (slice_index_or nets sig.0 false) ps s keys sig

-- ---- the cases of an event

-- 1: a report is pending
abbrev pub report_case : State → Keys → List Report → Option Event
report_case s keys [] = None
report_case s keys (c ∷ cs) = Some (record {
  state = record s { reports = cs; region = region.Active };
  told = tells c;
  fired = edge_keys c keys;
})

-- 2: an update is due
abbrev pub due_case : List Proc → State → Keys → List Update → Option Event
due_case ps s keys [] = None
due_case ps s keys (u ∷ us) =
    Some (put ps (record s { due = us; region = region.Active }) keys u.sig (with_part (stored_at s u.sig) u.low u.bits))

-- an activation of the process p, which is no longer in the active list
abbrev pub activate : List Proc → State → ℕ → Option Proc → State
activate ps s p None = s
activate ps s p (Some proc) =
    let ran = proc.run s.signals s.hidden in
    let cs = changes 0 s.signals ran.signals in
    record s {
      signals = ran.signals;
      hidden = ran.hidden;
      active = s.active ++ woken 0 ps cs (if bars_itself proc.kind then p ∷ s.active else s.active);
      reports = cs;
      later = s.later ++ at_once ran.updates;
      delayed = all_delaying s.time ran.updates s.delayed;
      region = region.Active;
    }

-- 3: a process is active (clause 11.3)
abbrev pub active_case : List Proc → State → List ℕ → Option Event
active_case ps s [] = None
active_case ps s (p ∷ rest) =
    Some (record { state = activate ps (record s { active = rest }) p (slice_get ps p); told = None; fired = [] })

-- 4: a later update exists (clause 11.3)
abbrev pub later_case : List Proc → State → Keys → Option Event
later_case ps s keys = due_case ps (record s { later = [] }) keys s.later

-- 5: ReadWrite is registered
abbrev pub settle_case : State → Keys → Option Event
settle_case s keys =
    if has key.ReadWrite keys && not (is_end s.region)
    then Some (record { state = record s { region = region.Settle }; told = None; fired = key.ReadWrite ∷ [] }) else None

-- 6: ReadOnly is registered
abbrev pub end_case : State → Keys → Option Event
end_case s keys =
    if has key.ReadOnly keys && not (is_end s.region)
    then Some (record { state = record s { region = region.End }; told = None; fired = key.ReadOnly ∷ [] }) else None

-- 7: an At key is registered, or an update waits for its time: to the least of these times, where the updates that waited for it become
-- the later ones
abbrev pub time_case : State → Keys → Option ℕ → Option Event
time_case s keys None = None
time_case s keys (Some t) = Some (record {
  state = record s { later = arriving t s.delayed; delayed = waiting_on t s.delayed; time = t; region = region.Begin };
  told = None;
  fired = if_has key.NextStep keys ++ if_has (key.At t) keys;
})

abbrev pub or_else : Option Event → Option Event → Option Event
or_else (Some e) other = Some e
or_else None other = other

-- the first case that applies; None is the eighth, in which nothing changes
abbrev pub event : List Proc → State → Keys → Option Event
event ps s keys =
    or_else (report_case s keys s.reports)
    (or_else (due_case ps s keys s.due)
    (or_else (active_case ps s s.active)
    (or_else (later_case ps s keys)
    (or_else (settle_case s keys)
    (or_else (end_case s keys)
    (time_case s keys (least (delayed_times s.delayed ++ keys.times))))))))

abbrev pub idle : List Proc → State → Keys → Bool
idle ps s keys = is_none (event ps s keys)
