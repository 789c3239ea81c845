-- A means of proof: how the answer to a row is shown, for the test program of simulators.
use Rattle.std.specs.Prelude.{ℕ, Bool, List, [], ◌++◌, Option, None, Some, codes, ◌≡◌, ◌⊎◌, if◌then◌else◌}
use Rattle.std.specs.Fmt.{decimal}
use Rattle.four_value.specs.declared.Digit.{Digit}
use Rattle.four_value.specs.Vector.{digit_letters}
use Rattle.gpi.specs.Content.{Content, no_design}
use Rattle.gpi.specs.State.{State}
use Rattle.gpi.specs.declared.types.Counts.{Counts}
use Rattle.gpi.specs.declared.types.Advance.TheVariants as advance
use Rattle.gpi.specs.declared.types.Fired.{Fired}
use Rattle.gpi.specs.declared.types.Key.{Key}
use Rattle.gpi.specs.declared.types.Key.TheVariants.{At, Rise, Fall, Change, ReadWrite, ReadOnly, NextStep}
use Rattle.gpi.specs.declared.types.Moved.{Moved}
use Rattle.gpi.specs.declared.types.Region.{Region}
use Rattle.gpi.specs.declared.types.Region.TheVariants as region
use Rattle.gpi.specs.declared.types.Told.{Told}
use Rattle.edge_tests.specs.Kernel.Calls.{IsAnswered, call_of}
use Rattle.edge_tests.specs.Kernel.Designs.{IsOpening, design_named}
use Rattle.edge_tests.specs.declared.kernel.calls.Answer.{Answer}
use Rattle.edge_tests.specs.declared.kernel.calls.Answer.TheVariants as answer
use Rattle.edge_tests.specs.declared.kernel.calls.Call.{Call}
use Rattle.edge_tests.specs.declared.kernel.calls.Reading.{Reading}
use Rattle.edge_tests.specs.declared.kernel.designs.Design.{Design}
use Rattle.table_rows.specs.Rows.{part_at}

abbrev pub key_text : Key → List ℕ
key_text (At time) = codes " at " ++ decimal time
key_text (Rise sig) = codes " rise " ++ decimal sig.0
key_text (Fall sig) = codes " fall " ++ decimal sig.0
key_text (Change sig) = codes " change " ++ decimal sig.0
key_text ReadWrite = codes " read_write"
key_text ReadOnly = codes " read_only"
key_text NextStep = codes " next_step"

abbrev pub if_key : Option Key → List ℕ
if_key None = []
if_key (Some key) = key_text key

-- the keys that fired, in order
abbrev pub fired_text : Fired → List ℕ
fired_text fired = if_key fired.first ++ if_key fired.second

-- the signal that changed, and its value
abbrev pub change_text : Option Told → List ℕ
change_text None = []
change_text (Some told) = codes " " ++ decimal told.sig.0 ++ codes "=" ++ digit_letters told.bits

-- an event: the change that it tells, and the keys that it fired
abbrev pub event_text : Moved → List ℕ
event_text moved = codes "event" ++ change_text moved.change ++ fired_text moved.fired

-- what a signal shows, and whether it is forced
abbrev pub value_text : Reading → List ℕ
value_text reading = (if reading.forced then codes "forced " else codes "free ") ++ digit_letters reading.bits

abbrev pub answer_text : Answer → List ℕ
answer_text answer.Refused = codes "refused"
answer_text answer.Done = codes "done"
answer_text (answer.Fired fired) = codes "fired" ++ fired_text fired
answer_text (answer.Value reading) = value_text reading
answer_text (answer.Advanced advance.Idle) = codes "idle"
answer_text (answer.Advanced (advance.Moved moved)) = event_text moved

abbrev pub region_name : Region → List ℕ
region_name region.Begin = codes "Begin"
region_name region.Active = codes "Active"
region_name region.Settle = codes "Settle"
region_name region.End = codes "End"

-- the time in steps, and the region
abbrev pub place_text : State → List ℕ
place_text state = codes ", " ++ decimal state.time ++ codes " " ++ region_name state.region

-- how many keys were registered, removed and fired since the design was loaded
abbrev pub counts_text : Counts → List ℕ
counts_text counts = codes ", " ++ decimal counts.primed ++ codes " " ++ decimal counts.removed ++ codes " " ++ decimal counts.fired

-- where a simulator stands
abbrev pub standing_text : Content → List ℕ
standing_text c = place_text c.state ++ counts_text c.counts

-- what is shown of a call: its answer, and where the simulator stands behind it
abbrev pub ShowsCall : Content → Option Call → List ℕ → Content → Type 0
ShowsCall before None shown after = (after ≡ before) × (shown ≡ codes "no call" ++ standing_text before)
ShowsCall before (Some call) shown after =
    (a : Answer) × IsAnswered before call a after × (shown ≡ answer_text a ++ standing_text after)

-- what is shown of a design that the simulator takes: where it stands in the design's opening state
abbrev pub ShowsDesign : Design → List ℕ → Content → Type 0
ShowsDesign asked shown after = IsOpening asked after × (shown ≡ codes "loaded" ++ standing_text after)

-- a row names a design, or else may ask for a call
abbrev pub ShowsAsked : Option Design → Content → Option Call → List ℕ → Content → Type 0
ShowsAsked (Some asked) before call shown after = ShowsDesign asked shown after
ShowsAsked None before call shown after = ShowsCall before call shown after

abbrev pub ShowsRow : Content → List ℕ → List ℕ → Content → Type 0
ShowsRow before row shown after = ShowsAsked (design_named (part_at 0 row)) before (call_of row) shown after

-- the rule of a row, and behind `: ` what is shown
abbrev pub RowGives : Content → List ℕ → List ℕ → Content → Type 0
RowGives before row text after =
    (shown : List ℕ) × ShowsRow before row shown after × (text ≡ part_at 1 row ++ codes ": " ++ shown)

-- ---- where memory runs out

-- a design was not taken: the simulator is as it was, or holds no design
abbrev pub IsUntaken : Content → Content → Type 0
IsUntaken before after = (after ≡ before) ⊎ (after ≡ no_design)

-- a design was not taken, or it was and is not shown
abbrev pub LeavesDesign : Design → Content → Content → Type 0
LeavesDesign asked before after = IsUntaken before after ⊎ IsOpening asked after

-- a call was not made, or its answer is not shown
abbrev pub LeavesCall : Content → Option Call → Content → Type 0
LeavesCall before call after = (after ≡ before) ⊎ ((shown : List ℕ) × ShowsCall before call shown after)

abbrev pub LeavesAsked : Option Design → Content → Option Call → Content → Type 0
LeavesAsked (Some asked) before call after = LeavesDesign asked before after
LeavesAsked None before call after = LeavesCall before call after

-- nothing of a row was done, or what it leaves is not shown
abbrev pub LeavesRow : Content → List ℕ → Content → Type 0
LeavesRow before row after = LeavesAsked (design_named (part_at 0 row)) before (call_of row) after
