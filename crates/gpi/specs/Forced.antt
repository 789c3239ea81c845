-- What a forced signal shows through any calls of a simulator (IEEE 1364-2005, clause 9.3.2).
use Rattle.std.specs.Prelude.{◌≡◌, ◌<◌, List, [], ◌∷◌, length, slice_index_or, Option, Some, true, false, ◌⊎◌}
use Rattle.four_value.specs.declared.Digit.{Digit}
use Rattle.gpi.specs.declared.types.SigId.{SigId}
use Rattle.gpi.specs.declared.types.Key.{Key}
use Rattle.gpi.specs.declared.design.Flat.{Flat}
use Rattle.gpi.specs.Events.{Event, event, put, force, release, hidden_at, value_at}
use Rattle.gpi.specs.Content.{Content, opening, Does, Registers, Removes}

-- a call that may change what a simulator holds, but for `load`
pub data Call : Type 0 where
  Deposit : SigId → List Digit → Call
  Force : SigId → List Digit → Call
  Release : SigId → Call
  Register : Key → Call
  Remove : Key → Call
  Advance : Call

-- what an event leaves; the eighth case changes nothing
abbrev pub Leaves : Content → Option Event → Content → Type 0
Leaves before (Some e) after = Does before e after
Leaves before _ after = after ≡ before

-- what a call leaves, whether it answers Ok or that it wants memory
abbrev pub LeavesBy : Call → Content → Content → Type 0
LeavesBy (Deposit sig bits) c d = Does c (put c.procs c.state c.keys sig bits) d
LeavesBy (Force sig bits) c d = Does c (force c.procs c.state c.keys sig bits) d
LeavesBy (Release sig) c d = Does c (release c.procs c.nets c.state c.keys sig) d
LeavesBy (Register key) c d = Registers c key d ⊎ (d ≡ c)
LeavesBy (Remove key) c d = Removes c key d
LeavesBy Advance c d = Leaves c (event c.procs c.state c.keys) d ⊎ (d ≡ c)

-- calls one after the other
abbrev pub LeadBy : List Call → Content → Content → Type 0
LeadBy [] c d = d ≡ c
LeadBy (x ∷ xs) c d = (next : Content) × LeavesBy x c next × LeadBy xs next d

-- none of the calls forces or releases this signal
abbrev pub IsElsewhere : SigId → Call → Type 0
IsElsewhere sig (Force other bits) = other.0 ≡ sig.0 → ⊥
IsElsewhere sig (Release other) = other.0 ≡ sig.0 → ⊥
IsElsewhere sig _ = Unit {0}

abbrev pub AreElsewhere : SigId → List Call → Type 0
AreElsewhere sig [] = Unit {0}
AreElsewhere sig (x ∷ xs) = IsElsewhere sig x × AreElsewhere sig xs

-- From a force on, through all calls up to the next one that forces or releases the signal, it shows the digits that it was forced to. What
-- came before are any calls from the opening state of a design on.
abbrev pub Forced_signals_stay : Type 0
Forced_signals_stay = (flat : Flat) (earlier calls : List Call) (sig : SigId) (bits : List Digit) (before c d : Content)
    → LeadBy earlier (opening flat) before → sig.0 < length flat.signals → LeavesBy (Force sig bits) before c
    → AreElsewhere sig calls → LeadBy calls c d → value_at d.state sig ≡ bits

-- A released net shows its hidden value, which is what its driver, updates and deposits left.
abbrev pub Released_nets_show : Type 0
Released_nets_show = (flat : Flat) (calls : List Call) (sig : SigId) (bits : List Digit) (c d : Content)
    → LeadBy calls (opening flat) c → hidden_at c.state sig ≡ Some bits → slice_index_or c.nets sig.0 false ≡ true
    → LeavesBy (Release sig) c d → value_at d.state sig ≡ bits
