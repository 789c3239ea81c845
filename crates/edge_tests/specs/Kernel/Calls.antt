-- A means of proof: calls of a simulator's interface, when they are allowed, and what they are answered, for the test program of
-- simulators.
use Rattle.std.specs.Prelude.{◌≡◌, ◌<◌, ℕ, ◌-◌, ◌^◌, min, true, false, List, Option, None, Some, codes, length, option_map, if◌then◌else◌}
use Rattle.std.specs.Str.{bytes_eq}
use Rattle.four_value.specs.Vector.{vector}
use Rattle.gpi.specs.Content.{Content, Answers, Does, IsAsked, Registers, Removes}
use Rattle.gpi.specs.Events.{event, put, force, release, is_forced, value_at}
use Rattle.gpi.specs.Keys.{fired_of, has}
use Rattle.gpi.specs.State.{is_end}
use Rattle.gpi.specs.declared.types.Key.{Key}
use Rattle.gpi.specs.declared.types.Key.TheVariants.{At, Rise, Fall, Change, ReadWrite, ReadOnly, NextStep}
use Rattle.gpi.specs.declared.types.SigId.{SigId}
use Rattle.table_rows.specs.Rows.{decimal, part_at}
use Rattle.edge_tests.specs.Kernel.Keys.{AreKeys}
use Rattle.edge_tests.specs.declared.kernel.booked.Book.{Book}
use Rattle.edge_tests.specs.declared.kernel.calls.Call.{Call}
use Rattle.edge_tests.specs.declared.kernel.calls.Call.TheVariants as call
use Rattle.edge_tests.specs.declared.kernel.calls.Answer.{Answer}
use Rattle.edge_tests.specs.declared.kernel.calls.Answer.TheVariants as answer

-- the signal of this number, the last of 32 bits where it is beyond
abbrev pub signal_of : ℕ → SigId
signal_of number = record { 0 = min number (2 ^ 32 - 1) }

-- the key of this name and number
abbrev pub key_of : List ℕ → ℕ → Option Key
key_of name number =
    if bytes_eq name (codes "at") then Some (At number)
    else (if bytes_eq name (codes "rise") then Some (Rise (signal_of number))
    else (if bytes_eq name (codes "fall") then Some (Fall (signal_of number))
    else (if bytes_eq name (codes "change") then Some (Change (signal_of number))
    else (if bytes_eq name (codes "read_write") then Some ReadWrite
    else (if bytes_eq name (codes "read_only") then Some ReadOnly
    else (if bytes_eq name (codes "next_step") then Some NextStep
    else None))))))

-- the key that a row names by its third and its fourth part
abbrev pub named_key : List ℕ → Option Key
named_key row = key_of (part_at 2 row) (decimal (part_at 3 row))

-- the call that a row asks for by its first part
abbrev pub call_of : List ℕ → Option Call
call_of row =
    if bytes_eq (part_at 0 row) (codes "register") then option_map call.Register (named_key row)
    else (if bytes_eq (part_at 0 row) (codes "remove") then option_map call.Remove (named_key row)
    else (if bytes_eq (part_at 0 row) (codes "deposit")
    then Some (call.Deposit (signal_of (decimal (part_at 2 row))) (decimal (part_at 3 row)))
    else (if bytes_eq (part_at 0 row) (codes "force")
    then Some (call.Force (signal_of (decimal (part_at 2 row))) (decimal (part_at 3 row)))
    else (if bytes_eq (part_at 0 row) (codes "release") then Some (call.Release (signal_of (decimal (part_at 2 row))))
    else (if bytes_eq (part_at 0 row) (codes "read") then Some (call.Read (signal_of (decimal (part_at 2 row))))
    else (if bytes_eq (part_at 0 row) (codes "advance") then Some call.Advance
    else None))))))

-- the interface allows the call
abbrev pub IsAllowed : Content → Call → Type 0
IsAllowed c (call.Register key) = IsAsked (length c.state.signals) c.state key × (has key c.keys ≡ false)
IsAllowed c (call.Remove key) = has key c.keys ≡ true
IsAllowed c (call.Deposit sig number) = (sig.0 < length c.state.signals) × (is_end c.state.region ≡ false)
IsAllowed c (call.Force sig number) = (sig.0 < length c.state.signals) × (is_end c.state.region ≡ false)
IsAllowed c (call.Release sig) = (sig.0 < length c.state.signals) × (is_end c.state.region ≡ false)
IsAllowed c (call.Read sig) = sig.0 < length c.state.signals
IsAllowed c call.Advance = Unit {0}

-- What a call is answered, and what it leaves: it is made where it is allowed, and nowhere else. A number is written, or forced, in as many
-- digits as the signal has.
abbrev pub IsAnswered : Content → Call → Answer → Content → Type 0
IsAnswered before call answer.Refused after = (after ≡ before) × (IsAllowed before call → ⊥)
IsAnswered before (call.Register key) answer.Done after = IsAllowed before (call.Register key) × Registers before key after
IsAnswered before (call.Remove key) answer.Done after = IsAllowed before (call.Remove key) × Removes before key after
IsAnswered before (call.Deposit sig number) (answer.Fired fired) after =
    let e = put before.procs before.state before.keys sig (vector (length (value_at before.state sig)) number) in
    IsAllowed before (call.Deposit sig number) × (fired ≡ fired_of e.fired) × Does before e after
IsAnswered before (call.Force sig number) (answer.Fired fired) after =
    let e = force before.procs before.state before.keys sig (vector (length (value_at before.state sig)) number) in
    IsAllowed before (call.Force sig number) × (fired ≡ fired_of e.fired) × Does before e after
IsAnswered before (call.Release sig) (answer.Fired fired) after =
    let e = release before.procs before.nets before.state before.keys sig in
    IsAllowed before (call.Release sig) × (fired ≡ fired_of e.fired) × Does before e after
IsAnswered before (call.Read sig) (answer.Value reading) after =
    (after ≡ before) × IsAllowed before (call.Read sig) × (reading ≡ record { bits = value_at before.state sig; forced = is_forced before.state sig })
IsAnswered before call.Advance (answer.Advanced a) after = Answers before (event before.procs before.state before.keys) a after
IsAnswered _ _ _ _ = ⊥

-- the book has the number of the signals, and the keys that are registered
pub record IsBook (book : Book) (c : Content) : Type 0 where
  pub signals : book.signals ≡ length c.state.signals
  pub keys : AreKeys c.keys book.keys.items
