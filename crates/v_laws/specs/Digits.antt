-- A means of proof: digits of signals, for the proofs of laws of a design: which are driven, which are written by updates, and which a
-- process changes.
use Rattle.std.specs.Prelude.{◌≡◌, ◌+◌, ◌<◌, ◌≤◌, ◌⊎◌, ℕ, List, [], ◌∷◌, Option, Some, None, length, slice_get}
use Rattle.four_value.specs.declared.Digit.{Digit}
use Rattle.gpi.specs.declared.types.Update.{Update}
use Rattle.gpi.specs.Activation.{Map, Hidden, Run, hidden_in}
use Rattle.gpi.specs.Design.{Proc}
use Rattle.gpi.specs.Terms.{read}
use Rattle.v_flat.specs.Targets.{Drive}
use Rattle.v_flat.specs.Design.{from}

-- digit k of signal n is one of the drive's
abbrev pub Has : Drive → ℕ → ℕ → Type 0
Has d n k = (d.signal ≡ n) × (d.low ≤ k) × (k < d.low + d.count)

-- one of these drives has it
abbrev pub IsDriven : List Drive → ℕ → ℕ → Type 0
IsDriven [] n k = ⊥
IsDriven (d ∷ ds) n k = Has d n k ⊎ IsDriven ds n k

-- the update gives digit k of signal n a value
abbrev pub Writes : Update → ℕ → ℕ → Type 0
Writes u n k = (u.sig.0 ≡ n) × (u.low ≤ k) × (k < u.low + length u.bits)

-- one of these updates does
abbrev pub IsWritten : List Update → ℕ → ℕ → Type 0
IsWritten [] n k = ⊥
IsWritten (u ∷ us) n k = Writes u n k ⊎ IsWritten us n k

-- the value that the design gives a signal: the hidden one while it is forced, else the one that it shows (clause 9.3.2)
abbrev pub or_shown : Option (List Digit) → List Digit → List Digit
or_shown None shown = shown
or_shown (Some ds) shown = ds

abbrev pub given_value : Run → ℕ → List Digit
given_value r n = or_shown (hidden_in r.hidden n) (read r.signals n)

-- there are values of the signals on which an activation of the process leaves another one in digit k of signal n
pub record Changes (p : Proc) (n k : ℕ) : Type 0 where
  pub map : Map
  pub hidden : Hidden
  pub digit : Digit
  pub before : slice_get (given_value (from map hidden) n) k ≡ Some digit
  pub after : slice_get (given_value (p.run map hidden) n) k ≡ Some digit → ⊥

-- there are values of the signals on which an activation of the process leaves an update of digit k of signal n, for later
pub record Leaves (p : Proc) (n k : ℕ) : Type 0 where
  pub map : Map
  pub hidden : Hidden
  pub written : IsWritten (p.run map hidden).updates n k

-- on some values of the signals the process gives digit k of signal n a value, at once or later
abbrev pub Gives : Proc → ℕ → ℕ → Type 0
Gives p n k = Changes p n k ⊎ Leaves p n k
