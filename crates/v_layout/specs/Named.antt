-- A means of proof: scopes in which each name is a signal of the design, with its width, for the proofs of elaboration.
use Rattle.std.specs.Prelude.{ℕ, List, ◌++◌}
use Rattle.v_flat.specs.Scope.Scope.{Scope, find}
use Rattle.v_check.specs.Constants.Checked.{IsNameOf}

-- each net and register is a signal of the design, and each word of a memory one, with its width; ws are the widths of the signals
abbrev pub AreSignals : Scope → List ℕ → Type 0
AreSignals s ws = (n : List ℕ) → IsNameOf (find n s) ws

-- the same, also where more signals stand behind
abbrev pub StaySignals : Scope → List ℕ → Type 0
StaySignals s ws = (more : List ℕ) → AreSignals s (ws ++ more)
