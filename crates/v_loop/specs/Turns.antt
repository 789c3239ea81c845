-- A means of proof: what holds of turns, for the proofs of elaboration.
use Rattle.std.specs.Prelude.{◌≡◌, ℕ, List, length, All, Some}
use Rattle.four_value.specs.declared.Digit.{Digit}
use Rattle.v_flat.specs.declared.scope.meaning.DataObject.{DataObject}
use Rattle.v_flat.specs.declared.scope.meaning.Meaning.TheVariants.{Object}
use Rattle.v_flat.specs.Scope.Scope.{Scope, find}
use Rattle.v_flat.specs.Statements.{Turns, turn}

-- the value of each turn, and the one behind the last, has w digits
abbrev pub HaveWidth : ℕ → Turns → Type 0
HaveWidth w x = All (λ v. length v ≡ w) x.0 × (length x.1 ≡ w)

-- where t is the scope of a turn in s, of the register o with the name n, u is s again
abbrev pub LeavesTurn : List ℕ → DataObject → Scope → Scope → Type 0
LeavesTurn n o t u = (v : List Digit) (s : Scope) → find n s ≡ Some (Object o) → t ≡ turn n o v s → u ≡ s
