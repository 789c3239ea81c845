-- A means of proof: what the parts of a loop's header give, as a value or as the rule that is broken first.
use Rattle.std.specs.Prelude.{ℕ, List, Option, None, Some, Bool, true, false, Result, Ok}
use Rattle.four_value.specs.declared.Digit.{Digit}
use Rattle.four_value.specs.declared.Digit.TheVariants.{Zero, One, X, Z}
use Rattle.four_value.specs.Vector.{resize}
use Rattle.gpi.specs.Operators.{truth}
use Rattle.v_syntax.specs.ExpressionTrees.{Tree}
use Rattle.v_flat.specs.declared.scope.rule.Broken.{Broken}
use Rattle.v_flat.specs.Scope.Found.{each, ended, next}
use Rattle.v_flat.specs.Scope.Scope.{Scope}
use Rattle.v_flat.specs.Checks.{constant_of, given_to}

abbrev pub is_one : Digit → Bool
is_one Zero = false
is_one One = true
is_one X = false
is_one Z = false

-- whether a condition holds
abbrev pub condition_of : Scope → Tree → Result Bool Broken
condition_of s c = ended (each (λ ds. is_one (truth ds)) (constant_of s c))

-- what a register of w digits has after e is assigned to it
abbrev pub value_for : ℕ → Scope → Tree → Result (List Digit) Broken
value_for w s e = ended (each (λ ds. resize ds w) (given_to w s e))

abbrev pub only_if : {A : Type 0} → Result A Broken → Bool → Result (Option A) Broken
only_if x true = next x (λ a. Ok (Some a))
only_if x false = Ok None

-- the value behind the turn with the scope t; none where there is no such turn
abbrev pub next_value : ℕ → Tree → Tree → Scope → Result (Option (List Digit)) Broken
next_value w c d t = next (condition_of t c) (only_if (value_for w t d))
