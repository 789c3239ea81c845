-- A means of proof: laws of constant expressions (IEEE 1364-2005, clause 5), for the proofs of elaboration.
use Rattle.std.specs.Prelude.{◌≡◌, ℕ, List, true}
use Rattle.v_syntax.specs.ExpressionTrees.{Tree}
use Rattle.v_flat.specs.Scope.Scope.{Scope}
use Rattle.v_flat.specs.Expressions.{Values, meaning}
use Rattle.v_flat.specs.Checks.{made}
use Rattle.v_check.specs.Constants.Checked.{AreNamesOf}

-- what is made of constants names no signal
abbrev pub Constants_name_no_signal : Type 0
Constants_name_no_signal = (s : Scope) (e : Tree) (ws : List ℕ) → made s e ≡ true → AreNamesOf s e ws

-- and it has one value in each context, whatever the signals are
abbrev pub Constants_have_one_value : Type 0
Constants_have_one_value = (s : Scope) (e : Tree) (w : ℕ) (m n : Values) → made s e ≡ true → meaning s e w m ≡ meaning s e w n
