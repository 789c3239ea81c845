-- A means of proof: what an expression is in a context of w digits, for the proofs of elaboration: a term, or the rule that is broken
-- first.
use Rattle.std.specs.Prelude.{◌≡◌, ℕ, Result, Ok, Err}
use Rattle.gpi.specs.declared.terms.Term.{Term}
use Rattle.gpi.specs.Made.{Makes}
use Rattle.v_syntax.specs.ExpressionTrees.{Tree}
use Rattle.v_flat.specs.declared.scope.rule.Broken.{Broken}
use Rattle.v_flat.specs.Scope.Found.{ended}
use Rattle.v_flat.specs.Scope.Scope.{Scope}
use Rattle.v_flat.specs.Expressions.{width, meaning}
use Rattle.v_flat.specs.Checks.{checked}
use Rattle.v_check.specs.Constants.Checked.{AreNamesOf}

-- no rule is broken; and the term has the value on every map of the signals, and is sound wherever the names are signals of the
-- design
pub record HasTerm (s : Scope) (e : Tree) (w : ℕ) (t : Term) : Type 0 where
  pub finds : ended (checked s e) ≡ Ok (width s e)
  pub makes : Makes t (meaning s e w) w (λ ws. AreNamesOf s e ws)

abbrev pub IsTerm : Scope → Tree → ℕ → Result Term Broken → Type 0
IsTerm s e w (Ok t) = HasTerm s e w t
IsTerm s e w (Err b) = ended (checked s e) ≡ Err b
