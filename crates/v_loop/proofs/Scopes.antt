-- The scope of a turn.
use Rattle.std.proofs.Common.{◌≡◌, ℕ, List, Some, ap, ◌∙◌}
use Rattle.four_value.specs.declared.Digit.{Digit}
use Rattle.v_flat.specs.declared.scope.meaning.DataObject.{DataObject}
use Rattle.v_flat.specs.declared.scope.meaning.Meaning.TheVariants.{Constant, Object}
use Rattle.v_flat.specs.Scope.Scope.{Scope, find, renamed}
use Rattle.v_flat.proofs.ScopeLemmas.Replaced.{back_again}
use Rattle.v_flat.specs.Statements.{turn}

-- what the register's name meant is put back
pub left_again : (n : List ℕ) (o : DataObject) (v : List Digit) (s t u : Scope) → u ≡ renamed n (Object o) t → find n s ≡ Some (Object o) → t ≡ turn n o v s → u ≡ s
left_again n o v s t u q h e =
    q ∙ ap (λ (x : Scope). renamed n (Object o) x) e ∙ back_again n (Constant v o.bounds) (Object o) s h
