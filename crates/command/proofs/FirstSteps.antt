-- What the first step of an iterator tells where it gave nothing.
use Rattle.std.proofs.Common.{◌≡◌, Option, None, subst}
use Rattle.std.specs.Prelude.{MatchOption}

-- what is told first where nothing was given
pub where_none : {X : Type 0} (A B : Type 0) (P : X → Type 0) (given : Option X) → MatchOption given (A × B) P → given ≡ None → A
where_none A B P given told none = let both : MatchOption None (A × B) P = subst (λ found. MatchOption found (A × B) P) none told in both.0
