-- What is so of a value that was found.
use Rattle.std.proofs.Common.{◌≡◌, Ok, Result, subst}
use Rattle.v_flat.specs.declared.scope.rule.Broken.{Broken}
use Rattle.v_flat.specs.declared.scope.found.Found.{Found}
use Rattle.v_flat.specs.declared.scope.found.Found.TheVariants.{Sound}
use Rattle.v_flat.specs.Scope.Found.{Holds, HoldsOk}

pub of_ok : {A : Type 0} (P : A → Type 0) (r : Result A Broken) (a : A) → HoldsOk P r → r ≡ Ok a → P a
of_ok P r a h e = subst (HoldsOk P) e h

pub of_sound : {A : Type 0} (P : A → Type 0) (x : Found A) (a : A) → Holds P x → x ≡ Sound a → P a
of_sound P x a h e = subst (Holds P) e h
