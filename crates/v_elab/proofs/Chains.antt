-- What comes next, and next again.
use Rattle.std.proofs.Common.{◌≡◌, Result, Ok, Err, refl}
use Rattle.v_flat.specs.declared.scope.rule.Broken.{Broken}
use Rattle.v_flat.specs.Scope.Found.{next}

pub next_next : {A B C : Type 0} (r : Result A Broken) (f : A → Result B Broken) (g : B → Result C Broken) → next (next r f) g ≡ next r (λ a. next (f a) g)
next_next (Ok a) f g = refl
next_next (Err b) f g = refl

pub next_same : {A B : Type 0} (r : Result A Broken) (f g : A → Result B Broken) → ((a : A) → f a ≡ g a) → next r f ≡ next r g
next_same (Ok a) f g h = h a
next_same (Err b) f g h = refl
