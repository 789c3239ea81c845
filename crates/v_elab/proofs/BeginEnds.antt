-- What the definition finds where the code finds a value or a broken rule.
use Rattle.std.proofs.Common.{◌≡◌, Result, Ok, Err, refl, sym, ap, ◌∙◌, subst}
use Rattle.v_flat.specs.declared.scope.rule.Broken.{Broken}
use Rattle.v_flat.specs.Scope.Found.{HoldsOk, next}
use Rattle.v_elab.specs.States.{EndsAs}

pub ends_ok : {A B : Type 0} (P : A → B → Type 0) (r : Result A Broken) (s : Result B Broken) (b : B) → EndsAs P r s → s ≡ Ok b → (a : A) × ((r ≡ Ok a) × P a b)
ends_ok P (Ok a) (Ok c) b h e = let f : c ≡ b = cc in (a, (refl, subst (λ d. P a d) f h))
ends_ok P (Err x) (Ok c) b h e = absurd h
ends_ok P r (Err y) b h e = cc

pub ends_err : {A B : Type 0} (P : A → B → Type 0) (r : Result A Broken) (s : Result B Broken) (y : Broken) → EndsAs P r s → s ≡ Err y → r ≡ Err y
ends_err P (Ok a) (Err z) y h e = absurd h
ends_err {A} P (Err x) (Err z) y h e = let f : z ≡ y = cc in ap (λ (b : Broken). (let r : Result A Broken = Err b in r)) (h ∙ f)
ends_err P r (Ok c) y h e = cc

-- where a value is found, what comes next is asked of it
pub ends_next : {A B C D : Type 0} (P : A → B → Type 0) (Q : C → D → Type 0) (r : Result A Broken) (f : A → Result C Broken) (s : Result B Broken) (b : B) (t : Result D Broken)
    → EndsAs P r s → s ≡ Ok b → ((a : A) → r ≡ Ok a → P a b → EndsAs Q (f a) t) → EndsAs Q (next r f) t
ends_next P Q (Ok a) f (Ok c) b t h e k = let g : c ≡ b = cc in k a refl (subst (λ d. P a d) g h)
ends_next P Q (Err x) f (Ok c) b t h e k = absurd h
ends_next P Q r f (Err y) b t h e k = cc

-- where a rule is broken, nothing more is asked
pub ends_broken : {A B C D : Type 0} (P : A → B → Type 0) (Q : C → D → Type 0) (r : Result A Broken) (f : A → Result C Broken) (s : Result B Broken) (y : Broken) (t : Result D Broken)
    → EndsAs P r s → s ≡ Err y → t ≡ Err y → EndsAs Q (next r f) t
ends_broken P Q (Ok a) f (Err z) y t h e g = absurd h
ends_broken P Q (Err x) f (Err z) y (Err w) h e g = let i : z ≡ y = cc in let j : w ≡ y = cc in h ∙ i ∙ sym j
ends_broken P Q (Err x) f (Err z) y (Ok d) h e g = cc
ends_broken P Q r f (Ok c) y t h e g = cc

pub of_ok : {A : Type 0} (P : A → Type 0) (r : Result A Broken) (a : A) → HoldsOk P r → r ≡ Ok a → P a
of_ok P (Ok b) a h e = let f : b ≡ a = cc in subst P f h
of_ok P (Err y) a h e = cc
