-- What is broken, through the ways of putting parts together.
use Rattle.std.proofs.Common.{◌≡◌, Result, Ok, IfOk, OnOk, refl, sym, ap, ◌∙◌, subst}
use Rattle.v_flat.specs.declared.scope.rule.Broken.{Broken}
use Rattle.v_flat.specs.declared.scope.found.Found.{Found}
use Rattle.v_flat.specs.declared.scope.found.Found.TheVariants.{Sound, Noted, Lost}
use Rattle.v_flat.specs.Scope.Found.{fine, each, both, EachIs}
use Rattle.v_flat.specs.Statements.{done}

pub done_unit : (x : Found (Unit {0})) → done x ≡ x
done_unit (Sound a) = refl
done_unit (Noted b a) = refl
done_unit (Lost b) = refl

pub done_each : {A B : Type 0} (g : A → B) (x : Found A) → done (each g x) ≡ done x
done_each g (Sound a) = refl
done_each g (Noted b a) = refl
done_each g (Lost b) = refl

-- what is broken is so by the widths
pub done_as : {A B C : Type 0} (f : A → C) (g : B → C) (x : Found A) (y : Found B) → each f x ≡ each g y → done x ≡ done y
done_as {A} {B} {C} f g x y h = sym (done_each f x) ∙ ap (λ (z : Found C). done z) h ∙ done_each g y

done_both : {A B : Type 0} (x : Found A) (y : Found B) → done (both x y) ≡ done (both (done x) (done y))
done_both (Sound a) (Sound b) = refl
done_both (Sound a) (Noted c b) = refl
done_both (Sound a) (Lost c) = refl
done_both (Noted d a) (Sound b) = refl
done_both (Noted d a) (Noted c b) = refl
done_both (Noted d a) (Lost c) = refl
done_both (Lost d) (Sound b) = refl
done_both (Lost d) (Noted c b) = refl
done_both (Lost d) (Lost c) = refl

pub two_done : {A B C D : Type 0} (x : Found A) (y : Found B) (u : Found C) (v : Found D) → done x ≡ done u → done y ≡ done v
    → done (both x y) ≡ done (both u v)
two_done x y u v h k = done_both x y ∙ ap (λ (z : Found (Unit {0})). done (both z (done y))) h
    ∙ ap (λ (z : Found (Unit {0})). done (both (done u) z)) k ∙ sym (done_both u v)

pub with_fine : (b : Found (Unit {0})) → done (both b fine) ≡ done b
with_fine (Sound a) = refl
with_fine (Noted c a) = refl
with_fine (Lost c) = refl

-- what was made of a value has the same broken rule
pub done_made : {A B : Type 0} (P : A → B → Type 0) (x : Found A) (f : Found B) → EachIs P x f → done f ≡ done x
done_made P (Sound a) (Sound b) h = refl
done_made P (Noted x a) (Noted y b) h = ap (λ (z : Broken). (let r : Found (Unit {0}) = Noted z tt in r)) (sym h.0)
done_made P (Lost x) (Lost y) h = ap (λ (z : Broken). (let r : Found (Unit {0}) = Lost z in r)) (sym h)
done_made P (Sound a) (Noted y b) h = absurd h
done_made P (Sound a) (Lost y) h = absurd h
done_made P (Noted x a) (Sound b) h = absurd h
done_made P (Noted x a) (Lost y) h = absurd h
done_made P (Lost x) (Sound b) h = absurd h
done_made P (Lost x) (Noted y b) h = absurd h

-- what a call promises of its answer holds of the value that it gave
pub was_made : {A E : Type 0} (r : Result A E) (a : A) (P : A → Type 0) → r ≡ Ok a → IfOk r P → P a
was_made {A} {E} r a P e h = subst (λ (s : Result A E). IfOk s P) e h

pub was_done : {A E P : Type 0} (r : Result A E) (a : A) → r ≡ Ok a → OnOk r P → P
was_done {A} {E} {P} r a e h = subst (λ (s : Result A E). OnOk s P) e h
