-- What is so of the value where no rule is broken.
use Rattle.std.proofs.Common.{◌≡◌, ℕ, Bool, true, false, Result, Ok, Err, refl}
use Rattle.v_flat.specs.declared.scope.rule.Broken.{Broken}
use Rattle.v_flat.specs.declared.scope.rule.ElabRule.{ElabRule}
use Rattle.v_flat.specs.declared.scope.found.Found.{Found}
use Rattle.v_flat.specs.declared.scope.found.Found.TheVariants.{Sound, Noted, Lost}
use Rattle.v_flat.specs.Scope.Found.{noted, lost, each, both, followed, and_then, settled, wants, needs, ended, next}
use Rattle.v_flat.specs.Scope.Found.{Holds, HoldsOk}

pub holds_noted : {A : Type 0} (P : A → Type 0) (b : Broken) (x : Found A) → Holds P (noted b x)
holds_noted P b (Sound a) = tt
holds_noted P b (Noted c a) = tt
holds_noted P b (Lost c) = tt

pub holds_lost : {A B : Type 0} (P : B → Type 0) (b : Broken) (x : Found A) → Holds P (lost b x)
holds_lost P b (Sound a) = tt
holds_lost P b (Noted c a) = tt
holds_lost P b (Lost c) = tt

pub holds_then : {A B : Type 0} (P : A → Type 0) (Q : B → Type 0) (x : Found A) (f : A → Found B) → Holds P x → ((a : A) → P a → Holds Q (f a)) → Holds Q (and_then x f)
holds_then P Q (Sound a) f h k = k a h
holds_then P Q (Noted b a) f h k = holds_noted Q b (f a)
holds_then P Q (Lost b) f h k = tt

pub holds_each : {A B : Type 0} (P : A → Type 0) (Q : B → Type 0) (f : A → B) (x : Found A) → Holds P x → ((a : A) → P a → Q (f a)) → Holds Q (each f x)
holds_each P Q f (Sound a) h k = k a h
holds_each P Q f (Noted b a) h k = tt
holds_each P Q f (Lost b) h k = tt

pub holds_both : {A B : Type 0} (P : A → Type 0) (Q : B → Type 0) (x : Found A) (y : Found B) → Holds P x → Holds Q y → Holds (λ (p : A × B). P p.0 × Q p.1) (both x y)
holds_both P Q (Sound a) (Sound b) h k = (h, k)
holds_both P Q (Sound a) (Noted c b) h k = tt
holds_both P Q (Sound a) (Lost c) h k = tt
holds_both {A} {B} P Q (Noted c a) y h k = holds_noted (λ (p : A × B). P p.0 × Q p.1) c (each (λ b. (a, b)) y)
holds_both {A} {B} P Q (Lost c) y h k = holds_lost (λ (p : A × B). P p.0 × Q p.1) c y

pub holds_followed : {A B : Type 0} (P : A → Type 0) (Q : B → Type 0) (x : Found A) (y : Found B) → Holds P x → Holds Q y
    → Holds (λ (p : A × B). P p.0 × Q p.1) (followed x y)
holds_followed P Q (Sound a) (Sound b) h k = (h, k)
holds_followed P Q (Sound a) (Noted c b) h k = tt
holds_followed P Q (Sound a) (Lost c) h k = tt
holds_followed {A} {B} P Q (Noted c a) y h k = holds_noted (λ (p : A × B). P p.0 × Q p.1) c (each (λ b. (a, b)) y)
holds_followed P Q (Lost c) y h k = tt

pub holds_settled : {A : Type 0} (P : A → Type 0) (x : Found A) → Holds P x → Holds P (settled x)
holds_settled P (Sound a) h = h
holds_settled P (Noted b a) h = tt
holds_settled P (Lost b) h = tt

pub holds_wants : {A : Type 0} (P : A → Type 0) (ok : Bool) (r : ElabRule) (p : ℕ) (x : Found A) → (ok ≡ true → Holds P x) → Holds P (wants ok r p x)
holds_wants P true r p x h = h refl
holds_wants P false r p x h = holds_noted P (record { rule = r; place = p }) x

pub holds_needs : {A : Type 0} (P : A → Type 0) (ok : Bool) (r : ElabRule) (p : ℕ) (x : Found A) → (ok ≡ true → Holds P x) → Holds P (needs ok r p x)
holds_needs P true r p x h = h refl
holds_needs P false r p x h = holds_lost P (record { rule = r; place = p }) x

-- with nothing known
pub holds_any : {A : Type 0} (x : Found A) → Holds (λ (a : A). Unit {0}) x
holds_any (Sound a) = tt
holds_any (Noted b a) = tt
holds_any (Lost b) = tt

pub holds_ended : {A : Type 0} (P : A → Type 0) (x : Found A) → Holds P x → HoldsOk P (ended x)
holds_ended P (Sound a) h = h
holds_ended P (Noted b a) h = tt
holds_ended P (Lost b) h = tt

pub holds_next : {A B : Type 0} (P : A → Type 0) (Q : B → Type 0) (x : Result A Broken) (f : A → Result B Broken) → HoldsOk P x → ((a : A) → P a → HoldsOk Q (f a)) → HoldsOk Q (next x f)
holds_next P Q (Ok a) f h k = k a h
holds_next P Q (Err b) f h k = tt

pub holds_ok_any : {A : Type 0} (x : Result A Broken) → HoldsOk (λ (a : A). Unit {0}) x
holds_ok_any (Ok a) = tt
holds_ok_any (Err b) = tt
