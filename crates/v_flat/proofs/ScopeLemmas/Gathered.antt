-- What is made of a value that is found, through the ways of putting parts together.
use Rattle.std.proofs.Common.{◌≡◌, ℕ, Bool, true, false, refl, sym, ap, ◌∙◌}
use Rattle.v_flat.specs.declared.scope.rule.Broken.{Broken}
use Rattle.v_flat.specs.declared.scope.rule.ElabRule.{ElabRule}
use Rattle.v_flat.specs.declared.scope.found.Found.{Found}
use Rattle.v_flat.specs.declared.scope.found.Found.TheVariants.{Sound, Noted, Lost}
use Rattle.v_flat.specs.Scope.Found.{noted, lost, each, both, followed, and_then, wants, needs, Holds, EachIs}

pub same_each : {A : Type 0} (x : Found A) → each (λ (a : A). a) x ≡ x
same_each (Sound a) = refl
same_each (Noted b a) = refl
same_each (Lost b) = refl

pub each_each : {A B C : Type 0} (f : B → C) (g : A → B) (x : Found A) → each f (each g x) ≡ each (λ a. f (g a)) x
each_each f g (Sound a) = refl
each_each f g (Noted b a) = refl
each_each f g (Lost b) = refl

pub each_same : {A B : Type 0} (f g : A → B) (x : Found A) → ((a : A) → f a ≡ g a) → each f x ≡ each g x
each_same {A} {B} f g (Sound a) h = ap (λ (b : B). (let r : Found B = Sound b in r)) (h a)
each_same {A} {B} f g (Noted c a) h = ap (λ (b : B). (let r : Found B = Noted c b in r)) (h a)
each_same f g (Lost c) h = refl

-- what was made of the value by a function is what the function makes of it
pub made_each : {A B : Type 0} (P : A → B → Type 0) (f : A → B) (x : Found A) (y : Found B) → ((a : A) (b : B) → P a b → b ≡ f a) → EachIs P x y
    → y ≡ each f x
made_each {A} {B} P f (Sound a) (Sound b) h k = ap (λ (c : B). (let r : Found B = Sound c in r)) (h a b k)
made_each {A} {B} P f (Noted x a) (Noted y b) h k =
    ap (λ (z : Broken). (let r : Found B = Noted z b in r)) (sym k.0) ∙ ap (λ (c : B). (let r : Found B = Noted x c in r)) (h a b k.1)
made_each {A} {B} P f (Lost x) (Lost y) h k = ap (λ (z : Broken). (let r : Found B = Lost z in r)) (sym k)
made_each P f (Sound a) (Noted y b) h k = absurd k
made_each P f (Sound a) (Lost y) h k = absurd k
made_each P f (Noted x a) (Sound b) h k = absurd k
made_each P f (Noted x a) (Lost y) h k = absurd k
made_each P f (Lost x) (Sound b) h k = absurd k
made_each P f (Lost x) (Noted y b) h k = absurd k

pub each_noted : {A B : Type 0} (f : A → B) (c : Broken) (x : Found A) → each f (noted c x) ≡ noted c (each f x)
each_noted f c (Sound a) = refl
each_noted f c (Noted b a) = refl
each_noted f c (Lost b) = refl

each_lost : {A B : Type 0} (f : A → B) (c : Broken) (x : Found A) → each f (lost c x) ≡ lost c (each f x)
each_lost f c (Sound a) = refl
each_lost f c (Noted b a) = refl
each_lost f c (Lost b) = refl

pub each_wants : {A B : Type 0} (f : A → B) (ok : Bool) (r : ElabRule) (p : ℕ) (x : Found A) → each f (wants ok r p x) ≡ wants ok r p (each f x)
each_wants f true r p x = refl
each_wants f false r p x = each_noted f (record { rule = r; place = p }) x

pub each_needs : {A B : Type 0} (f : A → B) (ok : Bool) (r : ElabRule) (p : ℕ) (x : Found A) → each f (needs ok r p x) ≡ needs ok r p (each f x)
each_needs f true r p x = refl
each_needs f false r p x = each_lost f (record { rule = r; place = p }) x

pub each_then : {A B C : Type 0} (g : B → C) (f : A → Found B) (x : Found A) → each g (and_then x f) ≡ and_then x (λ a. each g (f a))
each_then g f (Sound a) = refl
each_then g f (Noted b a) = each_noted g b (f a)
each_then g f (Lost b) = refl

pub then_same : {A B : Type 0} (f g : A → Found B) (x : Found A) → ((a : A) → f a ≡ g a) → and_then x f ≡ and_then x g
then_same f g (Sound a) h = h a
then_same {A} {B} f g (Noted b a) h = ap (λ (y : Found B). noted b y) (h a)
then_same f g (Lost b) h = refl

pub both_each : {A B C D : Type 0} (f : A → C) (g : B → D) (x : Found A) (y : Found B) → both (each f x) (each g y) ≡ each (λ (p : A × B). (f p.0, g p.1)) (both x y)
both_each f g (Sound a) (Sound b) = refl
both_each f g (Sound a) (Noted c b) = refl
both_each f g (Sound a) (Lost c) = refl
both_each f g (Noted d a) (Sound b) = refl
both_each f g (Noted d a) (Noted c b) = refl
both_each f g (Noted d a) (Lost c) = refl
both_each f g (Lost d) (Sound b) = refl
both_each f g (Lost d) (Noted c b) = refl
both_each f g (Lost d) (Lost c) = refl

pub followed_each : {A B C D : Type 0} (f : A → C) (g : B → D) (x : Found A) (y : Found B)
    → followed (each f x) (each g y) ≡ each (λ (p : A × B). (f p.0, g p.1)) (followed x y)
followed_each f g (Sound a) (Sound b) = refl
followed_each f g (Sound a) (Noted c b) = refl
followed_each f g (Sound a) (Lost c) = refl
followed_each f g (Noted d a) (Sound b) = refl
followed_each f g (Noted d a) (Noted c b) = refl
followed_each f g (Noted d a) (Lost c) = refl
followed_each f g (Lost d) y = refl

pub holds_so : {A : Type 0} (P Q : A → Type 0) (x : Found A) → Holds P x → ((a : A) → P a → Q a) → Holds Q x
holds_so P Q (Sound a) h k = k a h
holds_so P Q (Noted b a) h k = tt
holds_so P Q (Lost b) h k = tt
