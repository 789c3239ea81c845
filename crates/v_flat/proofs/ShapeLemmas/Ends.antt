-- What is known where a walk goes on.
use Rattle.std.proofs.Common.{◌≡◌, ℕ, Bool, true, false, Result, Ok, Err, refl}
use Rattle.v_flat.specs.declared.scope.rule.Broken.{Broken}
use Rattle.v_flat.specs.declared.scope.rule.ElabRule.{ElabRule}
use Rattle.v_flat.specs.declared.scope.found.Found.{Found}
use Rattle.v_flat.specs.declared.scope.found.Found.TheVariants.{Sound, Noted, Lost}
use Rattle.v_flat.specs.Scope.Found.{HoldsOk, both, each, ended, lost, needs, next, noted, wants}

pub holds_next_so : {A B : Type 0} (Q : B → Type 0) (r : Result A Broken) (f : A → Result B Broken) → ((a : A) → r ≡ Ok a → HoldsOk Q (f a)) → HoldsOk Q (next r f)
holds_next_so Q (Ok a) f h = h a refl
holds_next_so Q (Err b) f h = tt

pub ended_sound : {A : Type 0} (x : Found A) (a : A) → ended x ≡ Ok a → x ≡ Sound a
ended_sound (Sound b) a e = cc
ended_sound (Noted r b) a e = cc
ended_sound (Lost r) a e = cc

noted_not : {A : Type 0} (b : Broken) (x : Found A) (a : A) → noted b x ≡ Sound a → ⊥
noted_not b (Sound c) a e = cc
noted_not b (Noted r c) a e = cc
noted_not b (Lost r) a e = cc

lost_not : {A B : Type 0} (b : Broken) (x : Found A) (a : B) → lost b x ≡ Sound a → ⊥
lost_not b (Sound c) a e = cc
lost_not b (Noted r c) a e = cc
lost_not b (Lost r) a e = cc

pub wants_sound : {A : Type 0} (t : Bool) (r : ElabRule) (p : ℕ) (x : Found A) (a : A) → wants t r p x ≡ Sound a → (t ≡ true) × (x ≡ Sound a)
wants_sound true r p x a e = (refl, e)
wants_sound false r p x a e = absurd (noted_not (record { rule = r; place = p }) x a e)

pub needs_sound : {A : Type 0} (t : Bool) (r : ElabRule) (p : ℕ) (x : Found A) (a : A) → needs t r p x ≡ Sound a → (t ≡ true) × (x ≡ Sound a)
needs_sound true r p x a e = (refl, e)
needs_sound false r p x a e = absurd (lost_not (record { rule = r; place = p }) x a e)

-- the second of both
pub sound_both : {A B : Type 0} (x : Found A) (y : Found B) (p : A × B) → both x y ≡ Sound p → y ≡ Sound p.1
sound_both (Sound a) (Sound b) p e = cc
sound_both (Sound a) (Noted r b) p e = cc
sound_both (Sound a) (Lost r) p e = cc
sound_both {A} {B} (Noted r a) y p e = absurd (noted_not r (each (λ (b : B). (a, b)) y) p e)
sound_both (Lost r) y p e = absurd (lost_not r y p e)
