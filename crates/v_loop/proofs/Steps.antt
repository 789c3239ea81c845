-- What the parts of a header make together.
use Rattle.std.proofs.Common.{◌≡◌, Ok, Err, refl, ap}
use Rattle.v_flat.specs.declared.scope.rule.Broken.{Broken}
use Rattle.v_flat.specs.declared.scope.found.Found.{Found}
use Rattle.v_flat.specs.declared.scope.found.Found.TheVariants.{Sound, Noted, Lost}
use Rattle.v_flat.specs.Scope.Found.{and_then, ended}
use Rattle.v_loop.proofs.Settled.{IsSettled}

-- what comes behind something in which no rule is broken
pub behind_sound : {A C : Type 0} (x : Found A) (f : A → Found C) (a : A) → ended x ≡ Ok a → and_then x f ≡ f a
behind_sound (Sound d) f a q = let e : d ≡ a = cc in ap f e
behind_sound (Noted c d) f a q = absurd (cc)
behind_sound (Lost c) f a q = absurd (cc)

pub behind_broken : {A C : Type 0} (x : Found A) (f : A → Found C) (b : Broken) → ended x ≡ Err b → IsSettled x → and_then x f ≡ Lost b
behind_broken (Sound d) f b q s = absurd (cc)
behind_broken (Noted c d) f b q s = absurd (cc)
behind_broken {A} {C} (Lost c) f b q s = let e : c ≡ b = cc in ap (λ (z : Broken). (let r : Found C = Lost z in r)) e

pub second_sound : {C : Type 0} (x y : Found (Unit {0})) (z : Found C) → ended (and_then x (λ u. y)) ≡ Ok tt → and_then x (λ u. and_then y (λ w. z)) ≡ z
second_sound (Sound a) (Sound b) z q = refl
second_sound (Sound a) (Noted c b) z q = absurd (cc)
second_sound (Sound a) (Lost c) z q = absurd (cc)
second_sound (Noted d a) (Sound b) z q = absurd (cc)
second_sound (Noted d a) (Noted c b) z q = absurd (cc)
second_sound (Noted d a) (Lost c) z q = absurd (cc)
second_sound (Lost d) y z q = absurd (cc)

pub second_broken : {C : Type 0} (x y : Found (Unit {0})) (z : Found C) (b : Broken) → ended (and_then x (λ u. y)) ≡ Err b → IsSettled x → IsSettled y
    → and_then x (λ u. and_then y (λ w. z)) ≡ Lost b
second_broken (Sound a) y z b q s t = behind_broken y (λ w. z) b q t
second_broken (Noted d a) y z b q s t = absurd (cc)
second_broken {C} (Lost d) y z b q s t = let e : d ≡ b = cc in ap (λ (k : Broken). (let r : Found C = Lost k in r)) e
