-- What a part of a text gives: its value, or the first rule that is broken in it. Inside of one item all broken rules are
-- gathered, and the earliest counts; between items the first one that has a broken rule ends the walk.
use Rattle.std.specs.Prelude.{◌≡◌, ℕ, Bool, true, false, Result, Ok, Err}
use Rattle.v_flat.specs.declared.scope.rule.Broken.{Broken}
use Rattle.v_flat.specs.declared.scope.rule.ElabRule.{ElabRule}
pub use Rattle.v_flat.specs.declared.scope.found.Found.{Found}
pub use Rattle.v_flat.specs.declared.scope.found.Found.TheVariants.{Sound, Noted, Lost}
use Rattle.v_flat.specs.Scope.Rules.{earlier, at}

-- a rule is broken too
abbrev pub noted : {A : Type 0} → Broken → Found A → Found A
noted b (Sound a) = Noted b a
noted b (Noted c a) = Noted (earlier b c) a
noted b (Lost c) = Lost (earlier b c)

-- a rule is broken too, and without it there is no value
abbrev pub lost : {A B : Type 0} → Broken → Found A → Found B
lost b (Sound a) = Lost b
lost b (Noted c a) = Lost (earlier b c)
lost b (Lost c) = Lost (earlier b c)

-- nothing but that no rule is broken
abbrev pub fine : Found (Unit {0})
fine = Sound tt

-- what the value makes
abbrev pub each : {A B : Type 0} → (A → B) → Found A → Found B
each f (Sound a) = Sound (f a)
each f (Noted b a) = Noted b (f a)
each f (Lost b) = Lost b

-- it is so of the value, where there is one
abbrev pub ForValue : {A : Type 0} → (A → Type 0) → Found A → Type 0
ForValue P (Sound a) = P a
ForValue P (Noted b a) = P a
ForValue P (Lost b) = Unit {0}

-- the same rule is broken first, and each value was made of the other
abbrev pub EachIs : {A B : Type 0} → (A → B → Type 0) → Found A → Found B → Type 0
EachIs P (Sound a) (Sound b) = P a b
EachIs P (Sound a) (Noted y b) = ⊥
EachIs P (Sound a) (Lost y) = ⊥
EachIs P (Noted x a) (Noted y b) = (x ≡ y) × P a b
EachIs P (Noted x a) (Sound b) = ⊥
EachIs P (Noted x a) (Lost y) = ⊥
EachIs P (Lost x) (Lost y) = x ≡ y
EachIs P (Lost x) (Sound b) = ⊥
EachIs P (Lost x) (Noted y b) = ⊥

-- both, with all that is broken in either
abbrev pub both : {A B : Type 0} → Found A → Found B → Found (A × B)
both (Sound a) y = each (λ b. (a, b)) y
both (Noted x a) y = noted x (each (λ b. (a, b)) y)
both (Lost x) y = lost x y

-- the first and what stands behind it, which counts only where the first has a value
abbrev pub followed : {A B : Type 0} → Found A → Found B → Found (A × B)
followed (Sound a) y = each (λ b. (a, b)) y
followed (Noted x a) y = noted x (each (λ b. (a, b)) y)
followed (Lost x) y = Lost x

-- what is asked only where there is a value
abbrev pub and_then : {A B : Type 0} → Found A → (A → Found B) → Found B
and_then (Sound a) f = f a
and_then (Noted b a) f = noted b (f a)
and_then (Lost b) f = Lost b

-- the value counts only where no rule is broken
abbrev pub settled : {A : Type 0} → Found A → Found A
settled (Sound a) = Sound a
settled (Noted b a) = Lost b
settled (Lost b) = Lost b

-- there is no value, for this reason
abbrev pub broken : {A : Type 0} → ElabRule → ℕ → Found A
broken r p = Lost (at r p)

-- the rule holds only where the test does
abbrev pub wants : {A : Type 0} → Bool → ElabRule → ℕ → Found A → Found A
wants true r p x = x
wants false r p x = noted (at r p) x

-- the same, and without it there is no value
abbrev pub needs : {A : Type 0} → Bool → ElabRule → ℕ → Found A → Found A
needs true r p x = x
needs false r p x = lost (at r p) x

-- the end of an item
abbrev pub ended : {A : Type 0} → Found A → Result A Broken
ended (Sound a) = Ok a
ended (Noted b a) = Err b
ended (Lost b) = Err b

-- the next item
abbrev pub next : {A B : Type 0} → Result A Broken → (A → Result B Broken) → Result B Broken
next (Ok a) f = f a
next (Err b) f = Err b

-- it is so of the value, where no rule is broken
abbrev pub Holds : {A : Type 0} → (A → Type 0) → Found A → Type 0
Holds P (Sound a) = P a
Holds P (Noted b a) = Unit {0}
Holds P (Lost b) = Unit {0}

abbrev pub HoldsOk : {A : Type 0} → (A → Type 0) → Result A Broken → Type 0
HoldsOk P (Ok a) = P a
HoldsOk P (Err b) = Unit {0}
