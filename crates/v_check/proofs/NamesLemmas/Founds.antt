-- What was found, through the ways of putting parts together.
use Rattle.std.proofs.Common.{◌≡◌, ℕ, List, Option, Some, None, Bool, true, nat_le, refl, sym, ap, ◌∙◌}
use Rattle.four_value.specs.declared.Digit.{Digit}
use Rattle.four_value.specs.Vector.{number}
use Rattle.v_syntax.specs.ExpressionTrees.{Tree, first_at}
use Rattle.v_flat.specs.declared.scope.rule.ElabRule.TheVariants as rule
use Rattle.v_flat.specs.declared.scope.found.Found.{Found}
use Rattle.v_flat.specs.declared.scope.found.Found.TheVariants.{Sound, Noted, Lost}
use Rattle.v_flat.specs.Scope.Found.{noted, each, followed, and_then, settled, needs, Holds}
use Rattle.v_flat.specs.Scope.Scope.{Scope}
use Rattle.v_flat.proofs.ScopeLemmas.Gathered.{same_each, each_each, each_noted, each_needs, followed_each, holds_so}
use Rattle.v_flat.specs.Scope.Limits.{counted_width}
use Rattle.v_flat.proofs.ScopeLemmas.CutWidths.{fits_cut}
use Rattle.v_flat.specs.Expressions.{own_value, no_signals, meaning}
use Rattle.v_flat.specs.Checks.{made, checked, known, known_by, constant, constant_of, narrow}
use Rattle.v_flat.proofs.Holds.{holds_then, holds_settled, holds_needs}
use Rattle.v_flat.proofs.Widths.{widths_found, constant_found}

-- the second of two, where the first has no value that counts
pub second_of : {A B : Type 0} (x : Found A) (u : Found (Unit {0})) (y : Found B) (g : B → ℕ) (z : Found ℕ) → each (λ (a : A). tt) x ≡ u → each g y ≡ each counted_width z
    → each {A = A × B} (λ (p : A × B). g p.1) (followed x y) ≡ each counted_width (each {A = Unit {0} × ℕ} (λ (p : Unit {0} × ℕ). p.1) (followed u z))
second_of {A} {B} x u y g z h k =
    sym (each_each {A = A × B} {B = Unit {0} × ℕ} {C = ℕ} (λ (p : Unit {0} × ℕ). p.1) (λ (p : A × B). (tt, g p.1)) (followed x y))
    ∙ ap (λ (v : Found (Unit {0} × ℕ)). each {A = Unit {0} × ℕ} (λ (p : Unit {0} × ℕ). p.1) v)
    (sym (followed_each {A = A} {B = B} {C = Unit {0}} {D = ℕ} (λ (a : A). tt) g x y)
    ∙ ap (λ (v : Found (Unit {0})). followed v (each g y)) h
    ∙ ap (λ (v : Found ℕ). followed u v) k
    ∙ ap (λ (v : Found (Unit {0})). followed v (each counted_width z)) (sym (same_each u))
    ∙ followed_each {A = Unit {0}} {B = ℕ} {C = Unit {0}} {D = ℕ} (λ (a : Unit {0}). a) counted_width u z)
    ∙ each_each {A = Unit {0} × ℕ} {B = Unit {0} × ℕ} {C = ℕ} (λ (p : Unit {0} × ℕ). p.1) (λ (p : Unit {0} × ℕ). (p.0, counted_width p.1)) (followed u z)
    ∙ sym (each_each {A = Unit {0} × ℕ} {B = ℕ} {C = ℕ} counted_width (λ (p : Unit {0} × ℕ). p.1) (followed u z))

pub holds_so_too : {A : Type 0} (P Q : A → Type 0) (x : Found A) → Holds P x → Holds Q x → Holds (λ (a : A). P a × Q a) x
holds_so_too P Q (Sound a) h k = (h, k)
holds_so_too P Q (Noted b a) h k = tt
holds_so_too P Q (Lost b) h k = tt

pub holds_always : {A : Type 0} (P : Type 0) (x : Found A) → P → Holds (λ (a : A). P) x
holds_always P (Sound a) h = h
holds_always P (Noted b a) h = tt
holds_always P (Lost b) h = tt

-- a value that is found is that of an expression made of constants
constant_made : (s : Scope) (e : Tree) (x : Found ℕ) → Holds (λ (ds : List Digit). made s e ≡ true) (constant s e x)
constant_made s e x =
    holds_then (λ (w : ℕ). made s e ≡ true) (λ (ds : List Digit). made s e ≡ true) (settled (needs (made s e) rule.NotConstant (first_at e) x)) (λ w. known (first_at e) (meaning s e w no_signals))
    (holds_settled (λ (w : ℕ). made s e ≡ true) (needs (made s e) rule.NotConstant (first_at e) x)
    (holds_needs (λ (w : ℕ). made s e ≡ true) (made s e) rule.NotConstant (first_at e) x (λ k. holds_always (made s e ≡ true) x k)))
    (λ w k. holds_always (made s e ≡ true) (known (first_at e) (meaning s e w no_signals)) k)

-- and its digits are the value on no signals
pub record IsValue (s : Scope) (e : Tree) (ds : List Digit) : Type 0 where
  pub made_of : made s e ≡ true
  pub value : own_value s e no_signals ≡ ds

pub constant_is : (s : Scope) (e : Tree) → Holds (λ (ds : List Digit). IsValue s e ds) (constant_of s e)
constant_is s e = holds_so (λ (ds : List Digit). (made s e ≡ true) × (own_value s e no_signals ≡ ds)) (λ (ds : List Digit). IsValue s e ds) (constant_of s e)
    (holds_so_too (λ (ds : List Digit). made s e ≡ true) (λ (ds : List Digit). own_value s e no_signals ≡ ds) (constant_of s e) (constant_made s e (checked s e))
    (constant_found s e (checked s e) (widths_found s e)))
    (λ ds h. record { made_of = h.0; value = h.1 })

-- what was settled is sound or lost, and then it doesn't matter how what follows is put together
known_then : {B : Type 0} (p : ℕ) (ds : List Digit) (n : Option ℕ) (f : List Digit → Found ℕ) (g : ℕ → Found B)
    → and_then (and_then (known_by p ds n) f) g ≡ and_then (known_by p ds n) (λ es. and_then (f es) g)
known_then p ds None f g = refl
known_then p ds (Some n) f g = refl

settled_then : {B : Type 0} (p : ℕ) (v : ℕ → List Digit) (x : Found ℕ) (f : List Digit → Found ℕ) (g : ℕ → Found B)
    → and_then (and_then (and_then (settled x) (λ w. known p (v w))) f) g ≡ and_then (and_then (settled x) (λ w. known p (v w))) (λ es. and_then (f es) g)
settled_then p v (Sound w) f g = known_then p (v w) (number (v w)) f g
settled_then p v (Noted b w) f g = refl
settled_then p v (Lost b) f g = refl

pub constant_then : {B : Type 0} (s : Scope) (e : Tree) (f : List Digit → Found ℕ) (g : ℕ → Found B)
    → and_then (and_then (constant_of s e) f) g ≡ and_then (constant_of s e) (λ es. and_then (f es) g)
constant_then s e f g = settled_then (first_at e) (λ w. meaning s e w no_signals) (needs (made s e) rule.NotConstant (first_at e) (checked s e)) f g

-- ---- widths that are cut

narrow_one : (p w : ℕ) → narrow p (counted_width w) ≡ each counted_width (narrow p w)
narrow_one p w = ap (λ (ok : Bool). needs ok rule.TooWide p (let r : Found ℕ = Sound (counted_width w) in r)) (fits_cut w)
    ∙ sym (each_needs counted_width (nat_le w 128) rule.TooWide p (Sound w))

pub narrow_counted : (p : ℕ) (x : Found ℕ) → and_then (each counted_width x) (narrow p) ≡ each counted_width (and_then x (narrow p))
narrow_counted p (Sound w) = narrow_one p w
narrow_counted p (Noted b w) = ap (λ (y : Found ℕ). noted b y) (narrow_one p w) ∙ sym (each_noted counted_width b (narrow p w))
narrow_counted p (Lost b) = refl
