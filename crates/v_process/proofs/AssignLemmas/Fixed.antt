-- Where no rule is broken in a name that is assigned continuously, all that its selects name are constants.
use Rattle.std.proofs.Common.{◌≡◌, ℕ, ◌&&◌, List, Bool, true, false, Option, Some, None, refl, nat_le, nat_lt}
use Rattle.four_value.specs.declared.Digit.{Digit}
use Rattle.four_value.specs.Vector.{number}
use Rattle.v_syntax.specs.ExpressionTrees.{Tree, SelectsTree, Whole, One, OfWord, SelectTree, Bit, Part, IndexedPart, first_at}
use Rattle.v_flat.specs.declared.scope.rule.ElabRule.{ElabRule}
use Rattle.v_flat.specs.declared.scope.rule.ElabRule.TheVariants as rule
use Rattle.v_flat.specs.declared.scope.found.Found.{Found}
use Rattle.v_flat.specs.declared.scope.found.Found.TheVariants.{Sound, Noted, Lost}
use Rattle.v_flat.specs.Scope.Found.{each, both, followed, and_then, settled, needs, broken, Holds}
use Rattle.v_flat.specs.Scope.Limits.{most_digits}
use Rattle.v_flat.specs.declared.scope.meaning.Bounds.{Bounds}
use Rattle.v_flat.specs.declared.scope.meaning.Meaning.{Meaning}
use Rattle.v_flat.specs.Scope.Scope.{Scope, width_of, span}
use Rattle.v_flat.proofs.ScopeLemmas.Gathered.{holds_so}
use Rattle.v_flat.specs.Objects.{Nature, Unknown, NoConstant, Vector, Memory, nature_of}
use Rattle.v_flat.specs.Expressions.{number_or, meaning, no_signals}
use Rattle.v_flat.specs.Checks.{made, select_made, selects_made, checked, known, known_by, constant, constant_width, index, counted, narrow, part_width, go_with, part, word, of_vector, of_memory, by_nature, select_at}
use Rattle.v_flat.specs.declared.manner.Manner.TheVariants.{Continuous}
use Rattle.v_flat.specs.Targets.{fits, named_target}
use Rattle.v_flat.proofs.Holds.{holds_needs, holds_any}

-- it is so of the value, and there is a value only where no rule is broken
abbrev pub Settles : {A : Type 0} → (A → Type 0) → Found A → Type 0
Settles P (Sound a) = P a
Settles P (Noted b a) = ⊥
Settles P (Lost b) = Unit {0}

settles_each : {A B : Type 0} (P : A → Type 0) (Q : B → Type 0) (f : A → B) (x : Found A) → Settles P x → ((a : A) → P a → Q (f a)) → Settles Q (each f x)
settles_each P Q f (Sound a) h k = k a h
settles_each P Q f (Noted b a) h k = absurd h
settles_each P Q f (Lost b) h k = tt

settles_followed : {A B : Type 0} (P : A → Type 0) (Q : B → Type 0) (x : Found A) (y : Found B) → Settles P x → Settles Q y
    → Settles (λ (p : A × B). P p.0 × Q p.1) (followed x y)
settles_followed P Q (Sound a) (Sound b) h k = (h, k)
settles_followed P Q (Sound a) (Noted c b) h k = absurd k
settles_followed P Q (Sound a) (Lost c) h k = tt
settles_followed P Q (Noted c a) y h k = absurd h
settles_followed P Q (Lost c) y h k = tt

settles_both : {A B : Type 0} (P : A → Type 0) (Q : B → Type 0) (x : Found A) (y : Found B) → Settles P x → Settles Q y
    → Settles (λ (p : A × B). P p.0 × Q p.1) (both x y)
settles_both P Q (Sound a) (Sound b) h k = (h, k)
settles_both P Q (Sound a) (Noted c b) h k = absurd k
settles_both P Q (Sound a) (Lost c) h k = tt
settles_both P Q (Noted c a) y h k = absurd h
settles_both P Q (Lost c) (Sound b) h k = tt
settles_both P Q (Lost c) (Noted d b) h k = absurd k
settles_both P Q (Lost c) (Lost d) h k = tt

settles_then : {A B : Type 0} (P : A → Type 0) (Q : B → Type 0) (x : Found A) (f : A → Found B) → Settles P x → ((a : A) → P a → Settles Q (f a)) → Settles Q (and_then x f)
settles_then P Q (Sound a) f h k = k a h
settles_then P Q (Noted b a) f h k = absurd h
settles_then P Q (Lost b) f h k = tt

settles_needs : {A : Type 0} (P : A → Type 0) (ok : Bool) (r : ElabRule) (p : ℕ) (x : Found A) → Settles P x → Settles P (needs ok r p x)
settles_needs P true r p x h = h
settles_needs P false r p (Sound a) h = tt
settles_needs P false r p (Noted b a) h = tt
settles_needs P false r p (Lost b) h = tt

settles_settled : {A : Type 0} (P : A → Type 0) (x : Found A) → Holds P x → Settles P (settled x)
settles_settled P (Sound a) h = h
settles_settled P (Noted b a) h = tt
settles_settled P (Lost b) h = tt

never_settles : {A B : Type 0} (P : A → Type 0) (Q : B → Type 0) (x : Found A) (r : ElabRule) (p : ℕ) → Settles P x → Settles Q (and_then x (λ a. broken r p))
never_settles P Q x r p h = settles_then P Q x (λ a. broken r p) h (λ a k. tt)

-- ---- constants

known_settles : (p : ℕ) (P : List Digit → Type 0) (ds : List Digit) (o : Option ℕ) → P ds → Settles P (known_by p ds o)
known_settles p P ds None h = tt
known_settles p P ds (Some n) h = h

made_width : (s : Scope) (e : Tree) → Settles (λ (w : ℕ). made s e ≡ true) (constant_width s e (checked s e))
made_width s e =
    settles_settled (λ (w : ℕ). made s e ≡ true) (needs (made s e) rule.NotConstant (first_at e) (checked s e))
    (holds_needs (λ (w : ℕ). made s e ≡ true) (made s e) rule.NotConstant (first_at e) (checked s e)
    (λ ok. holds_so (λ (w : ℕ). Unit {0}) (λ (w : ℕ). made s e ≡ true) (checked s e) (holds_any (checked s e)) (λ w k. ok)))

made_constant : (s : Scope) (e : Tree) → Settles (λ (ds : List Digit). made s e ≡ true) (constant s e (checked s e))
made_constant s e =
    settles_then (λ (w : ℕ). made s e ≡ true) (λ (ds : List Digit). made s e ≡ true) (constant_width s e (checked s e))
    (λ (w : ℕ). known (first_at e) (meaning s e w no_signals)) (made_width s e)
    (λ w h. known_settles (first_at e) (λ (ds : List Digit). made s e ≡ true) (meaning s e w no_signals) (number (meaning s e w no_signals)) h)

made_index : (s : Scope) (e : Tree) → Settles (λ (u : Unit {0}). made s e ≡ true) (index true s e (checked s e))
made_index s e = settles_each (λ (ds : List Digit). made s e ≡ true) (λ (u : Unit {0}). made s e ≡ true) (λ ds. tt) (constant s e (checked s e)) (made_constant s e) (λ ds h. h)

-- ---- selects

pub first_of_both : (a b : Bool) → (a && b) ≡ true → a ≡ true
first_of_both true b h = refl
first_of_both false b h = h

pub second_of_both : (a b : Bool) → (a && b) ≡ true → b ≡ true
second_of_both true b h = h
second_of_both false b h = absurd (cc)

both_true : (a b : Bool) → a ≡ true → b ≡ true → (a && b) ≡ true
both_true true b h k = k
both_true false b h k = h

narrow_settles : (P : Type 0) (p w : ℕ) → P → Settles (λ (n : ℕ). P) (narrow p w)
narrow_settles P p w h = settles_needs (λ (n : ℕ). P) (nat_le w most_digits) rule.TooWide p (Sound w) h

range_settles : (P : Type 0) (p name : ℕ) (b : Bounds) (i j : ℕ) → P → Settles (λ (n : ℕ). P) (part_width p name b i j)
range_settles P p name b i j h = settles_needs (λ (n : ℕ). P) (go_with b i j) rule.BadRange p (narrow name (span i j)) (narrow_settles P name (span i j) h)

counted_settles : (P : Type 0) (p : ℕ) (ds : List Digit) → P → Settles (λ (n : ℕ). P) (counted p ds)
counted_settles P p ds h = settles_needs (λ (n : ℕ). P) (nat_lt 0 (number_or (number ds))) rule.BadRange p (Sound (number_or (number ds))) h

made_part : (s : Scope) (p : ℕ) (b : Bounds) (sel : SelectTree) → Settles (λ (w : ℕ). select_made s sel ≡ true) (part true s p b sel)
made_part s p b (Bit q i) =
    settles_each (λ (u : Unit {0}). made s i ≡ true) (λ (w : ℕ). made s i ≡ true) (λ (u : Unit {0}). 1) (index true s i (checked s i)) (made_index s i) (λ u h. h)
made_part s p b (Part q l r) =
    settles_then (λ (x : List Digit × List Digit). (made s l ≡ true) × (made s r ≡ true)) (λ (w : ℕ). (made s l && made s r) ≡ true)
    (both (constant s l (checked s l)) (constant s r (checked s r)))
    (λ (x : List Digit × List Digit). part_width q p b (number_or (number x.0)) (number_or (number x.1)))
    (settles_both (λ (ds : List Digit). made s l ≡ true) (λ (ds : List Digit). made s r ≡ true) (constant s l (checked s l)) (constant s r (checked s r)) (made_constant s l) (made_constant s r))
    (λ x h. range_settles ((made s l && made s r) ≡ true) q p b (number_or (number x.0)) (number_or (number x.1)) (both_true (made s l) (made s r) h.0 h.1))
made_part s p b (IndexedPart q c n) =
    settles_each (λ (x : Unit {0} × ℕ). (made s c ≡ true) × (made s n ≡ true)) (λ (w : ℕ). (made s c && made s n) ≡ true) (λ (x : Unit {0} × ℕ). x.1)
    (followed (index true s c (checked s c)) (and_then (constant s n (checked s n)) (λ (ds : List Digit). and_then (counted (first_at n) ds) (narrow p))))
    (settles_followed (λ (u : Unit {0}). made s c ≡ true) (λ (w : ℕ). made s n ≡ true) (index true s c (checked s c))
    (and_then (constant s n (checked s n)) (λ (ds : List Digit). and_then (counted (first_at n) ds) (narrow p))) (made_index s c)
    (settles_then (λ (ds : List Digit). made s n ≡ true) (λ (w : ℕ). made s n ≡ true) (constant s n (checked s n))
    (λ (ds : List Digit). and_then (counted (first_at n) ds) (narrow p)) (made_constant s n)
    (λ ds h. settles_then (λ (w : ℕ). made s n ≡ true) (λ (w : ℕ). made s n ≡ true) (counted (first_at n) ds) (narrow p) (counted_settles (made s n ≡ true) (first_at n) ds h)
    (λ w k. narrow_settles (made s n ≡ true) p w k))))
    (λ x h. both_true (made s c) (made s n) h.0 h.1)

made_vector : (s : Scope) (p : ℕ) (b : Bounds) (sel : SelectsTree) → Settles (λ (w : ℕ). selects_made s sel ≡ true) (of_vector true s p b sel)
made_vector s p b Whole = refl
made_vector s p b (One sel) = made_part s p b sel
made_vector s p b (OfWord q i sel) =
    never_settles (λ (u : Unit {0}). made s i ≡ true) (λ (w : ℕ). (made s i && select_made s sel) ≡ true) (index true s i (checked s i)) rule.BadRange (select_at sel) (made_index s i)

made_word : (s : Scope) (b : Bounds) (sel : SelectTree) → Settles (λ (w : ℕ). select_made s sel ≡ true) (word true s b sel)
made_word s b (Bit q i) =
    settles_each (λ (u : Unit {0}). made s i ≡ true) (λ (w : ℕ). made s i ≡ true) (λ (u : Unit {0}). width_of b) (index true s i (checked s i)) (made_index s i) (λ u h. h)
made_word s b (Part q l r) = tt
made_word s b (IndexedPart q c n) = tt

made_memory : (s : Scope) (p : ℕ) (b : Bounds) (sel : SelectsTree) → Settles (λ (w : ℕ). selects_made s sel ≡ true) (of_memory true s p b sel)
made_memory s p b Whole = tt
made_memory s p b (One sel) = made_word s b sel
made_memory s p b (OfWord q i sel) =
    settles_each (λ (x : Unit {0} × ℕ). (made s i ≡ true) × (select_made s sel ≡ true)) (λ (w : ℕ). (made s i && select_made s sel) ≡ true) (λ (x : Unit {0} × ℕ). x.1)
    (followed (index true s i (checked s i)) (part true s p b sel))
    (settles_followed (λ (u : Unit {0}). made s i ≡ true) (λ (w : ℕ). select_made s sel ≡ true) (index true s i (checked s i)) (part true s p b sel) (made_index s i) (made_part s p b sel))
    (λ x h. both_true (made s i) (select_made s sel) h.0 h.1)

made_nature : (s : Scope) (p : ℕ) (sel : SelectsTree) (n : Nature)
    → Settles (λ (w : ℕ). selects_made s sel ≡ true) (by_nature p n (λ b. of_vector true s p b sel) (λ b. of_memory true s p b sel))
made_nature s p sel Unknown = tt
made_nature s p sel NoConstant = tt
made_nature s p sel (Vector b) = made_vector s p b sel
made_nature s p sel (Memory b) = made_memory s p b sel

pub made_named : (s : Scope) (p : ℕ) (sel : SelectsTree) (x : Option Meaning) → Settles (λ (w : ℕ). selects_made s sel ≡ true) (named_target Continuous s p sel x)
made_named s p sel x = settles_needs (λ (w : ℕ). selects_made s sel ≡ true) (fits Continuous x) rule.BadTarget p
    (by_nature p (nature_of x) (λ b. of_vector true s p b sel) (λ b. of_memory true s p b sel)) (made_nature s p sel (nature_of x))

-- what was found settles where the widths do
pub settles_as : {A B : Type 0} (P : Type 0) (v : A → ℕ) (w : B → ℕ) (x : Found A) (y : Found B) → each v x ≡ each w y → Settles (λ (b : B). P) y → Settles (λ (a : A). P) x
settles_as P v w (Sound a) (Sound b) e h = h
settles_as P v w (Sound a) (Noted c b) e h = absurd h
settles_as P v w (Sound a) (Lost c) e h = absurd (cc)
settles_as P v w (Noted d a) (Sound b) e h = absurd (cc)
settles_as P v w (Noted d a) (Noted c b) e h = absurd h
settles_as P v w (Noted d a) (Lost c) e h = absurd (cc)
settles_as P v w (Lost d) y e h = tt
