-- Of three broken rules the same one counts, whichever two are put together first; and chains of what is asked one after the other.
use Rattle.std.proofs.Common.{◌≡◌, ℕ, ◌+◌, ◌*◌, ◌≤◌, Bool, true, false, nat_lt, refl, sym, ap, ◌∙◌, if◌then◌else◌, arith}
use Rattle.std.proofs.lemmas.Bool.Decides.{nat_tests}
use Rattle.v_flat.specs.declared.scope.rule.Broken.{Broken}
use Rattle.v_flat.specs.declared.scope.rule.ElabRule.{ElabRule}
use Rattle.v_flat.specs.declared.scope.rule.ElabRule.TheVariants as rule
use Rattle.v_flat.specs.declared.scope.found.Found.{Found}
use Rattle.v_flat.specs.declared.scope.found.Found.TheVariants.{Sound, Noted, Lost}
use Rattle.v_flat.specs.Scope.Rules.{number_of, earlier}
use Rattle.v_flat.specs.Scope.Found.{noted, lost, each, and_then}

-- ---- the rule that counts has the least key

few_rules : (r : ElabRule) → number_of r ≤ 14
few_rules rule.NoTop = omega arith
few_rules rule.UnknownModule = omega arith
few_rules rule.RecursiveInstance = omega arith
few_rules rule.DuplicateName = omega arith
few_rules rule.UnknownName = omega arith
few_rules rule.BadPort = omega arith
few_rules rule.NotConstant = omega arith
few_rules rule.BadRange = omega arith
few_rules rule.TooWide = omega arith
few_rules rule.TwoDrivers = omega arith
few_rules rule.BadTarget = omega arith
few_rules rule.LoopTooLong = omega arith
few_rules rule.TooMany = omega arith
few_rules rule.BadDelay = omega arith

unfoldable key : Broken → ℕ
key b = b.place * 15 + number_of b.rule

keyed : (a b : Broken) (p q m n : ℕ) (x y z t : Bool) → nat_lt q p ≡ x → nat_lt p q ≡ y → nat_lt n m ≡ z → nat_lt (q * 15 + n) (p * 15 + m) ≡ t → m ≤ 14 → n ≤ 14
    → (if x then b else (if y then a else (if z then b else a))) ≡ (if t then b else a)
keyed a b p q m n true y z true h i j k f g = refl
keyed a b p q m n true y z false h i j k f g = absurd (grind (arith, nat_tests))
keyed a b p q m n false true z false h i j k f g = refl
keyed a b p q m n false true z true h i j k f g = absurd (grind (arith, nat_tests))
keyed a b p q m n false false true true h i j k f g = refl
keyed a b p q m n false false false false h i j k f g = refl
keyed a b p q m n false false true false h i j k f g = absurd (grind (arith, nat_tests))
keyed a b p q m n false false false true h i j k f g = absurd (grind (arith, nat_tests))

by_key : (a b : Broken) → earlier a b ≡ (if nat_lt (key b) (key a) then b else a)
unfolding key
by_key a b = keyed a b a.place b.place (number_of a.rule) (number_of b.rule) (nat_lt b.place a.place) (nat_lt a.place b.place) (nat_lt (number_of b.rule) (number_of a.rule))
    (nat_lt (b.place * 15 + number_of b.rule) (a.place * 15 + number_of a.rule)) refl refl refl refl (few_rules a.rule) (few_rules b.rule)

-- a by b, c by b, and c by a
three_by : (a b c : Broken) (k l m : ℕ) (x y z : Bool) → nat_lt l k ≡ x → nat_lt m l ≡ y → nat_lt m k ≡ z
    → (if (if y then z else x) then (if y then c else b) else a) ≡ (if (if x then y else z) then c else (if x then b else a))
three_by a b c k l m true true true p q r = refl
three_by a b c k l m true true false p q r = absurd (grind (arith, nat_tests))
three_by a b c k l m true false true p q r = refl
three_by a b c k l m true false false p q r = refl
three_by a b c k l m false true true p q r = refl
three_by a b c k l m false true false p q r = refl
three_by a b c k l m false false true p q r = absurd (grind (arith, nat_tests))
three_by a b c k l m false false false p q r = refl

-- the key of a choice
chosen_key : (y : Bool) (b c : Broken) (k : ℕ) → nat_lt (key (if y then c else b)) k ≡ (if y then nat_lt (key c) k else nat_lt (key b) k)
chosen_key true b c k = refl
chosen_key false b c k = refl

key_chosen : (x : Bool) (a b : Broken) (k : ℕ) → nat_lt k (key (if x then b else a)) ≡ (if x then nat_lt k (key b) else nat_lt k (key a))
key_chosen true a b k = refl
key_chosen false a b k = refl

pub earliest : (a b c : Broken) → earlier a (earlier b c) ≡ earlier (earlier a b) c
earliest a b c =
    ap (λ (d : Broken). earlier a d) (by_key b c)
    ∙ by_key a (if nat_lt (key c) (key b) then c else b)
    ∙ ap (λ (t : Bool). if t then (if nat_lt (key c) (key b) then c else b) else a) (chosen_key (nat_lt (key c) (key b)) b c (key a))
    ∙ three_by a b c (key a) (key b) (key c) (nat_lt (key b) (key a)) (nat_lt (key c) (key b)) (nat_lt (key c) (key a)) refl refl refl
    ∙ ap (λ (t : Bool). if t then c else (if nat_lt (key b) (key a) then b else a)) (sym (key_chosen (nat_lt (key b) (key a)) a b (key c)))
    ∙ sym (by_key (if nat_lt (key b) (key a) then b else a) c)
    ∙ ap (λ (d : Broken). earlier d c) (sym (by_key a b))

-- ---- chains

noted_twice : {A : Type 0} (b c : Broken) (x : Found A) → noted b (noted c x) ≡ noted (earlier b c) x
noted_twice b c (Sound a) = refl
noted_twice {A} b c (Noted d a) = ap (λ (e : Broken). (let r : Found A = Noted e a in r)) (earliest b c d)
noted_twice {A} b c (Lost d) = ap (λ (e : Broken). (let r : Found A = Lost e in r)) (earliest b c d)

noted_then : {A B : Type 0} (b : Broken) (x : Found A) (f : A → Found B) → and_then (noted b x) f ≡ noted b (and_then x f)
noted_then b (Sound a) f = refl
noted_then b (Noted c a) f = sym (noted_twice b c (f a))
noted_then b (Lost c) f = refl

then_then : {A B C : Type 0} (x : Found A) (f : A → Found B) (g : B → Found C) → and_then (and_then x f) g ≡ and_then x (λ a. and_then (f a) g)
then_then (Sound a) f g = refl
then_then (Noted b a) f g = noted_then b (f a) g
then_then (Lost b) f g = refl

-- a chain with one link done
pub one_link : {A B C : Type 0} (x : Found A) (y : Found B) (f : A → Found B) (g : B → Found C) (whole : Found C) → y ≡ and_then x f
    → and_then x (λ a. and_then (f a) g) ≡ whole → and_then y g ≡ whole
one_link {A} {B} {C} x y f g whole h k = ap (λ (z : Found B). and_then z g) h ∙ then_then x f g ∙ k

pub last_link : {A : Type 0} (x : Found A) → and_then x (λ (a : A). (let r : Found A = Sound a in r)) ≡ x
last_link (Sound a) = refl
last_link (Noted b a) = refl
last_link (Lost b) = refl

-- ---- without a value

pub lost_each : {A B : Type 0} (f : A → B) (b : Broken) (x : Found A) → (let r : Found B = lost b x in r) ≡ lost b (each f x)
lost_each f b (Sound a) = refl
lost_each f b (Noted c a) = refl
lost_each f b (Lost c) = refl
