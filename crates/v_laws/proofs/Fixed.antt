-- Where no rule is broken in a name that is assigned continuously, what its selects choose is the same on every map.
use Rattle.std.proofs.Common.{◌≡◌, ℕ, ◌&&◌, ◌∙◌, List, Bool, true, false, Option, Some, None, refl, ap}
use Rattle.four_value.specs.declared.Digit.{Digit}
use Rattle.four_value.specs.Vector.{number}
use Rattle.v_syntax.specs.ExpressionTrees.{Tree, SelectsTree, Whole, One, OfWord, SelectTree, Bit, Part, IndexedPart, first_at}
use Rattle.v_flat.specs.declared.scope.rule.ElabRule.TheVariants as rule
use Rattle.v_flat.specs.declared.scope.found.Found.{Found}
use Rattle.v_flat.specs.declared.scope.found.Found.TheVariants.{Sound, Noted, Lost}
use Rattle.v_flat.specs.Scope.Found.{Holds, and_then, both, broken, followed, needs, settled}
use Rattle.v_flat.specs.declared.scope.meaning.Bounds.{Bounds}
use Rattle.v_flat.specs.declared.scope.meaning.DataObject.{DataObject}
use Rattle.v_flat.specs.declared.scope.meaning.Meaning.TheVariants.{Object}
use Rattle.v_flat.specs.Scope.Scope.{Scope}
use Rattle.v_flat.specs.Objects.{nature_of, nature_of_object}
use Rattle.v_flat.specs.Expressions.{Values, lesser, meaning, no_signals, number_or, select_base, width}
use Rattle.v_flat.specs.Checks.{by_nature, checked, constant, constant_width, counted, index, known, made, narrow, of_memory, of_vector, part, part_width, select_at, select_made}
use Rattle.v_flat.specs.declared.manner.Manner.TheVariants.{Continuous}
use Rattle.v_flat.specs.Targets.{fits, named_target}
use Rattle.v_check.proofs.ConstantsLemmas.Unsignalled.{one_meaning}
use Rattle.v_flat.proofs.Holds.{holds_any, holds_both, holds_each, holds_followed, holds_needs, holds_then}

-- it is so wherever there is a value
pub holds_all : {A : Type 0} (P : Type 0) (x : Found A) → P → Holds (λ (a : A). P) x
holds_all P (Sound a) h = h
holds_all P (Noted b a) h = tt
holds_all P (Lost b) h = tt

holds_settled : {A : Type 0} (P : A → Type 0) (x : Found A) → Holds P x → Holds P (settled x)
holds_settled P (Sound a) h = h
holds_settled P (Noted b a) h = tt
holds_settled P (Lost b) h = tt

abbrev pub IsMade : Scope → Tree → Type 0
IsMade s e = made s e ≡ true

made_width : (s : Scope) (e : Tree) → Holds (λ (w : ℕ). IsMade s e) (constant_width s e (checked s e))
made_width s e =
    holds_settled (λ (w : ℕ). IsMade s e) (needs (made s e) rule.NotConstant (first_at e) (checked s e))
    (holds_needs (λ (w : ℕ). IsMade s e) (made s e) rule.NotConstant (first_at e) (checked s e) (λ ok. holds_all (IsMade s e) (checked s e) ok))

made_constant : (s : Scope) (e : Tree) → Holds (λ (ds : List Digit). IsMade s e) (constant s e (checked s e))
made_constant s e =
    holds_then (λ (w : ℕ). IsMade s e) (λ (ds : List Digit). IsMade s e) (constant_width s e (checked s e)) (λ (w : ℕ). known (first_at e) (meaning s e w no_signals)) (made_width s e)
    (λ w h. holds_all (IsMade s e) (known (first_at e) (meaning s e w no_signals)) h)

pub made_index : (s : Scope) (e : Tree) → Holds (λ (u : Unit {0}). IsMade s e) (index true s e (checked s e))
made_index s e = holds_each (λ (ds : List Digit). IsMade s e) (λ (u : Unit {0}). IsMade s e) (λ ds. tt) (constant s e (checked s e)) (made_constant s e) (λ ds h. h)

both_true : (a b : Bool) → a ≡ true → b ≡ true → (a && b) ≡ true
both_true true b h k = k
both_true false b h k = h

pub made_part : (s : Scope) (p : ℕ) (b : Bounds) (sel : SelectTree) → Holds (λ (w : ℕ). select_made s sel ≡ true) (part true s p b sel)
made_part s p b (Bit q i) = holds_each (λ (u : Unit {0}). IsMade s i) (λ (w : ℕ). IsMade s i) (λ (u : Unit {0}). 1) (index true s i (checked s i)) (made_index s i) (λ u h. h)
made_part s p b (Part q l r) =
    holds_then (λ (x : List Digit × List Digit). IsMade s l × IsMade s r) (λ (w : ℕ). (made s l && made s r) ≡ true) (both (constant s l (checked s l)) (constant s r (checked s r)))
    (λ (x : List Digit × List Digit). part_width q p b (number_or (number x.0)) (number_or (number x.1)))
    (holds_both (λ (ds : List Digit). IsMade s l) (λ (ds : List Digit). IsMade s r) (constant s l (checked s l)) (constant s r (checked s r)) (made_constant s l) (made_constant s r))
    (λ x h. holds_all ((made s l && made s r) ≡ true) (part_width q p b (number_or (number x.0)) (number_or (number x.1))) (both_true (made s l) (made s r) h.0 h.1))
made_part s p b (IndexedPart q c n) =
    holds_each (λ (x : Unit {0} × ℕ). IsMade s c × IsMade s n) (λ (w : ℕ). (made s c && made s n) ≡ true) (λ (x : Unit {0} × ℕ). x.1)
    (followed (index true s c (checked s c)) (and_then (constant s n (checked s n)) (λ (ds : List Digit). and_then (counted (first_at n) ds) (narrow p))))
    (holds_followed (λ (u : Unit {0}). IsMade s c) (λ (w : ℕ). IsMade s n) (index true s c (checked s c))
    (and_then (constant s n (checked s n)) (λ (ds : List Digit). and_then (counted (first_at n) ds) (narrow p))) (made_index s c)
    (holds_then (λ (ds : List Digit). IsMade s n) (λ (w : ℕ). IsMade s n) (constant s n (checked s n)) (λ (ds : List Digit). and_then (counted (first_at n) ds) (narrow p)) (made_constant s n)
    (λ ds h. holds_all (IsMade s n) (and_then (counted (first_at n) ds) (narrow p)) h)))
    (λ x h. both_true (made s c) (made s n) h.0 h.1)

first_of_both : (a b : Bool) → (a && b) ≡ true → a ≡ true
first_of_both true b h = refl
first_of_both false b h = h

second_of_both : (a b : Bool) → (a && b) ≡ true → b ≡ true
second_of_both true b h = h
second_of_both false b h = cc

-- the least index of a select that is made of constants
pub one_base : (s : Scope) (sel : SelectTree) (m : Values) → select_made s sel ≡ true → select_base s sel m ≡ select_base s sel no_signals
one_base s (Bit p i) m h = ap number (one_meaning s i (width s i) m no_signals h)
one_base s (Part p l r) m h =
    ap (λ ds. lesser (number ds) (number (meaning s r (width s r) m))) (one_meaning s l (width s l) m no_signals (first_of_both (made s l) (made s r) h))
    ∙ ap (λ ds. lesser (number (meaning s l (width s l) no_signals)) (number ds)) (one_meaning s r (width s r) m no_signals (second_of_both (made s l) (made s r) h))
one_base s (IndexedPart p b n) m h = ap number (one_meaning s b (width s b) m no_signals (first_of_both (made s b) (made s n) h))

-- the selects of a vector are made of constants, and it has no word
abbrev pub AreFixed : Scope → SelectsTree → Type 0
AreFixed s Whole = Unit {0}
AreFixed s (One sel) = select_made s sel ≡ true
AreFixed s (OfWord p i sel) = ⊥

fixed_vector : (s : Scope) (p : ℕ) (b : Bounds) (sel : SelectsTree) → Holds (λ (w : ℕ). AreFixed s sel) (of_vector true s p b sel)
fixed_vector s p b Whole = tt
fixed_vector s p b (One sel) = made_part s p b sel
fixed_vector s p b (OfWord q i sel) =
    holds_then (λ (u : Unit {0}). Unit {0}) (λ (w : ℕ). ⊥) (index true s i (checked s i)) (λ u. broken rule.BadRange (select_at sel)) (holds_any (index true s i (checked s i))) (λ u h. tt)

fixed_nature : (s : Scope) (p : ℕ) (sel : SelectsTree) (b : Bounds) (w : Option Bounds) → w ≡ None
    → Holds (λ (n : ℕ). AreFixed s sel) (by_nature p (nature_of_object w b) (λ c. of_vector true s p c sel) (λ c. of_memory true s p c sel))
fixed_nature s p sel b None e = fixed_vector s p b sel
fixed_nature s p sel b (Some c) e = cc

pub fixed_name : (s : Scope) (p : ℕ) (sel : SelectsTree) (o : DataObject) → o.words ≡ None → Holds (λ (n : ℕ). AreFixed s sel) (named_target Continuous s p sel (Some (Object o)))
fixed_name s p sel o e =
    holds_needs (λ (n : ℕ). AreFixed s sel) (fits Continuous (Some (Object o))) rule.BadTarget p
    (by_nature p (nature_of (Some (Object o))) (λ b. of_vector true s p b sel) (λ b. of_memory true s p b sel)) (λ ok. fixed_nature s p sel o.bounds o.words e)
