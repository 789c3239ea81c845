-- The first entry of a name counts, whatever stands behind it.
use Rattle.std.proofs.Common.{◌≡◌, ℕ, ◌+◌, List, [], ◌∷◌, ◌++◌, drop, slice_get, Option, Some, None, Bool, true, false, if◌then◌else◌, bytes_eq, refl, sym, ap, subst, ◌∙◌}
use Rattle.std.proofs.lemmas.List.{drop_more}
use Rattle.std.proofs.lemmas.List.Folds.{find-append}
use Rattle.std.proofs.lemmas.Option.{get_or_from_slice_get, slice_get_within}
use Rattle.std.proofs.lemmas.Slice.Eq.{bytes_eq-Decides}
use Rattle.std.specs.List.{find}
use Rattle.std.specs.Option.{option_map, option_or}
use Rattle.gpi.specs.declared.design.Spot.{Spot}
use Rattle.py_evaluate.specs.Attribute.Look.{spot_of}

abbrev Meant : Type 0
Meant = List ℕ × Spot

either : (a b : Option Meant) → option_map (λ (c : Meant). c.1) (option_or a b) ≡ option_or (option_map (λ (c : Meant). c.1) a) (option_map (λ (c : Meant). c.1) b)
either None b = refl
either (Some m) b = refl

pub joined : (xs ys : List Meant) (n : List ℕ) → spot_of (xs ++ ys) n ≡ option_or (spot_of xs n) (spot_of ys n)
joined xs ys n =
    let is : Meant → Bool = λ c. bytes_eq c.0 n in
    ap (λ (o : Option Meant). option_map (λ (c : Meant). c.1) o) (find-append is xs ys) ∙ either (find is xs) (find is ys)

pub or_none : (o : Option Spot) → option_or o None ≡ o
or_none None = refl
or_none (Some x) = refl

or_assoc : (a b c : Option Spot) → option_or (option_or a b) c ≡ option_or a (option_or b c)
or_assoc None b c = refl
or_assoc (Some x) b c = refl

kept : (s : List Meant) (k n : List ℕ) (x y : Spot) (b : Bool) → bytes_eq k n ≡ b → spot_of s k ≡ Some y
    → spot_of s n ≡ option_or (spot_of s n) (option_map (λ (c : Meant). c.1) (if b then Some (k, x) else None))
kept s k n x y true p h =
    let e : spot_of s n ≡ Some y = ap (spot_of s) (sym ((bytes_eq-Decides k n).0 p)) ∙ h in
    subst (λ (o : Option Spot). o ≡ option_or o (Some x)) (sym e) refl
kept s k n x y false p h = sym (or_none (spot_of s n))

-- a name that is declared keeps what it means
pub note_known : (s : List Meant) (k : List ℕ) (x y : Spot) → spot_of s k ≡ Some y → (n : List ℕ) → spot_of s n ≡ option_or (spot_of s n) (spot_of ((k, x) ∷ []) n)
note_known s k x y h n = kept s k n x y (bytes_eq k n) refl h

-- one that isn't gets it
pub note_new : (old new : List Meant) (k : List ℕ) (x : Spot) → new ≡ old ++ (k, x) ∷ [] → (n : List ℕ) → spot_of new n ≡ option_or (spot_of old n) (spot_of ((k, x) ∷ []) n)
note_new old new k x h n = ap (λ (s : List Meant). spot_of s n) h ∙ joined old ((k, x) ∷ []) n

-- ---- the names so far, and those that are left

abbrev pub SoFar : List Meant → List Meant → ℕ → Type 0
SoFar names children at = (n : List ℕ) → option_or (spot_of names n) (spot_of (drop at children) n) ≡ spot_of children n

pub one_more : (old new children : List Meant) (at : ℕ) (m : Meant) → slice_get children at ≡ Some m
    → ((n : List ℕ) → spot_of new n ≡ option_or (spot_of old n) (spot_of (m ∷ []) n)) → SoFar old children at → SoFar new children (at + 1)
one_more old new children at m h g so n =
    let rest : List Meant = drop (at + 1) children in
    let first : drop at children ≡ m ∷ rest =
    drop_more children at m (slice_get_within children at m h) ∙ ap (λ (c : Meant). c ∷ rest) (get_or_from_slice_get children at m m h) in
    ap (λ (o : Option Spot). option_or o (spot_of rest n)) (g n) ∙ or_assoc (spot_of old n) (spot_of (m ∷ []) n) (spot_of rest n)
    ∙ ap (λ (o : Option Spot). option_or (spot_of old n) o) (sym (joined (m ∷ []) rest n) ∙ ap (λ (s : List Meant). spot_of s n) (sym first)) ∙ so n
