-- A declaration puts what was found of the name in its place.
use Rattle.std.proofs.Common.{◌≡◌, ℕ, ◌&&◌, List, [], ◌∷◌, ◌++◌, Option, Some, None, is_none, Bool, true, false, refl, sym, ◌∙◌, ap, arith}
use Rattle.v_syntax.specs.declared.statement.Identifier.{Identifier}
use Rattle.v_syntax.specs.SourceTrees.{RangeTree}
use Rattle.v_flat.specs.declared.scope.rule.ElabRule.TheVariants as rule
use Rattle.v_flat.specs.declared.scope.found.Found.{Found}
use Rattle.v_flat.specs.declared.scope.found.Found.TheVariants.{Sound, Noted, Lost}
use Rattle.v_flat.specs.Scope.Rules.{at}
use Rattle.v_flat.specs.Scope.Found.{lost, each, and_then, wants, needs}
use Rattle.v_flat.proofs.ScopeLemmas.Gathered.{each_wants, each_needs, each_then, then_same}
use Rattle.v_flat.specs.declared.scope.meaning.Bounds.{Bounds}
use Rattle.v_flat.specs.Declarations.{Declared, Place, is_free, is_new, are_halves, same_bounds, whole_of, find_declared, with_declared, declared_too, declare_again, declare, declare_memory, bounds_in, known_names}
use Rattle.v_layout.specs.Kept.{put_declared}
use Rattle.v_layout.specs.DeclareSteps.{may_be, has_room, first_found, again_found, either_found, name_found, memory_of, sized_found, memory_found}
use Rattle.v_flat.proofs.ScopeLemmas.Chains.{lost_each}
use Rattle.v_layout.proofs.Counts.{put_absent, put_present, found_name}

abbrev put_in : List Declared → Declared → List Declared
put_in ds x = put_declared x ds

first_is : (w : Place) (p : ℕ) (d : Declared) (ds : List Declared) → find_declared d.name ds ≡ None
    → declare_again w p d ds None ≡ each (put_in ds) (first_found w p d ds)
first_is w p d ds h =
    ap (λ (es : List Declared). wants (may_be w d) rule.BadPort p (wants (has_room w d ds) rule.TooMany p (Sound es))) (sym (put_absent d ds h))
    ∙ ap (λ (x : Found (List Declared)). wants (may_be w d) rule.BadPort p x) (sym (each_wants (put_in ds) (has_room w d ds) rule.TooMany p (Sound d)))
    ∙ sym (each_wants (put_in ds) (may_be w d) rule.BadPort p (wants (has_room w d ds) rule.TooMany p (Sound d)))

again_is : (w : Place) (p : ℕ) (d old : Declared) (ds : List Declared) → find_declared d.name ds ≡ Some old
    → declare_again w p d ds (Some old) ≡ each (put_in ds) (again_found w p old d)
again_is w p d old ds h =
    let there : find_declared old.name ds ≡ Some old = ap (λ (n : List ℕ). find_declared n ds) (found_name d.name old ds h) ∙ h in
    ap (λ (es : List Declared). needs (are_halves old d && same_bounds old.bounds d.bounds) rule.DuplicateName p (wants (may_be w (whole_of old d)) rule.BadPort p (Sound es)))
    (sym (put_present (whole_of old d) old ds there))
    ∙ ap (λ (x : Found (List Declared)). needs (are_halves old d && same_bounds old.bounds d.bounds) rule.DuplicateName p x)
    (sym (each_wants (put_in ds) (may_be w (whole_of old d)) rule.BadPort p (Sound (whole_of old d))))
    ∙ sym (each_needs (put_in ds) (are_halves old d && same_bounds old.bounds d.bounds) rule.DuplicateName p (wants (may_be w (whole_of old d)) rule.BadPort p (Sound (whole_of old d))))

either_is : (w : Place) (p : ℕ) (d : Declared) (ds : List Declared) (o : Option Declared) → find_declared d.name ds ≡ o
    → declare_again w p d ds o ≡ each (put_in ds) (either_found w p d ds o)
either_is w p d ds None h = first_is w p d ds h
either_is w p d ds (Some old) h = again_is w p d old ds h

pub declare_is : (w : Place) (p : ℕ) (d : Declared) (ds : List Declared) → declare w p d ds ≡ each (λ (x : Declared). put_declared x ds) (name_found w p d ds)
declare_is w p d ds =
    ap (λ (x : Found (List Declared)). needs (is_free d.name w.constants) rule.DuplicateName p x) (either_is w p d ds (find_declared d.name ds) refl)
    ∙ sym (each_needs (put_in ds) (is_free d.name w.constants) rule.DuplicateName p (either_found w p d ds (find_declared d.name ds)))

-- ---- memories

abbrev last_in : List Declared → Declared → List Declared
last_in ds x = ds ++ (x ∷ [])

all_sized : (f : Declared → List Declared) (w : Place) (p : ℕ) (b : Bounds) (n : List ℕ) (ds : List Declared) (x : Found Bounds)
    → and_then x (λ (y : Bounds). wants (has_room w (memory_of b n y) ds) rule.TooMany p (Sound (f (memory_of b n y)))) ≡ each f (sized_found w p b n ds x)
all_sized f w p b n ds x =
    then_same (λ (y : Bounds). wants (has_room w (memory_of b n y) ds) rule.TooMany p (Sound (f (memory_of b n y))))
    (λ (y : Bounds). each f (wants (has_room w (memory_of b n y) ds) rule.TooMany p (Sound (memory_of b n y)))) x
    (λ y. sym (each_wants f (has_room w (memory_of b n y) ds) rule.TooMany p (Sound (memory_of b n y))))
    ∙ sym (each_then f (λ (y : Bounds). wants (has_room w (memory_of b n y) ds) rule.TooMany p (Sound (memory_of b n y))) x)

second_of : (a b : Bool) → (a && b) ≡ true → b ≡ true
second_of true b h = h
second_of false b h = absurd (cc)

none_so : (o : Option Declared) → is_none o ≡ true → o ≡ None
none_so None h = refl
none_so (Some x) h = absurd (cc)

new_is : (w : Place) (b : Bounds) (i : Identifier) (ds : List Declared) (x : Found Bounds) (new : Bool) → is_new i.name w ds ≡ new
    → needs new rule.DuplicateName i.at (and_then x (λ (y : Bounds). declared_too w i.at (memory_of b i.name y) ds))
    ≡ each (put_in ds) (needs new rule.DuplicateName i.at (sized_found w i.at b i.name ds x))
new_is w b i ds x true h =
    let none = none_so (find_declared i.name ds) (second_of (is_free i.name w.constants) (is_none (find_declared i.name ds)) h) in
    then_same (λ (y : Bounds). declared_too w i.at (memory_of b i.name y) ds)
    (λ (y : Bounds). wants (has_room w (memory_of b i.name y) ds) rule.TooMany i.at (Sound (put_in ds (memory_of b i.name y)))) x
    (λ y. ap (λ (es : List Declared). wants (has_room w (memory_of b i.name y) ds) rule.TooMany i.at (Sound es)) (sym (put_absent (memory_of b i.name y) ds none)))
    ∙ all_sized (put_in ds) w i.at b i.name ds x
new_is w b i ds x false h =
    ap (λ (z : Found (List Declared)). (let r : Found (List Declared) = lost (at rule.DuplicateName i.at) z in r)) (all_sized (last_in ds) w i.at b i.name ds x)
    ∙ sym (lost_each (last_in ds) (at rule.DuplicateName i.at) (sized_found w i.at b i.name ds x))
    ∙ lost_each (put_in ds) (at rule.DuplicateName i.at) (sized_found w i.at b i.name ds x)
    ∙ sym (each_needs (put_in ds) false rule.DuplicateName i.at (sized_found w i.at b i.name ds x))

pub memory_is : (w : Place) (b : Bounds) (i : Identifier) (r : RangeTree) (ds : List Declared)
    → declare_memory w b i r ds ≡ each (λ (x : Declared). put_declared x ds) (memory_found w b i r ds)
memory_is w b i r ds = new_is w b i ds (bounds_in r (known_names w)) (is_new i.name w ds) refl
