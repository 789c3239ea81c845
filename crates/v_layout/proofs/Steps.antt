-- What is found of a name, as the code has it.
use Rattle.std.proofs.Common.{◌≡◌, ℕ, ◌&&◌, List, Option, Some, None, option_map, is_none, Bool, true, false, Result, Ok, Err, IfOk, refl, sym, ◌∙◌, ap, subst}
use Rattle.v_syntax.specs.declared.statement.Identifier.{Identifier}
use Rattle.v_syntax.specs.SourceTrees.{RangeTree}
use Rattle.v_flat.specs.declared.scope.rule.Broken.{Broken}
use Rattle.v_flat.specs.declared.scope.rule.ElabRule.{ElabRule}
use Rattle.v_flat.specs.declared.scope.rule.ElabRule.TheVariants as rule
use Rattle.v_flat.specs.declared.scope.found.Found.{Found}
use Rattle.v_flat.specs.declared.scope.found.Found.TheVariants.{Sound, Noted, Lost}
use Rattle.v_flat.specs.Scope.Rules.{at}
use Rattle.v_flat.specs.Scope.Found.{ForValue, noted, lost, each, and_then, wants, needs}
use Rattle.v_flat.proofs.ScopeLemmas.Gathered.{each_noted, each_wants, each_needs}
use Rattle.v_flat.specs.declared.scope.meaning.Bounds.{Bounds}
use Rattle.v_flat.specs.Declarations.{Declared, Place, is_free, is_new, are_halves, same_bounds, whole_of, find_declared, declare, declare_memory, bounds_in, known_names}
use Rattle.v_layout.specs.declared.details.Declared as code
use Rattle.v_layout.specs.Kept.{named_declared, put_declared}
use Rattle.v_layout.specs.Counted.{KeepsWords}
use Rattle.v_layout.specs.DeclareSteps.{may_be, has_room, first_found, again_found, either_found, name_found, memory_of, sized_found, memory_found}
use Rattle.v_layout.proofs.Changes.{declare_is, memory_is}

-- ---- values

pub for_any : {A : Type 0} (P : A → Type 0) (x : Found A) → ((a : A) → P a) → ForValue P x
for_any P (Sound a) h = h a
for_any P (Noted b a) h = h a
for_any P (Lost b) h = tt

pub for_so : {A : Type 0} (P Q : A → Type 0) (x : Found A) → ForValue P x → ((a : A) → P a → Q a) → ForValue Q x
for_so P Q (Sound a) h k = k a h
for_so P Q (Noted b a) h k = k a h
for_so P Q (Lost b) h k = tt

for_noted : {A : Type 0} (P : A → Type 0) (c : Broken) (x : Found A) → ForValue P x → ForValue P (noted c x)
for_noted P c (Sound a) h = h
for_noted P c (Noted b a) h = h
for_noted P c (Lost b) h = tt

for_lost : {A B : Type 0} (P : B → Type 0) (c : Broken) (x : Found A) → ForValue P (lost c x)
for_lost P c (Sound a) = tt
for_lost P c (Noted b a) = tt
for_lost P c (Lost b) = tt

for_wants : {A : Type 0} (P : A → Type 0) (ok : Bool) (r : ElabRule) (p : ℕ) (x : Found A) → ForValue P x → ForValue P (wants ok r p x)
for_wants P true r p x h = h
for_wants P false r p x h = for_noted P (at r p) x h

pub for_needs : {A : Type 0} (P : A → Type 0) (ok : Bool) (r : ElabRule) (p : ℕ) (x : Found A) → (ok ≡ true → ForValue P x) → ForValue P (needs ok r p x)
for_needs P true r p x h = h refl
for_needs P false r p x h = for_lost P (at r p) x

-- ---- names that are no memories

pub first_named : (n : List ℕ) (d : code.Declared) (w : Place) (p : ℕ) (ds : List Declared) (room may : Bool) (x y : Found code.Declared)
    → room ≡ has_room w (named_declared n d) ds → may ≡ may_be w (named_declared n d) → x ≡ wants room rule.TooMany p (Sound d) → y ≡ wants may rule.BadPort p x
    → each (named_declared n) y ≡ first_found w p (named_declared n d) ds
first_named n d w p ds room may x y e f h k =
    ap (λ (z : Found code.Declared). each (named_declared n) z) (k ∙ ap (λ (z : Found code.Declared). wants may rule.BadPort p z) h)
    ∙ each_wants (named_declared n) may rule.BadPort p (wants room rule.TooMany p (Sound d))
    ∙ ap (λ (z : Found Declared). wants may rule.BadPort p z) (each_wants (named_declared n) room rule.TooMany p (Sound d))
    ∙ ap (λ (b : Bool). wants b rule.BadPort p (wants room rule.TooMany p (Sound (named_declared n d)))) f
    ∙ ap (λ (b : Bool). wants (may_be w (named_declared n d)) rule.BadPort p (wants b rule.TooMany p (Sound (named_declared n d)))) e

pub again_named : (n : List ℕ) (old d whole : code.Declared) (w : Place) (p : ℕ) (may fit : Bool) (x y : Found code.Declared)
    → named_declared n whole ≡ whole_of (named_declared n old) (named_declared n d) → may ≡ may_be w (named_declared n whole)
    → fit ≡ (are_halves (named_declared n old) (named_declared n d) && same_bounds old.bounds d.bounds)
    → x ≡ wants may rule.BadPort p (Sound whole) → y ≡ needs fit rule.DuplicateName p x
    → each (named_declared n) y ≡ again_found w p (named_declared n old) (named_declared n d)
again_named n old d whole w p may fit x y e f g h k =
    ap (λ (z : Found code.Declared). each (named_declared n) z) (k ∙ ap (λ (z : Found code.Declared). needs fit rule.DuplicateName p z) h)
    ∙ each_needs (named_declared n) fit rule.DuplicateName p (wants may rule.BadPort p (Sound whole))
    ∙ ap (λ (z : Found Declared). needs fit rule.DuplicateName p z) (each_wants (named_declared n) may rule.BadPort p (Sound whole))
    ∙ ap (λ (b : Bool). needs fit rule.DuplicateName p (wants b rule.BadPort p (Sound (named_declared n whole)))) f
    ∙ ap (λ (z : Declared). needs fit rule.DuplicateName p (wants (may_be w z) rule.BadPort p (Sound z))) e
    ∙ ap (λ (b : Bool). needs b rule.DuplicateName p (wants (may_be w (whole_of (named_declared n old) (named_declared n d))) rule.BadPort p
    (Sound (whole_of (named_declared n old) (named_declared n d))))) g

pub again_words : (old whole : code.Declared) (p : ℕ) (may fit : Bool) (x y : Found code.Declared) → whole.words ≡ old.words
    → x ≡ wants may rule.BadPort p (Sound whole) → y ≡ needs fit rule.DuplicateName p x → ForValue (λ (d : code.Declared). old.words ≡ d.words) y
again_words old whole p may fit x y e h k =
    subst (λ (z : Found code.Declared). ForValue (λ (d : code.Declared). old.words ≡ d.words) z) (sym k)
    (for_needs (λ (d : code.Declared). old.words ≡ d.words) fit rule.DuplicateName p x (λ t.
    subst (λ (z : Found code.Declared). ForValue (λ (d : code.Declared). old.words ≡ d.words) z) (sym h)
    (for_wants (λ (d : code.Declared). old.words ≡ d.words) may rule.BadPort p (Sound whole) (sym e))))

pub new_words : (n : List ℕ) (ds : List Declared) (x : Found code.Declared) → None ≡ find_declared n ds → ForValue (λ (d : code.Declared). KeepsWords (named_declared n d) ds) x
new_words n ds x h = for_any (λ (d : code.Declared). KeepsWords (named_declared n d) ds) x (λ d old k. absurd (none_some old (h ∙ k)))
  where
    none_some : (old : Declared) → (let o : Option Declared = None in o) ≡ Some old → ⊥
    none_some old e = cc

pub old_words : (n : List ℕ) (ds : List Declared) (old : code.Declared) (x : Found code.Declared) → Some (named_declared n old) ≡ find_declared n ds
    → ForValue (λ (d : code.Declared). old.words ≡ d.words) x → ForValue (λ (d : code.Declared). KeepsWords (named_declared n d) ds) x
old_words n ds old x h k =
    for_so (λ (d : code.Declared). old.words ≡ d.words) (λ (d : code.Declared). KeepsWords (named_declared n d) ds) x k
    (λ d e other f. ap (λ (y : Declared). y.words) (same_some other (sym f ∙ sym h)) ∙ e)
  where
    same_some : (other : Declared) → Some other ≡ Some (named_declared n old) → other ≡ named_declared n old
    same_some other e = cc

pub name_named : (n : List ℕ) (d : code.Declared) (w : Place) (p : ℕ) (ds : List Declared) (free : Bool) (x y : Found code.Declared) → free ≡ is_free n w.constants
    → each (named_declared n) x ≡ either_found w p (named_declared n d) ds (find_declared n ds) → y ≡ needs free rule.DuplicateName p x
    → each (named_declared n) y ≡ name_found w p (named_declared n d) ds
name_named n d w p ds free x y e h k =
    ap (λ (z : Found code.Declared). each (named_declared n) z) k
    ∙ each_needs (named_declared n) free rule.DuplicateName p x
    ∙ ap (λ (z : Found Declared). needs free rule.DuplicateName p z) h
    ∙ ap (λ (b : Bool). needs b rule.DuplicateName p (either_found w p (named_declared n d) ds (find_declared n ds))) e

pub needed_words : (n : List ℕ) (ds : List Declared) (ok : Bool) (p : ℕ) (x y : Found code.Declared) → ForValue (λ (d : code.Declared). KeepsWords (named_declared n d) ds) x
    → y ≡ needs ok rule.DuplicateName p x → ForValue (λ (d : code.Declared). KeepsWords (named_declared n d) ds) y
needed_words n ds ok p x y h k =
    subst (λ (z : Found code.Declared). ForValue (λ (d : code.Declared). KeepsWords (named_declared n d) ds) z) (sym k)
    (for_needs (λ (d : code.Declared). KeepsWords (named_declared n d) ds) ok rule.DuplicateName p x (λ t. h))

put_each : (n : List ℕ) (ds : List Declared) (x : Found code.Declared)
    → each (λ (d : code.Declared). put_declared (named_declared n d) ds) x ≡ each (λ (d : Declared). put_declared d ds) (each (named_declared n) x)
put_each n ds (Sound d) = refl
put_each n ds (Noted b d) = refl
put_each n ds (Lost b) = refl

-- what is found is put in its place
pub declared_is : (n : List ℕ) (d : code.Declared) (w : Place) (p : ℕ) (ds : List Declared) (x : Found code.Declared) (y : Found (List Declared))
    → each (named_declared n) x ≡ name_found w p (named_declared n d) ds → y ≡ each (λ (z : code.Declared). put_declared (named_declared n z) ds) x
    → y ≡ declare w p (named_declared n d) ds
declared_is n d w p ds x y h k =
    k ∙ put_each n ds x ∙ ap (λ (z : Found Declared). each (λ (e : Declared). put_declared e ds) z) h ∙ sym (declare_is w p (named_declared n d) ds)

-- ---- memories

pub memory_named : (n : List ℕ) (m : code.Declared) (b y : Bounds) (w : Place) (p : ℕ) (ds : List Declared) (room : Bool) (x : Found code.Declared)
    → named_declared n m ≡ memory_of b n y → room ≡ has_room w (memory_of b n y) ds → x ≡ wants room rule.TooMany p (Sound m)
    → each (named_declared n) x ≡ sized_found w p b n ds (Sound y)
memory_named n m b y w p ds room x e f h =
    ap (λ (z : Found code.Declared). each (named_declared n) z) h
    ∙ each_wants (named_declared n) room rule.TooMany p (Sound m)
    ∙ ap (λ (z : Declared). wants room rule.TooMany p (Sound z)) e
    ∙ ap (λ (t : Bool). wants t rule.TooMany p (Sound (memory_of b n y))) f

pub noted_named : (n : List ℕ) (b : Bounds) (c : Broken) (y : Bounds) (w : Place) (p : ℕ) (ds : List Declared) (x z : Found code.Declared)
    → each (named_declared n) x ≡ sized_found w p b n ds (Sound y) → z ≡ noted c x → each (named_declared n) z ≡ sized_found w p b n ds (Noted c y)
noted_named n b c y w p ds x z h k =
    ap (λ (u : Found code.Declared). each (named_declared n) u) k ∙ each_noted (named_declared n) c x ∙ ap (λ (u : Found Declared). noted c u) h

both_true : (a b : Bool) → (a && b) ≡ true → b ≡ true
both_true true b h = h
both_true false b h = absurd (cc)

none_so : (o : Option Declared) → is_none o ≡ true → (let r : Option Declared = None in r) ≡ o
none_so None h = refl
none_so (Some d) h = absurd (cc)

pub memory_words : (i : Identifier) (ds : List Declared) (w : Place) (new : Bool) (x y : Found code.Declared) → new ≡ is_new i.name w ds
    → y ≡ needs new rule.DuplicateName i.at x → ForValue (λ (d : code.Declared). KeepsWords (named_declared i.name d) ds) y
memory_words i ds w new x y e k =
    subst (λ (z : Found code.Declared). ForValue (λ (d : code.Declared). KeepsWords (named_declared i.name d) ds) z) (sym k)
    (for_needs (λ (d : code.Declared). KeepsWords (named_declared i.name d) ds) new rule.DuplicateName i.at x (λ t.
    new_words i.name ds x (none_so (find_declared i.name ds) (both_true (is_free i.name w.constants) (is_none (find_declared i.name ds)) (sym e ∙ t)))))

pub memory_declared : (i : Identifier) (b : Bounds) (r : RangeTree) (w : Place) (ds : List Declared) (new : Bool) (range : Found Bounds) (x y : Found code.Declared) (z : Found (List Declared))
    → new ≡ is_new i.name w ds → range ≡ bounds_in r (known_names w) → each (named_declared i.name) x ≡ sized_found w i.at b i.name ds range
    → y ≡ needs new rule.DuplicateName i.at x → z ≡ each (λ (d : code.Declared). put_declared (named_declared i.name d) ds) y → z ≡ declare_memory w b i r ds
memory_declared i b r w ds new range x y z e f h k q =
    q ∙ put_each i.name ds y
    ∙ ap (λ (u : Found Declared). each (λ (d : Declared). put_declared d ds) u)
    (ap (λ (u : Found code.Declared). each (named_declared i.name) u) k
    ∙ each_needs (named_declared i.name) new rule.DuplicateName i.at x
    ∙ ap (λ (u : Found Declared). needs new rule.DuplicateName i.at u) h
    ∙ ap (λ (u : Found Bounds). needs new rule.DuplicateName i.at (sized_found w i.at b i.name ds u)) f
    ∙ ap (λ (t : Bool). needs t rule.DuplicateName i.at (sized_found w i.at b i.name ds (bounds_in r (known_names w)))) e)
    ∙ sym (memory_is w b i r ds)

-- ---- where want of memory is an error

pub if_ok_so : {A E : Type 0} (P Q : A → Type 0) (r : Result A E) → IfOk r P → ((a : A) → P a → Q a) → IfOk r Q
if_ok_so P Q (Ok a) h k = k a h
if_ok_so P Q (Err e) h k = h

pub declared_ok : {E : Type 0} (n m : List ℕ) (d : code.Declared) (w : Place) (p : ℕ) (ds : List Declared) (x : Found code.Declared) (r : Result (Found (List Declared)) E)
    → n ≡ m → each (named_declared n) x ≡ name_found w p (named_declared n d) ds
    → IfOk r (λ (y : Found (List Declared)). y ≡ each (λ (z : code.Declared). put_declared (named_declared n z) ds) x)
    → IfOk r (λ (y : Found (List Declared)). y ≡ declare w p (named_declared m d) ds)
declared_ok n m d w p ds x r e h k =
    if_ok_so (λ (y : Found (List Declared)). y ≡ each (λ (z : code.Declared). put_declared (named_declared n z) ds) x)
    (λ (y : Found (List Declared)). y ≡ declare w p (named_declared m d) ds) r k
    (λ y q. declared_is n d w p ds x y h q ∙ ap (λ (l : List ℕ). declare w p (named_declared l d) ds) e)

pub new_none : (b : Bool) (o : Option Declared) → (let r : Option Declared = None in r) ≡ o → b ≡ (b && is_none o)
new_none true None h = refl
new_none false None h = refl
new_none b (Some d) h = absurd (cc)

pub new_some : (b : Bool) (o : Option Declared) (d : Declared) → Some d ≡ o → false ≡ (b && is_none o)
new_some true None d h = absurd (cc)
new_some false o d h = refl
new_some true (Some e) d h = refl

pub memory_put : (n : List ℕ) (i : Identifier) (ds : List Declared) (w : Place) (new : Bool) (x y : Found code.Declared) → n ≡ i.name → new ≡ is_new n w ds
    → y ≡ needs new rule.DuplicateName i.at x → ForValue (λ (d : code.Declared). KeepsWords (named_declared n d) ds) y
memory_put n i ds w new x y e h k =
    subst (λ (l : List ℕ). ForValue (λ (d : code.Declared). KeepsWords (named_declared l d) ds) y) (sym e)
    (memory_words i ds w new x y (h ∙ ap (λ (l : List ℕ). is_new l w ds) e) k)

pub memory_ok : {E : Type 0} (n : List ℕ) (i : Identifier) (b : Bounds) (r : RangeTree) (w : Place) (ds : List Declared) (new : Bool) (range : Found Bounds) (x y : Found code.Declared)
    (z : Result (Found (List Declared)) E) → n ≡ i.name → new ≡ is_new n w ds → range ≡ bounds_in r (known_names w)
    → each (named_declared n) x ≡ sized_found w i.at b n ds range → y ≡ needs new rule.DuplicateName i.at x
    → IfOk z (λ (u : Found (List Declared)). u ≡ each (λ (d : code.Declared). put_declared (named_declared n d) ds) y)
    → IfOk z (λ (u : Found (List Declared)). u ≡ declare_memory w b i r ds)
memory_ok n i b r w ds new range x y z e f g h k q =
    if_ok_so (λ (u : Found (List Declared)). u ≡ each (λ (d : code.Declared). put_declared (named_declared n d) ds) y)
    (λ (u : Found (List Declared)). u ≡ declare_memory w b i r ds) z q
    (λ u v. memory_declared i b r w ds new range x y u (f ∙ ap (λ (l : List ℕ). is_new l w ds) e) g
    (subst (λ (l : List ℕ). each (named_declared l) x ≡ sized_found w i.at b l ds range) e h) k
    (v ∙ ap (λ (l : List ℕ). each (λ (d : code.Declared). put_declared (named_declared l d) ds) y) e))
