-- What is found in a name that is assigned to.
use Rattle.std.proofs.Common.{◌≡◌, ℕ, List, [], Option, Some, None, Bool, false, refl, sym, ap, ◌∙◌, subst, arith}
use Rattle.four_value.specs.declared.Digit.{Digit}
use Rattle.four_value.specs.Vector.{number}
use Rattle.gpi.specs.declared.selects.Words.{Words}
use Rattle.gpi.specs.declared.terms.Term.{Term}
use Rattle.gpi.specs.declared.targets.Object.{Object}
use Rattle.gpi.specs.declared.targets.Object.TheVariants.{Signal, Word}
use Rattle.gpi.specs.Selects.{overlap_of, word_at}
use Rattle.gpi.specs.Targets.{object_width, part_update, whole_update}
use Rattle.gpi.specs.Terms.{value, IsWidth}
use Rattle.v_syntax.specs.ExpressionTrees.{Tree, SelectsTree, Whole, One, OfWord, SelectTree, Bit, Part, IndexedPart}
use Rattle.v_flat.specs.declared.scope.rule.ElabRule.TheVariants as rule
use Rattle.v_flat.specs.declared.scope.found.Found.{Found}
use Rattle.v_flat.specs.declared.scope.found.Found.TheVariants.{Sound}
use Rattle.v_flat.specs.Scope.Found.{each, followed, and_then, broken, needs, Holds}
use Rattle.v_flat.specs.declared.scope.meaning.Bounds.{Bounds}
use Rattle.v_flat.specs.declared.scope.meaning.DataObject.{DataObject}
use Rattle.v_flat.specs.declared.scope.meaning.Meaning.TheVariants.{Constant, Later}
use Rattle.v_flat.specs.declared.scope.meaning.Meaning.TheVariants as meant
use Rattle.v_flat.specs.Scope.Rules.{at}
use Rattle.v_flat.specs.Scope.Limits.{counted_width}
use Rattle.v_flat.specs.Scope.Scope.{Scope, width_of}
use Rattle.v_flat.proofs.ScopeLemmas.Gathered.{each_each, each_same, each_then, each_needs}
use Rattle.v_flat.specs.Objects.{Nature, nature_of, range_of, words_of}
use Rattle.v_flat.specs.Expressions.{no_signals, own_value, select_base, select_width}
use Rattle.v_flat.specs.Checks.{checked, index, part, by_nature, of_vector, of_memory, select_at}
use Rattle.v_flat.specs.declared.manner.Manner.{Manner}
use Rattle.v_flat.specs.Targets.{fits_kind, inside_drive, is_fixed, object_update}
use Rattle.v_flat.proofs.Holds.{holds_any, holds_each, holds_followed, holds_lost, holds_needs, holds_then}
use Rattle.v_check.specs.declared.names.choice.Choice.{Choice}
use Rattle.v_check.specs.declared.names.selects.CheckedSelect.{CheckedSelect}
use Rattle.v_check.specs.declared.names.selects.CheckedSelect.TheVariants as code
use Rattle.v_check.specs.declared.names.selects.CheckedSelects.{CheckedSelects}
use Rattle.v_check.specs.declared.names.selects.CheckedSelects.TheVariants as code_selects
use Rattle.v_check.specs.Names.Selects.{StandsAlone, IsIndex, IsSelect, AreSelects, Chooses, ChecksChoice, place_of, twice_at}
use Rattle.v_check.proofs.NamesLemmas.Founds.{second_of}
use Rattle.v_check.proofs.NamesLemmas.Names.{object_memory, object_vector, place_is}
use Rattle.v_process.specs.declared.target.checked.CheckedTarget.{CheckedTarget}
use Rattle.v_process.specs.Target.Made.{whole_target, part_target, word_part_target, word_target, VectorMade, MemoryMade, ObjectMade}
use Rattle.v_process.specs.Target.Targets.{GetsAsName, IsNamedTarget}

-- ---- the first broken rule, and the width

abbrev width_found : Found CheckedTarget → Found ℕ
width_found f = each (λ (c : CheckedTarget). c.width) f

abbrev sound_width : ℕ → Found ℕ
sound_width n = Sound n

whole_found : (w n : ℕ) → w ≡ n → IsWidth n → sound_width w ≡ sound_width (counted_width n)
whole_found w n e h = ap sound_width (let k = h.1 in omega (arith, e, k))

twice_found : (fixed : Bool) (s : Scope) (i : Tree) (sel : SelectTree) (x : Found Term) (z : CheckedSelect) → IsIndex fixed s i x
    → IsSelect fixed s sel z
    → width_found (twice_at x (place_of z))
    ≡ each counted_width (and_then (index fixed s i (checked s i)) (λ (u : Unit {0}). broken rule.BadRange (select_at sel)))
twice_found fixed s i sel x z h k =
    each_then (λ (c : CheckedTarget). c.width) (λ (u : Unit {0}). broken rule.BadRange (place_of z)) (each (λ (t : Term). tt) x)
    ∙ ap (λ (w : Found (Unit {0})). and_then w (λ (u : Unit {0}). (let r : Found ℕ = broken rule.BadRange (place_of z) in r))) h.finds
    ∙ ap (λ (n : ℕ). and_then (index fixed s i (checked s i)) (λ (u : Unit {0}). (let r : Found ℕ = broken rule.BadRange n in r)))
    (sym (place_is fixed s sel z k))
    ∙ sym (each_then counted_width (λ (u : Unit {0}). (let r : Found ℕ = broken rule.BadRange (select_at sel) in r))
    (index fixed s i (checked s i)))

part_found : (fixed : Bool) (s : Scope) (p : ℕ) (o : Object) (b : Bounds) (sel : SelectTree) (y : CheckedSelect) (x : Found Choice)
    → ChecksChoice p b y x → IsSelect fixed s sel y
    → width_found (each (λ (z : Choice). part_target o (range_of b) z) x) ≡ each counted_width (part fixed s p b sel)
part_found fixed s p o b sel y x k h =
    each_each (λ (c : CheckedTarget). c.width) (λ (z : Choice). part_target o (range_of b) z) x ∙ (k fixed s sel h).finds

vector_found : (fixed : Bool) (s : Scope) (p : ℕ) (sel : SelectsTree) (o : Object) (b : Bounds) (y : CheckedSelects) (f : Found CheckedTarget)
    → object_width o ≡ width_of b → IsWidth (width_of b) → AreSelects fixed s sel y → VectorMade p o b y f
    → width_found f ≡ each counted_width (of_vector fixed s p b sel)
vector_found fixed s p Whole o b code_selects.Whole f e w h k = ap width_found k ∙ whole_found (object_width o) (width_of b) e w
vector_found fixed s p (One sel) o b (code_selects.One y) f e w h k = ap width_found k.1.1 ∙ part_found fixed s p o b sel y k.0 k.1.0 h
vector_found fixed s p (OfWord q i sel) o b (code_selects.OfWord x z) f e w h k = ap width_found k ∙ twice_found fixed s i sel x z h.0 h.1
vector_found fixed s p Whole o b (code_selects.One y) f e w h k = absurd h
vector_found fixed s p Whole o b (code_selects.OfWord y z) f e w h k = absurd h
vector_found fixed s p (One sel) o b code_selects.Whole f e w h k = absurd h
vector_found fixed s p (One sel) o b (code_selects.OfWord y z) f e w h k = absurd h
vector_found fixed s p (OfWord q i sel) o b code_selects.Whole f e w h k = absurd h
vector_found fixed s p (OfWord q i sel) o b (code_selects.One y) f e w h k = absurd h

word_found : (fixed : Bool) (s : Scope) (i : Tree) (words : Words) (b : Bounds) (x : Found Term) → IsWidth (width_of b)
    → IsIndex fixed s i x
    → width_found (each (λ (t : Term). whole_target (Word words t (width_of b))) x)
    ≡ each counted_width (each (λ (u : Unit {0}). width_of b) (index fixed s i (checked s i)))
word_found fixed s i words b x w h =
    each_each (λ (c : CheckedTarget). c.width) (λ (t : Term). whole_target (Word words t (width_of b))) x
    ∙ sym (each_each (λ (u : Unit {0}). width_of b) (λ (t : Term). tt) x)
    ∙ ap (λ (y : Found (Unit {0})). each (λ (u : Unit {0}). width_of b) y) h.finds
    ∙ each_same (λ (u : Unit {0}). width_of b) (λ (u : Unit {0}). counted_width (width_of b)) (index fixed s i (checked s i))
    (λ u. let k = w.1 in omega (arith, k))
    ∙ sym (each_each counted_width (λ (u : Unit {0}). width_of b) (index fixed s i (checked s i)))

broken_found : (q o : ℕ) → q ≡ o → width_found (broken rule.BadRange o) ≡ each counted_width (broken rule.BadRange q)
broken_found q o e = ap (λ (n : ℕ). (let r : Found ℕ = broken rule.BadRange n in r)) (sym e)

one_found : (fixed : Bool) (s : Scope) (p : ℕ) (sel : SelectTree) (words : Words) (b : Bounds) (y : CheckedSelect) → IsWidth (width_of b)
    → IsSelect fixed s sel y → width_found (word_target words (width_of b) y) ≡ each counted_width (of_memory fixed s p b (One sel))
one_found fixed s p (Bit q i) words b (code.Bit o y) w h = word_found fixed s i words b y w h.1
one_found fixed s p (Part q l r) words b (code.Part o y z) w h = broken_found q o h.0
one_found fixed s p (IndexedPart q c n) words b (code.IndexedPart o y z) w h = broken_found q o h.0
one_found fixed s p (Bit q i) words b (code.Part o y z) w h = absurd h
one_found fixed s p (Bit q i) words b (code.IndexedPart o y z) w h = absurd h
one_found fixed s p (Part q l r) words b (code.Bit o y) w h = absurd h
one_found fixed s p (Part q l r) words b (code.IndexedPart o y z) w h = absurd h
one_found fixed s p (IndexedPart q c n) words b (code.Bit o y) w h = absurd h
one_found fixed s p (IndexedPart q c n) words b (code.Part o y z) w h = absurd h

word_part_found : (fixed : Bool) (s : Scope) (p : ℕ) (i : Tree) (sel : SelectTree) (words : Words) (b : Bounds) (x : Found Term)
    (z : CheckedSelect) (y : Found Choice)
    → ChecksChoice p b z y → IsIndex fixed s i x → IsSelect fixed s sel z
    → width_found (each (λ (y : Term × Choice). word_part_target words (width_of b) b y) (followed x y))
    ≡ each counted_width (each {A = Unit {0} × ℕ} (λ (y : Unit {0} × ℕ). y.1)
    (followed (index fixed s i (checked s i)) (part fixed s p b sel)))
word_part_found fixed s p i sel words b x z y c h k =
    each_each {A = Term × Choice} (λ (c : CheckedTarget). c.width) (λ (y : Term × Choice). word_part_target words (width_of b) b y) (followed x y)
    ∙ second_of x (index fixed s i (checked s i)) y (λ (c : Choice). c.width) (part fixed s p b sel) h.finds (c fixed s sel k).finds

memory_found : (fixed : Bool) (s : Scope) (p : ℕ) (sel : SelectsTree) (words : Words) (b : Bounds) (y : CheckedSelects)
    (f : Found CheckedTarget)
    → IsWidth (width_of b)
    → AreSelects fixed s sel y → MemoryMade p words (width_of b) b y f → width_found f ≡ each counted_width (of_memory fixed s p b sel)
memory_found fixed s p Whole words b code_selects.Whole f w h k = ap width_found k
memory_found fixed s p (One sel) words b (code_selects.One y) f w h k = ap width_found k ∙ one_found fixed s p sel words b y w h
memory_found fixed s p (OfWord q i sel) words b (code_selects.OfWord x z) f w h k =
    ap width_found k.1.1 ∙ word_part_found fixed s p i sel words b x z k.0 k.1.0 h.0 h.1
memory_found fixed s p Whole words b (code_selects.One y) f w h k = absurd h
memory_found fixed s p Whole words b (code_selects.OfWord y z) f w h k = absurd h
memory_found fixed s p (One sel) words b code_selects.Whole f w h k = absurd h
memory_found fixed s p (One sel) words b (code_selects.OfWord y z) f w h k = absurd h
memory_found fixed s p (OfWord q i sel) words b code_selects.Whole f w h k = absurd h
memory_found fixed s p (OfWord q i sel) words b (code_selects.One y) f w h k = absurd h

-- ---- the updates of a vector

whole_gets : (s : Scope) (o : DataObject) → o.words ≡ None → IsWidth (width_of o.bounds)
    → GetsAsName s Whole (Some (meant.Object o)) (whole_target (Signal (record { 0 = o.first }) (width_of o.bounds)))
whole_gets s o e w = let v = object_vector o (width_of o.bounds) refl e w in record {
  proper = w;
  own = v.whole_width;
  width_is = refl;
  gets = λ m ds l. sym (ap (λ (r : Option Bounds). object_update o r s Whole m ds) e);
  sound = λ ws h k. (let g = v.sound ws h in (g.0, g.1, w));
  depth_is = refl;
  fixed = λ k. w.1;
  drives = refl;
}

part_gets : (s : Scope) (o : DataObject) (sel : SelectTree) (x : Choice) → o.words ≡ None → IsWidth (width_of o.bounds) → Chooses s sel x
    → GetsAsName s (One sel) (Some (meant.Object o))
    (part_target (Signal (record { 0 = o.first }) (width_of o.bounds)) (range_of o.bounds) x)
part_gets s o sel x e w k = let v = object_vector o (width_of o.bounds) refl e w in record {
  proper = k.proper;
  own = v.one_width (select_width s sel) ∙ k.own;
  width_is = refl;
  gets = λ m ds l.
      ap (λ (base : Option ℕ). part_update (Some o.first) (overlap_of (range_of o.bounds) (width_of o.bounds) base x.width) ds) (k.base m)
      ∙ ap (λ (n : ℕ). part_update (Some o.first) (overlap_of (range_of o.bounds) (width_of o.bounds) (select_base s sel m) n) ds)
      (sym k.own)
      ∙ sym (ap (λ (r : Option Bounds). object_update o r s (One sel) m ds) e);
  sound = λ ws h q. (let g = v.sound ws h in ((g.0, g.1, w), k.sound ws q, k.proper));
  depth_is = refl;
  fixed = λ q. (k.sound [] q, w.1, k.proper.1);
  drives =
      ap (λ (base : Option ℕ). inside_drive o.first (overlap_of (range_of o.bounds) (width_of o.bounds) base x.width)) (k.base no_signals)
      ∙ ap (λ (n : ℕ). inside_drive o.first (overlap_of (range_of o.bounds) (width_of o.bounds) (select_base s sel no_signals) n)) (sym k.own);
}

never : {A : Type 0} (R : CheckedTarget → Type 0) (p : ℕ) (x : Found A) → Holds R (and_then x (λ a. broken rule.BadRange p))
never {A} R p x = holds_then (λ (a : A). Unit {0}) R x (λ a. broken rule.BadRange p) (holds_any x) (λ a k. tt)

-- what is found gets the updates of the object
abbrev Gets : Scope → SelectsTree → DataObject → Found CheckedTarget → Type 0
Gets s sel o f = Holds (λ (c : CheckedTarget). GetsAsName s sel (Some (meant.Object o)) c) f

vector_gets : (fixed : Bool) (s : Scope) (p : ℕ) (sel : SelectsTree) (o : DataObject) (y : CheckedSelects) (f : Found CheckedTarget)
    → o.words ≡ None
    → IsWidth (width_of o.bounds)
    → AreSelects fixed s sel y
    → VectorMade p (Signal (record { 0 = o.first }) (width_of o.bounds)) o.bounds y f
    → Gets s sel o f
vector_gets fixed s p Whole o code_selects.Whole f e w h k =
    subst (λ (g : Found CheckedTarget). Gets s Whole o g) (sym k) (whole_gets s o e w)
vector_gets fixed s p (One sel) o (code_selects.One y) f e w h k =
    subst (λ (g : Found CheckedTarget). Gets s (One sel) o g) (sym k.1.1)
    (holds_each (λ (x : Choice). Chooses s sel x) (λ (c : CheckedTarget). GetsAsName s (One sel) (Some (meant.Object o)) c)
    (λ (x : Choice). part_target (Signal (record { 0 = o.first }) (width_of o.bounds)) (range_of o.bounds) x) k.0
    (k.1.0 fixed s sel h).holds (λ x c. part_gets s o sel x e w c))
vector_gets fixed s p (OfWord q i sel) o (code_selects.OfWord x z) f e w h k =
    subst (λ (g : Found CheckedTarget). Gets s (OfWord q i sel) o g) (sym k)
    (never (λ (c : CheckedTarget). GetsAsName s (OfWord q i sel) (Some (meant.Object o)) c) (place_of z) (each (λ (t : Term). tt) x))
vector_gets fixed s p Whole o (code_selects.One y) f e w h k = absurd h
vector_gets fixed s p Whole o (code_selects.OfWord y z) f e w h k = absurd h
vector_gets fixed s p (One sel) o code_selects.Whole f e w h k = absurd h
vector_gets fixed s p (One sel) o (code_selects.OfWord y z) f e w h k = absurd h
vector_gets fixed s p (OfWord q i sel) o code_selects.Whole f e w h k = absurd h
vector_gets fixed s p (OfWord q i sel) o (code_selects.One y) f e w h k = absurd h

-- ---- the updates of a word

word_gets : (s : Scope) (q : ℕ) (i : Tree) (o : DataObject) (r : Bounds) (t : Term) → o.words ≡ Some r → IsWidth (width_of o.bounds)
    → StandsAlone s i t
    → GetsAsName s (One (Bit q i)) (Some (meant.Object o)) (whole_target (Word (words_of o.first r) t (width_of o.bounds)))
word_gets s q i o r t e w k = let v = object_memory o r e w in record {
  proper = w;
  own = v.one_width 1;
  width_is = refl;
  gets = λ m ds l.
      ap (λ (es : List Digit). whole_update (word_at (words_of o.first r) (number es)) ds) (k.means m)
      ∙ sym (ap (λ (r : Option Bounds). object_update o r s (One (Bit q i)) m ds) e);
  sound = λ ws h g. (k.sound ws g, v.sound ws h);
  depth_is = refl;
  fixed = λ g. (k.sound [] g, w.1);
  drives = ap (λ (es : List Digit). inside_drive o.first (overlap_of (range_of o.bounds) (width_of o.bounds) (number es) 1))
      (k.means no_signals);
}

word_part_gets : (s : Scope) (q : ℕ) (i : Tree) (sel : SelectTree) (o : DataObject) (r : Bounds) (y : Term × Choice) → o.words ≡ Some r
    → IsWidth (width_of o.bounds) → StandsAlone s i y.0 → Chooses s sel y.1
    → GetsAsName s (OfWord q i sel) (Some (meant.Object o)) (word_part_target (words_of o.first r) (width_of o.bounds) o.bounds y)
word_part_gets s q i sel o r y e w st k = let v = object_memory o r e w in record {
  proper = k.proper;
  own = k.own;
  width_is = refl;
  gets = λ m ds l.
      ap (λ (es : List Digit). part_update (word_at (words_of o.first r) (number es))
      (overlap_of (range_of o.bounds) (width_of o.bounds) (number (value y.1.index m)) y.1.width) ds) (st.means m)
      ∙ ap (λ (base : Option ℕ). part_update (word_at (words_of o.first r) (number (own_value s i m)))
      (overlap_of (range_of o.bounds) (width_of o.bounds) base y.1.width) ds) (k.base m)
      ∙ ap (λ (n : ℕ). part_update (word_at (words_of o.first r) (number (own_value s i m)))
      (overlap_of (range_of o.bounds) (width_of o.bounds) (select_base s sel m) n) ds) (sym k.own)
      ∙ sym (ap (λ (r : Option Bounds). object_update o r s (OfWord q i sel) m ds) e);
  sound = λ ws h g. ((st.sound ws g.0, v.sound ws h), k.sound ws g.1, k.proper);
  depth_is = refl;
  fixed = λ g. (k.sound [] g.1, w.1, k.proper.1);
  drives = refl;
}

one_gets : (fixed : Bool) (s : Scope) (sel : SelectTree) (o : DataObject) (r : Bounds) (y : CheckedSelect) → o.words ≡ Some r
    → IsWidth (width_of o.bounds)
    → IsSelect fixed s sel y
    → Holds (λ (c : CheckedTarget). GetsAsName s (One sel) (Some (meant.Object o)) c)
    (word_target (words_of o.first r) (width_of o.bounds) y)
one_gets fixed s (Bit q i) o r (code.Bit p y) e w h =
    holds_each (λ (t : Term). StandsAlone s i t) (λ (c : CheckedTarget). GetsAsName s (One (Bit q i)) (Some (meant.Object o)) c)
    (λ (t : Term). whole_target (Word (words_of o.first r) t (width_of o.bounds))) y h.1.holds (λ t k. word_gets s q i o r t e w k)
one_gets fixed s (Part q l m) o r (code.Part p y z) e w h = tt
one_gets fixed s (IndexedPart q c n) o r (code.IndexedPart p y z) e w h = tt
one_gets fixed s (Bit q i) o r (code.Part p y z) e w h = absurd h
one_gets fixed s (Bit q i) o r (code.IndexedPart p y z) e w h = absurd h
one_gets fixed s (Part q l m) o r (code.Bit p y) e w h = absurd h
one_gets fixed s (Part q l m) o r (code.IndexedPart p y z) e w h = absurd h
one_gets fixed s (IndexedPart q c n) o r (code.Bit p y) e w h = absurd h
one_gets fixed s (IndexedPart q c n) o r (code.Part p y z) e w h = absurd h

memory_gets : (fixed : Bool) (s : Scope) (p : ℕ) (sel : SelectsTree) (o : DataObject) (r : Bounds) (y : CheckedSelects)
    (f : Found CheckedTarget)
    → o.words ≡ Some r
    → IsWidth (width_of o.bounds) → AreSelects fixed s sel y → MemoryMade p (words_of o.first r) (width_of o.bounds) o.bounds y f
    → Gets s sel o f
memory_gets fixed s p Whole o r code_selects.Whole f e w h k = subst (λ (g : Found CheckedTarget). Gets s Whole o g) (sym k) tt
memory_gets fixed s p (One sel) o r (code_selects.One y) f e w h k =
    subst (λ (g : Found CheckedTarget). Gets s (One sel) o g) (sym k) (one_gets fixed s sel o r y e w h)
memory_gets fixed s p (OfWord q i sel) o r (code_selects.OfWord x z) f e w h k =
    subst (λ (g : Found CheckedTarget). Gets s (OfWord q i sel) o g) (sym k.1.1)
    (holds_each (λ (y : Term × Choice). StandsAlone s i y.0 × Chooses s sel y.1)
    (λ (c : CheckedTarget). GetsAsName s (OfWord q i sel) (Some (meant.Object o)) c)
    (λ (y : Term × Choice). word_part_target (words_of o.first r) (width_of o.bounds) o.bounds y)
    (followed x k.0)
    (holds_followed (λ (t : Term). StandsAlone s i t) (λ (c : Choice). Chooses s sel c) x k.0 h.0.holds (k.1.0 fixed s sel h.1).holds)
    (λ y c. word_part_gets s q i sel o r y e w c.0 c.1))
memory_gets fixed s p Whole o r (code_selects.One y) f e w h k = absurd h
memory_gets fixed s p Whole o r (code_selects.OfWord y z) f e w h k = absurd h
memory_gets fixed s p (One sel) o r code_selects.Whole f e w h k = absurd h
memory_gets fixed s p (One sel) o r (code_selects.OfWord y z) f e w h k = absurd h
memory_gets fixed s p (OfWord q i sel) o r code_selects.Whole f e w h k = absurd h
memory_gets fixed s p (OfWord q i sel) o r (code_selects.One y) f e w h k = absurd h

-- ---- what a name is

-- a name with selects, by what it is
abbrev asked : Bool → Scope → ℕ → SelectsTree → Nature → Found ℕ
asked fixed s p sel n = by_nature p n (λ b. of_vector fixed s p b sel) (λ b. of_memory fixed s p b sel)

object_found : (fixed : Bool) (s : Scope) (p : ℕ) (sel : SelectsTree) (o : DataObject) (r : Option Bounds) (y : CheckedSelects)
    (f : Found CheckedTarget)
    → o.words ≡ r
    → IsWidth (width_of o.bounds) → AreSelects fixed s sel y → ObjectMade p o r y f
    → width_found f ≡ each counted_width (asked fixed s p sel (nature_of (Some (meant.Object o))))
object_found fixed s p sel o None y f e w h k =
    vector_found fixed s p sel (Signal (record { 0 = o.first }) (width_of o.bounds)) o.bounds y f refl w h k
    ∙ ap (λ (n : Nature). each counted_width (asked fixed s p sel n)) (sym (object_vector o (width_of o.bounds) refl e w).nature)
object_found fixed s p sel o (Some r) y f e w h k =
    memory_found fixed s p sel (words_of o.first r) o.bounds y f w h k
    ∙ ap (λ (n : Nature). each counted_width (asked fixed s p sel n)) (sym (object_memory o r e w).nature)

object_gets : (fixed : Bool) (s : Scope) (p : ℕ) (sel : SelectsTree) (o : DataObject) (r : Option Bounds) (y : CheckedSelects)
    (f : Found CheckedTarget)
    → o.words ≡ r → IsWidth (width_of o.bounds) → AreSelects fixed s sel y → ObjectMade p o r y f → Gets s sel o f
object_gets fixed s p sel o None y f e w h k = vector_gets fixed s p sel o y f e w h k
object_gets fixed s p sel o (Some r) y f e w h k = memory_gets fixed s p sel o r y f e w h k

pub object_named : (how : Manner) (s : Scope) (p : ℕ) (sel : SelectsTree) (o : DataObject) (y : CheckedSelects) (f : Found CheckedTarget)
    → IsWidth (width_of o.bounds)
    → AreSelects (is_fixed how) s sel y
    → ObjectMade p o o.words y f
    → IsNamedTarget how s p sel (Some (meant.Object o)) (needs (fits_kind how o.kind) rule.BadTarget p f)
object_named how s p sel o y f w h k =
    let fixed = is_fixed how in
    let ok = fits_kind how o.kind in record {
      finds = each_needs (λ (c : CheckedTarget). c.width) ok rule.BadTarget p f
          ∙ ap (λ (x : Found ℕ). needs ok rule.BadTarget p x) (object_found fixed s p sel o o.words y f refl w h k)
          ∙ sym (each_needs counted_width ok rule.BadTarget p (asked fixed s p sel (nature_of (Some (meant.Object o)))));
      holds = holds_needs (λ (c : CheckedTarget). GetsAsName s sel (Some (meant.Object o)) c) ok rule.BadTarget p f
          (λ fit. object_gets fixed s p sel o o.words y f refl w h k);
    }

pub constant_named : (how : Manner) (s : Scope) (p : ℕ) (sel : SelectsTree) (ds : List Digit) (b : Bounds) (o : Object)
    (y : CheckedSelects) (f : Found CheckedTarget)
    → object_width o ≡ width_of b → IsWidth (width_of b) → AreSelects (is_fixed how) s sel y → VectorMade p o b y f
    → IsNamedTarget how s p sel (Some (Constant ds b)) (needs false rule.BadTarget p f)
constant_named how s p sel ds b o y f e w h k = record {
  finds = each_needs (λ (c : CheckedTarget). c.width) false rule.BadTarget p f
      ∙ ap (λ (x : Found ℕ). needs false rule.BadTarget p x) (vector_found (is_fixed how) s p sel o b y f e w h k)
      ∙ sym (each_needs counted_width false rule.BadTarget p (of_vector (is_fixed how) s p b sel));
  holds = holds_lost (λ (c : CheckedTarget). GetsAsName s sel (Some (Constant ds b)) c) (at rule.BadTarget p) f;
}

pub unknown_named : (how : Manner) (s : Scope) (p : ℕ) (sel : SelectsTree) → IsNamedTarget how s p sel None (broken rule.UnknownName p)
unknown_named how s p sel = record { finds = refl; holds = tt }

pub later_named : (how : Manner) (s : Scope) (p : ℕ) (sel : SelectsTree)
    → IsNamedTarget how s p sel (Some Later) (broken rule.NotConstant p)
later_named how s p sel = record { finds = refl; holds = tt }
