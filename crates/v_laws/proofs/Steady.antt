-- Where no rule is broken in the target of a continuous assignment, its updates are the same on every map.
use Rattle.std.proofs.Common.{◌≡◌, ◌+◌, ◌∙◌, ℕ, Bool, true, false, List, ◌++◌, Option, Some, None, refl, sym, ap}
use Rattle.four_value.specs.declared.Digit.{Digit}
use Rattle.four_value.specs.Vector.{slice}
use Rattle.gpi.specs.declared.types.Update.{Update}
use Rattle.v_syntax.specs.ExpressionTrees.{Tree, SelectsTree, Whole, One, OfWord, SelectTree, Bit, Part, IndexedPart, TargetTree, NamedTarget, JoinedTarget, TargetTrees, no_target, more_targets}
use Rattle.v_flat.specs.declared.scope.rule.ElabRule.TheVariants as rule
use Rattle.v_flat.specs.declared.scope.found.Found.{Found}
use Rattle.v_flat.specs.declared.scope.found.Found.TheVariants.{Sound, Noted, Lost}
use Rattle.v_flat.specs.declared.scope.meaning.Bounds.{Bounds}
use Rattle.v_flat.specs.declared.scope.meaning.DataKind.{DataKind}
use Rattle.v_flat.specs.declared.scope.meaning.DataKind.TheVariants.{Input, Net, Register}
use Rattle.v_flat.specs.declared.scope.meaning.DataObject.{DataObject}
use Rattle.v_flat.specs.declared.scope.meaning.Meaning.{Meaning}
use Rattle.v_flat.specs.declared.scope.meaning.Meaning.TheVariants.{Constant, Object, Later}
use Rattle.v_flat.specs.Scope.Rules.{at}
use Rattle.v_flat.specs.Scope.Found.{Holds, both, followed}
use Rattle.v_flat.specs.Scope.Scope.{Scope, find, width_of}
use Rattle.v_flat.specs.Objects.{nature_of, nature_of_object}
use Rattle.v_flat.specs.Expressions.{Values, width}
use Rattle.v_flat.specs.Checks.{by_nature, checked, index, of_memory, of_vector, part, select_at, select_made, word}
use Rattle.v_flat.specs.declared.manner.Manner.TheVariants.{Continuous}
use Rattle.v_flat.specs.Targets.{Drive, all_driving, all_updates, driving, fits, is_driven, name_driving, name_update, named_target, net_driving, object_driving, once_more, place_or, selected_drive, target_width, targets_width, updates}
use Rattle.v_check.proofs.ConstantsLemmas.Unsignalled.{one_meaning}
use Rattle.v_flat.proofs.Holds.{holds_both, holds_each, holds_followed, holds_lost, holds_needs}
use Rattle.v_laws.proofs.Fixed.{IsMade, holds_all, made_index, made_part, one_base}
use Rattle.v_laws.proofs.Recorded.{holds_braces}
use Rattle.v_laws.proofs.Settled.{one_update, two_update, whole_settles}
use Rattle.v_laws.proofs.Sufficient.{never, weaker}

-- ---- names

abbrev NameSteady : Scope → SelectsTree → Option Meaning → Type 0
NameSteady s sel x = (m n : Values) (bits : List Digit) → name_update x s sel m bits ≡ name_update x s sel n bits

abbrev AreMade : Scope → SelectTree → Type 0
AreMade s sel = select_made s sel ≡ true

made_word : (s : Scope) (b : Bounds) (sel : SelectTree) → Holds (λ (w : ℕ). AreMade s sel) (word true s b sel)
made_word s b (Bit q i) = holds_each (λ (u : Unit {0}). IsMade s i) (λ (w : ℕ). AreMade s (Bit q i)) (λ u. width_of b) (index true s i (checked s i)) (made_index s i) (λ u h. h)
made_word s b (Part q l r) = tt
made_word s b (IndexedPart q c n) = tt

one_made : (s : Scope) (p : ℕ) (sel : SelectTree) (b : Bounds) (ws : Option Bounds)
    → Holds (λ (w : ℕ). AreMade s sel) (by_nature p (nature_of_object ws b) (λ c. of_vector true s p c (One sel)) (λ c. of_memory true s p c (One sel)))
one_made s p sel b None = made_part s p b sel
one_made s p sel b (Some ws) = made_word s b sel

two_made : (s : Scope) (p q : ℕ) (i : Tree) (sel : SelectTree) (b : Bounds) (ws : Option Bounds)
    → Holds (λ (w : ℕ). IsMade s i × AreMade s sel) (by_nature p (nature_of_object ws b) (λ c. of_vector true s p c (OfWord q i sel)) (λ c. of_memory true s p c (OfWord q i sel)))
two_made s p q i sel b None = never (IsMade s i × AreMade s sel) (index true s i (checked s i)) (record { rule = rule.BadRange; place = select_at sel })
two_made s p q i sel b (Some ws) =
    holds_each (λ (x : Unit {0} × ℕ). IsMade s i × AreMade s sel) (λ (w : ℕ). IsMade s i × AreMade s sel) (λ x. x.1) (followed (index true s i (checked s i)) (part true s p b sel))
    (holds_followed (λ (u : Unit {0}). IsMade s i) (λ (w : ℕ). AreMade s sel) (index true s i (checked s i)) (part true s p b sel) (made_index s i) (made_part s p b sel))
    (λ x k. k)

nature_steady : (s : Scope) (p : ℕ) (sel : SelectsTree) (o : DataObject)
    → Holds (λ (w : ℕ). NameSteady s sel (Some (Object o))) (by_nature p (nature_of_object o.words o.bounds) (λ b. of_vector true s p b sel) (λ b. of_memory true s p b sel))
nature_steady s p Whole o =
    holds_all (NameSteady s Whole (Some (Object o))) (by_nature p (nature_of_object o.words o.bounds) (λ b. of_vector true s p b Whole) (λ b. of_memory true s p b Whole)) (λ m n bits. whole_settles s o o.words m n bits)
nature_steady s p (One sel) o =
    weaker (AreMade s sel) (NameSteady s (One sel) (Some (Object o))) (by_nature p (nature_of_object o.words o.bounds) (λ b. of_vector true s p b (One sel)) (λ b. of_memory true s p b (One sel)))
    (one_made s p sel o.bounds o.words) (λ h m n bits. one_update s o o.words sel m n bits (one_base s sel m h ∙ sym (one_base s sel n h)))
nature_steady s p (OfWord q i sel) o =
    weaker (IsMade s i × AreMade s sel) (NameSteady s (OfWord q i sel) (Some (Object o)))
    (by_nature p (nature_of_object o.words o.bounds) (λ b. of_vector true s p b (OfWord q i sel)) (λ b. of_memory true s p b (OfWord q i sel)))
    (two_made s p q i sel o.bounds o.words)
    (λ h m n bits. two_update s o o.words q i sel m n bits (one_meaning s i (width s i) m n h.0) (one_base s sel m h.1 ∙ sym (one_base s sel n h.1)))

name_steady : (s : Scope) (p : ℕ) (sel : SelectsTree) (x : Option Meaning) → Holds (λ (w : ℕ). NameSteady s sel x) (named_target Continuous s p sel x)
name_steady s p sel None = holds_all (NameSteady s sel None) (named_target Continuous s p sel None) (λ m n bits. refl)
name_steady s p sel (Some Later) = holds_all (NameSteady s sel (Some Later)) (named_target Continuous s p sel (Some Later)) (λ m n bits. refl)
name_steady s p sel (Some (Constant ds b)) = holds_all (NameSteady s sel (Some (Constant ds b))) (named_target Continuous s p sel (Some (Constant ds b))) (λ m n bits. refl)
name_steady s p sel (Some (Object o)) =
    holds_needs (λ (w : ℕ). NameSteady s sel (Some (Object o))) (fits Continuous (Some (Object o))) rule.BadTarget p
    (by_nature p (nature_of (Some (Object o))) (λ b. of_vector true s p b sel) (λ b. of_memory true s p b sel)) (λ ok. nature_steady s p sel o)

-- ---- what is found in a target that drives

once_holds : (P : Type 0) (b : Bool) (p : ℕ) (d : Drive) (ds : List Drive) (y : Found ℕ) → Holds (λ (w : ℕ). P) y → Holds (λ (w : ℕ). P) (once_more b p d ds y).width
once_holds P true p d ds y h = holds_lost (λ (w : ℕ). P) (at rule.TwoDrivers p) y
once_holds P false p d ds y h = h

net_holds : (P : Type 0) (p : ℕ) (d : Drive) (ds : List Drive) (y : Found ℕ) → Holds (λ (w : ℕ). P) y → Holds (λ (w : ℕ). P) (net_driving p d ds y).width
net_holds P p d ds (Sound w) h = once_holds P (is_driven d ds) p d ds (Sound w) h
net_holds P p d ds (Noted b w) h = once_holds P (is_driven d ds) p d ds (Noted b w) h
net_holds P p d ds (Lost b) h = tt

object_holds : (P : Type 0) (p : ℕ) (k : DataKind) (d : Drive) (ds : List Drive) (y : Found ℕ) → Holds (λ (w : ℕ). P) y → Holds (λ (w : ℕ). P) (object_driving p k d ds y).width
object_holds P p Input d ds y h = holds_lost (λ (w : ℕ). P) (at rule.TwoDrivers p) y
object_holds P p Net d ds y h = net_holds P p d ds y h
object_holds P p Register d ds y h = h

name_holds : (P : Type 0) (p : ℕ) (s : Scope) (sel : SelectsTree) (ds : List Drive) (x : Option Meaning) (y : Found ℕ) → Holds (λ (w : ℕ). P) y → Holds (λ (w : ℕ). P) (name_driving p s sel ds x y).width
name_holds P p s sel ds (Some (Object o)) y h = object_holds P p o.kind (selected_drive s o sel) ds y h
name_holds P p s sel ds (Some (Constant v b)) y h = h
name_holds P p s sel ds (Some Later) y h = h
name_holds P p s sel ds None y h = h

-- ---- targets

abbrev pub Steady : Scope → TargetTree → Type 0
Steady s t = (m n : Values) (bits : List Digit) → updates s t m bits ≡ updates s t n bits

abbrev AllSteady : Scope → TargetTrees → Type 0
AllSteady s ts = (m n : Values) (bits : List Digit) → all_updates s ts m bits ≡ all_updates s ts n bits

both_steady : (s : Scope) (t : TargetTree) (ts : TargetTrees) → Steady s t → AllSteady s ts → AllSteady s (more_targets t ts)
both_steady s t ts f g m n bits =
    ap (λ (us : List Update). us ++ all_updates s ts m (slice bits 0 (targets_width s ts))) (f m n (slice bits (targets_width s ts) (target_width s t)))
    ∙ ap (λ (us : List Update). updates s t n (slice bits (targets_width s ts) (target_width s t)) ++ us) (g m n (slice bits 0 (targets_width s ts)))

mutual
  pub target_steady : (q : Option ℕ) (s : Scope) (t : TargetTree) (ds : List Drive) → Holds (λ (w : ℕ). Steady s t) (driving q s t ds).width
  target_steady q s (NamedTarget p n sel) ds =
      name_holds (NameSteady s sel (find n s)) (place_or q p) s sel ds (find n s) (named_target Continuous s p sel (find n s)) (name_steady s p sel (find n s))
  target_steady q s (JoinedTarget p ts) ds = holds_braces (AllSteady s ts) p (all_driving q s ts ds).width (targets_steady q s ts ds)

  targets_steady : (q : Option ℕ) (s : Scope) (ts : TargetTrees) (ds : List Drive) → Holds (λ (w : ℕ). AllSteady s ts) (all_driving q s ts ds).width
  targets_steady q s no_target ds = λ m n bits. refl
  targets_steady q s (more_targets t ts) ds =
      holds_each (λ (x : ℕ × ℕ). Steady s t × AllSteady s ts) (λ (w : ℕ). AllSteady s (more_targets t ts)) (λ x. x.0 + x.1)
      (both (driving q s t ds).width (all_driving q s ts (driving q s t ds).driven).width)
      (holds_both (λ (w : ℕ). Steady s t) (λ (w : ℕ). AllSteady s ts) (driving q s t ds).width (all_driving q s ts (driving q s t ds).driven).width
      (target_steady q s t ds) (targets_steady q s ts (driving q s t ds).driven))
      (λ x h. both_steady s t ts h.0 h.1)
