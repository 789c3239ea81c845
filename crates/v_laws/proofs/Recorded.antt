-- What a continuous assignment updates lies in the drives that are recorded for its target.
use Rattle.std.proofs.Common.{◌≡◌, ◌+◌, ◌≤◌, ◌⊎◌, inl, inr, ℕ, Bool, true, false, List, [], ◌∷◌, ◌++◌, drop, length, min, nat_le, nat_lt, Option, Some, None, refl, ap, subst, arith}
use Rattle.std.proofs.lemmas.List.{length-take}
use Rattle.four_value.specs.declared.Digit.{Digit}
use Rattle.four_value.specs.Vector.{slice}
use Rattle.four_value.specs.Limits.{most_digits}
use Rattle.gpi.specs.declared.types.Update.{Update}
use Rattle.gpi.specs.declared.selects.Overlap.{Overlap}
use Rattle.gpi.specs.Selects.{overlap_of}
use Rattle.gpi.specs.Targets.{part_update}
use Rattle.v_syntax.specs.ExpressionTrees.{SelectsTree, Whole, One, OfWord, TargetTree, NamedTarget, JoinedTarget, TargetTrees, no_target, more_targets}
use Rattle.v_flat.specs.declared.scope.rule.ElabRule.TheVariants as rule
use Rattle.v_flat.specs.declared.scope.found.Found.{Found}
use Rattle.v_flat.specs.declared.scope.found.Found.TheVariants.{Sound, Noted, Lost}
use Rattle.v_flat.specs.declared.scope.meaning.Bounds.{Bounds}
use Rattle.v_flat.specs.declared.scope.meaning.DataKind.{DataKind}
use Rattle.v_flat.specs.declared.scope.meaning.DataKind.TheVariants.{Input, Net, Register}
use Rattle.v_flat.specs.declared.scope.meaning.DataObject.{DataObject}
use Rattle.v_flat.specs.declared.scope.meaning.Meaning.{Meaning}
use Rattle.v_flat.specs.declared.scope.meaning.Meaning.TheVariants.{Constant, Object, Later}
use Rattle.v_flat.specs.Scope.Rules.{at}
use Rattle.v_flat.specs.Scope.Found.{Holds, both, needs, wants}
use Rattle.v_flat.specs.Scope.Scope.{Scope, find, width_of}
use Rattle.v_flat.specs.Objects.{nature_of, range_of}
use Rattle.v_flat.specs.Expressions.{Values, named_width, no_signals, select_base, select_width}
use Rattle.v_flat.specs.Checks.{by_nature, filled, of_memory, of_vector, sized}
use Rattle.v_flat.specs.declared.manner.Manner.TheVariants.{Continuous}
use Rattle.v_flat.specs.Targets.{Drive, all_driving, all_updates, driving, fits_kind, inside_drive, is_driven, name_driving, name_update, named_target, net_driving, object_driving, object_update, once_more, place_or, selected_drive, target_width, targets_width, updates}
use Rattle.v_flat.proofs.Holds.{holds_both, holds_each, holds_lost, holds_needs, holds_then, holds_wants}
use Rattle.v_laws.specs.Digits.{Has, IsDriven, IsWritten}
use Rattle.v_laws.specs.Drivers.{NetsHaveNoWords, Updates_are_recorded}
use Rattle.v_laws.proofs.Driven.{all_go, driven_last, driving_goes, met_by_none}
use Rattle.v_laws.proofs.Fixed.{AreFixed, fixed_name, holds_all, one_base}

-- ---- the updates of one name

few : (ds : List Digit) (low w : ℕ) → length (slice ds low w) ≤ w
few ds low w = let l : length (slice ds low w) ≡ min w (length (drop low ds)) = length-take w (drop low ds) in omega (arith, l)

part_has : (n k first : ℕ) (o : Option Overlap) (ds : List Digit) → IsWritten (part_update (Some first) o ds) n k → Has (inside_drive first o) n k
part_has n k first None ds h = absurd h
part_has n k first (Some o) ds (inl h) = let a = h.1 in let b = h.2 in let l = few ds o.skip o.count in (h.0, a, omega (arith, b, l))
part_has n k first (Some o) ds (inr h) = absurd h

update_has : (s : Scope) (o : DataObject) (sel : SelectsTree) → AreFixed s sel → (m : Values) (bits : List Digit) (n k : ℕ) → length bits ≤ named_width s sel (Some (Object o)) → o.words ≡ None
    → IsWritten (object_update o None s sel m bits) n k → Has (selected_drive s o sel) n k
update_has s o Whole f m bits n k l e (inl h) = let a = h.1 in let b = h.2 in (h.0, omega arith, omega (arith, b, l))
update_has s o Whole f m bits n k l e (inr h) = absurd h
update_has s o (One sel) f m bits n k l e h =
    part_has n k o.first (overlap_of (range_of o.bounds) (width_of o.bounds) (select_base s sel no_signals) (select_width s sel)) bits
    (subst (λ b. IsWritten (part_update (Some o.first) (overlap_of (range_of o.bounds) (width_of o.bounds) b (select_width s sel)) bits) n k) (one_base s sel m f) h)
update_has s o (OfWord p i sel) f m bits n k l e h = absurd f

-- ---- one name

abbrev AreRecorded : List Drive → List Drive → List Update → Type 0
AreRecorded ds es us = (n k : ℕ) → IsWritten us n k → IsDriven es n k × (IsDriven ds n k → ⊥)

abbrev NameRecorded : Scope → SelectsTree → Option Meaning → List Drive → List Drive → Type 0
NameRecorded s sel x ds es = (m : Values) (bits : List Digit) → length bits ≤ named_width s sel x → AreRecorded ds es (name_update x s sel m bits)

net_new : (s : Scope) (o : DataObject) (sel : SelectsTree) (ds : List Drive) → is_driven (selected_drive s o sel) ds ≡ false → o.words ≡ None → AreFixed s sel
    → NameRecorded s sel (Some (Object o)) ds (ds ++ (selected_drive s o sel ∷ []))
net_new s o sel ds e none f m bits l n k h =
    let has : Has (selected_drive s o sel) n k = update_has s o sel f m bits n k l none (subst (λ (w : Option Bounds). IsWritten (object_update o w s sel m bits) n k) none h) in
    (driven_last ds (selected_drive s o sel) n k has, met_by_none (selected_drive s o sel) ds n k e has)

once_recorded : (s : Scope) (o : DataObject) (sel : SelectsTree) (p : ℕ) (ds : List Drive) (b : Bool) (w : ℕ) → is_driven (selected_drive s o sel) ds ≡ b → o.words ≡ None → AreFixed s sel
    → Holds (λ (v : ℕ). NameRecorded s sel (Some (Object o)) ds (once_more b p (selected_drive s o sel) ds (Sound w)).driven) (once_more b p (selected_drive s o sel) ds (Sound w)).width
once_recorded s o sel p ds true w e none f = tt
once_recorded s o sel p ds false w e none f = net_new s o sel ds e none f

noted_recorded : (P : List Drive → Type 0) (p : ℕ) (d : Drive) (ds : List Drive) (b : Bool) (r : _) (w : ℕ)
    → Holds (λ (v : ℕ). P (once_more b p d ds (Noted r w)).driven) (once_more b p d ds (Noted r w)).width
noted_recorded P p d ds true r w = tt
noted_recorded P p d ds false r w = tt

net_recorded : (s : Scope) (o : DataObject) (sel : SelectsTree) (p : ℕ) (ds : List Drive) (y : Found ℕ) → Holds (λ (w : ℕ). AreFixed s sel) y → o.words ≡ None
    → Holds (λ (v : ℕ). NameRecorded s sel (Some (Object o)) ds (net_driving p (selected_drive s o sel) ds y).driven) (net_driving p (selected_drive s o sel) ds y).width
net_recorded s o sel p ds (Sound w) f none = once_recorded s o sel p ds (is_driven (selected_drive s o sel) ds) w refl none f
net_recorded s o sel p ds (Noted r w) f none =
    noted_recorded (NameRecorded s sel (Some (Object o)) ds) p (selected_drive s o sel) ds (is_driven (selected_drive s o sel) ds) r w
net_recorded s o sel p ds (Lost r) f none = tt

-- a register isn't assigned continuously
not_register : (s : Scope) (p : ℕ) (sel : SelectsTree) (o : DataObject) (P : Type 0) → o.kind ≡ Register → Holds (λ (w : ℕ). P) (named_target Continuous s p sel (Some (Object o)))
not_register s p sel o P e =
    holds_needs (λ (w : ℕ). P) (fits_kind Continuous o.kind) rule.BadTarget p
    (by_nature p (nature_of (Some (Object o))) (λ b. of_vector true s p b sel) (λ b. of_memory true s p b sel)) (λ ok. let k = ap (fits_kind Continuous) e in absurd (cc))

object_recorded : (s : Scope) (o : DataObject) (sel : SelectsTree) (p r : ℕ) (ds : List Drive) (k : DataKind) → o.kind ≡ k → (k ≡ Net → o.words ≡ None)
    → Holds (λ (v : ℕ). NameRecorded s sel (Some (Object o)) ds (object_driving r k (selected_drive s o sel) ds (named_target Continuous s p sel (Some (Object o)))).driven)
    (object_driving r k (selected_drive s o sel) ds (named_target Continuous s p sel (Some (Object o)))).width
object_recorded s o sel p r ds Input e none =
    holds_lost (λ (v : ℕ). NameRecorded s sel (Some (Object o)) ds ds) (at rule.TwoDrivers r) (named_target Continuous s p sel (Some (Object o)))
object_recorded s o sel p r ds Net e none = net_recorded s o sel r ds (named_target Continuous s p sel (Some (Object o))) (fixed_name s p sel o (none refl)) (none refl)
object_recorded s o sel p r ds Register e none = not_register s p sel o (NameRecorded s sel (Some (Object o)) ds ds) e

name_recorded : (s : Scope) (sel : SelectsTree) (p r : ℕ) (ds : List Drive) (x : Option Meaning) → ((o : DataObject) → x ≡ Some (Object o) → o.kind ≡ Net → o.words ≡ None)
    → Holds (λ (v : ℕ). NameRecorded s sel x ds (name_driving r s sel ds x (named_target Continuous s p sel x)).driven) (name_driving r s sel ds x (named_target Continuous s p sel x)).width
name_recorded s sel p r ds None none = holds_all (NameRecorded s sel None ds ds) (named_target Continuous s p sel None) (λ m bits l n k h. absurd h)
name_recorded s sel p r ds (Some Later) none = holds_all (NameRecorded s sel (Some Later) ds ds) (named_target Continuous s p sel (Some Later)) (λ m bits l n k h. absurd h)
name_recorded s sel p r ds (Some (Constant v b)) none =
    holds_all (NameRecorded s sel (Some (Constant v b)) ds ds) (named_target Continuous s p sel (Some (Constant v b))) (λ m bits l n k h. absurd h)
name_recorded s sel p r ds (Some (Object o)) none = object_recorded s o sel p r ds o.kind refl (λ k. none o refl k)

-- ---- braces

pub written_both : (xs ys : List Update) (n k : ℕ) → IsWritten (xs ++ ys) n k → IsWritten xs n k ⊎ IsWritten ys n k
written_both [] ys n k h = inr h
written_both (x ∷ xs) ys n k (inl h) = inl (inl h)
written_both (x ∷ xs) ys n k (inr h) = go (written_both xs ys n k h)
  where
    go : IsWritten xs n k ⊎ IsWritten ys n k → IsWritten (x ∷ xs) n k ⊎ IsWritten ys n k
    go (inl a) = inl (inr a)
    go (inr b) = inr b

pub holds_braces : (P : Type 0) (p : ℕ) (x : Found ℕ) → Holds (λ (w : ℕ). P) x → Holds (λ (w : ℕ). P) (sized p (filled p x))
holds_braces P p x h =
    holds_then (λ (w : ℕ). P) (λ (w : ℕ). P) (filled p x) (λ w. wants (nat_le w most_digits) rule.TooWide p (Sound w))
    (holds_then (λ (w : ℕ). P) (λ (w : ℕ). P) x (λ w. needs (nat_lt 0 w) rule.BadRange p (Sound w)) h (λ w k. holds_needs (λ (v : ℕ). P) (nat_lt 0 w) rule.BadRange p (Sound w) (λ ok. k)))
    (λ w k. holds_wants (λ (v : ℕ). P) (nat_le w most_digits) rule.TooWide p (Sound w) (λ ok. k))

abbrev pub TargetRecorded : Scope → TargetTree → List Drive → List Drive → Type 0
TargetRecorded s t ds es = (m : Values) (bits : List Digit) → length bits ≤ target_width s t → AreRecorded ds es (updates s t m bits)

abbrev TargetsRecorded : Scope → TargetTrees → List Drive → List Drive → Type 0
TargetsRecorded s ts ds es = (m : Values) (bits : List Digit) → AreRecorded ds es (all_updates s ts m bits)

module _ (q : Option ℕ) (s : Scope) (none : NetsHaveNoWords s) where
  first_recorded : (t : TargetTree) (ts : TargetTrees) (ds : List Drive) → TargetRecorded s t ds (driving q s t ds).driven
      → TargetsRecorded s ts (driving q s t ds).driven (all_driving q s ts (driving q s t ds).driven).driven
      → TargetsRecorded s (more_targets t ts) ds (all_driving q s ts (driving q s t ds).driven).driven
  first_recorded t ts ds h g m bits n k w =
      go (written_both (updates s t m (slice bits (targets_width s ts) (target_width s t))) (all_updates s ts m (slice bits 0 (targets_width s ts))) n k w)
    where
      es : List Drive
      es = (driving q s t ds).driven

      go : IsWritten (updates s t m (slice bits (targets_width s ts) (target_width s t))) n k ⊎ IsWritten (all_updates s ts m (slice bits 0 (targets_width s ts))) n k
          → IsDriven (all_driving q s ts es).driven n k × (IsDriven ds n k → ⊥)
      go (inl a) = let r = h m (slice bits (targets_width s ts) (target_width s t)) (few bits (targets_width s ts) (target_width s t)) n k a in ((all_go q s ts es).keeps n k r.0, r.1)
      go (inr b) = let r = g m (slice bits 0 (targets_width s ts)) n k b in (r.0, λ d. r.1 ((driving_goes q s t ds).keeps n k d))

  mutual
    pub target_recorded : (t : TargetTree) (ds : List Drive) → Holds (λ (w : ℕ). TargetRecorded s t ds (driving q s t ds).driven) (driving q s t ds).width
    target_recorded (NamedTarget p n sel) ds = name_recorded s sel p (place_or q p) ds (find n s) (λ o e k. none n o e k)
    target_recorded (JoinedTarget p ts) ds =
        holds_braces (TargetRecorded s (JoinedTarget p ts) ds (all_driving q s ts ds).driven) p (all_driving q s ts ds).width
        (weaker (all_driving q s ts ds).width (targets_recorded ts ds))
      where
        weaker : (x : Found ℕ) → Holds (λ (w : ℕ). TargetsRecorded s ts ds (all_driving q s ts ds).driven) x → Holds (λ (w : ℕ). TargetRecorded s (JoinedTarget p ts) ds (all_driving q s ts ds).driven) x
        weaker (Sound w) h = λ m bits l. h m bits
        weaker (Noted b w) h = tt
        weaker (Lost b) h = tt

    targets_recorded : (ts : TargetTrees) (ds : List Drive) → Holds (λ (w : ℕ). TargetsRecorded s ts ds (all_driving q s ts ds).driven) (all_driving q s ts ds).width
    targets_recorded no_target ds = λ m bits n k h. absurd h
    targets_recorded (more_targets t ts) ds =
        holds_each (λ (y : ℕ × ℕ). TargetRecorded s t ds (driving q s t ds).driven × TargetsRecorded s ts (driving q s t ds).driven (all_driving q s ts (driving q s t ds).driven).driven)
        (λ (w : ℕ). TargetsRecorded s (more_targets t ts) ds (all_driving q s ts (driving q s t ds).driven).driven) (λ y. y.0 + y.1)
        (both (driving q s t ds).width (all_driving q s ts (driving q s t ds).driven).width)
        (holds_both (λ (w : ℕ). TargetRecorded s t ds (driving q s t ds).driven)
        (λ (w : ℕ). TargetsRecorded s ts (driving q s t ds).driven (all_driving q s ts (driving q s t ds).driven).driven) (driving q s t ds).width
        (all_driving q s ts (driving q s t ds).driven).width (target_recorded t ds) (targets_recorded ts (driving q s t ds).driven))
        (λ y h. first_recorded t ts ds h.0 h.1)

pub recorded : Updates_are_recorded
recorded q s t ds none = shape (driving q s t ds).width (target_recorded q s none t ds)
  where
    shape : (x : Found ℕ) → Holds (λ (w : ℕ). TargetRecorded s t ds (driving q s t ds).driven) x
        → Holds (λ (w : ℕ). (m : Values) (bits : List Digit) (n k : ℕ) → length bits ≤ target_width s t → IsWritten (updates s t m bits) n k
        → IsDriven (driving q s t ds).driven n k × (IsDriven ds n k → ⊥)) x
    shape (Sound w) h = λ m bits n k l u. h m bits l n k u
    shape (Noted b w) h = tt
    shape (Lost b) h = tt
