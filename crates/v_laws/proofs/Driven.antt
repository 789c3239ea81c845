-- Digits that are driven: each list of drives goes on from what it had, with digits of nets that weren't driven.
use Rattle.std.proofs.Common.{◌≡◌, ◌||◌, ◌⊎◌, inl, inr, ◌∙◌, ℕ, Bool, true, false, List, [], ◌∷◌, ◌++◌, Option, Some, None, refl, sym, arith}
use Rattle.std.proofs.lemmas.Bool.Decides.{nat_tests}
use Rattle.v_syntax.specs.ExpressionTrees.{SelectsTree, Whole, One, OfWord, TargetTree, NamedTarget, JoinedTarget, TargetTrees, no_target, more_targets}
use Rattle.gpi.specs.declared.selects.Overlap.{Overlap}
use Rattle.gpi.specs.Selects.{overlap_of}
use Rattle.v_flat.specs.declared.scope.found.Found.{Found}
use Rattle.v_flat.specs.declared.scope.found.Found.TheVariants.{Sound, Noted, Lost}
use Rattle.v_flat.specs.declared.scope.meaning.DataKind.{DataKind}
use Rattle.v_flat.specs.declared.scope.meaning.DataKind.TheVariants.{Input, Net, Register}
use Rattle.v_flat.specs.declared.scope.meaning.DataObject.{DataObject}
use Rattle.v_flat.specs.declared.scope.meaning.Meaning.{Meaning}
use Rattle.v_flat.specs.declared.scope.meaning.Meaning.TheVariants.{Constant, Object, Later}
use Rattle.v_flat.specs.Scope.Scope.{Scope, find, width_of}
use Rattle.v_flat.specs.Objects.{range_of}
use Rattle.v_flat.specs.Expressions.{no_signals, select_base, select_width}
use Rattle.v_flat.specs.declared.manner.Manner.TheVariants.{Continuous}
use Rattle.v_flat.specs.Targets.{Drive, meets, is_driven, inside_drive, selected_drive, once_more, net_driving, object_driving, name_driving, place_or, driving, all_driving, named_target}
use Rattle.v_laws.specs.Digits.{Has, IsDriven}

-- ---- lists of drives

pub driven_both : (xs ys : List Drive) (n k : ℕ) → IsDriven (xs ++ ys) n k → IsDriven xs n k ⊎ IsDriven ys n k
driven_both [] ys n k h = inr h
driven_both (x ∷ xs) ys n k (inl h) = inl (inl h)
driven_both (x ∷ xs) ys n k (inr h) = go (driven_both xs ys n k h)
  where
    go : IsDriven xs n k ⊎ IsDriven ys n k → IsDriven (x ∷ xs) n k ⊎ IsDriven ys n k
    go (inl a) = inl (inr a)
    go (inr b) = inr b

pub driven_before : (xs ys : List Drive) (n k : ℕ) → IsDriven xs n k → IsDriven (xs ++ ys) n k
driven_before [] ys n k h = absurd h
driven_before (x ∷ xs) ys n k (inl h) = inl h
driven_before (x ∷ xs) ys n k (inr h) = inr (driven_before xs ys n k h)

pub driven_last : (xs : List Drive) (d : Drive) (n k : ℕ) → Has d n k → IsDriven (xs ++ (d ∷ [])) n k
driven_last [] d n k h = inl h
driven_last (x ∷ xs) d n k h = inr (driven_last xs d n k h)

have_meet : (d x : Drive) (n k : ℕ) → Has d n k → Has x n k → meets d x ≡ true
have_meet d x n k h g =
    let a = h.0 in let b = h.1 in let c = h.2 in let e = g.0 in let f = g.1 in let i = g.2 in grind (arith, nat_tests)

either_true : (a b : Bool) → (a || b) ≡ false → (a ≡ false) × (b ≡ false)
either_true true b h = cc
either_true false b h = (refl, h)

-- a drive that meets none of these has no digit that they have
pub met_by_none : (d : Drive) (ds : List Drive) (n k : ℕ) → is_driven d ds ≡ false → Has d n k → IsDriven ds n k → ⊥
met_by_none d [] n k e h g = g
met_by_none d (x ∷ xs) n k e h (inl g) = let a = (either_true (meets d x) (is_driven d xs) e).0 in let b = have_meet d x n k h g in cc
met_by_none d (x ∷ xs) n k e h (inr g) = met_by_none d xs n k (either_true (meets d x) (is_driven d xs) e).1 h g

-- ---- what a target drives

-- signal n is a net of the scope
pub record IsNet (s : Scope) (n : ℕ) : Type 0 where
  pub name : List ℕ
  pub object : DataObject
  pub found : find name s ≡ Some (Object object)
  pub kind : object.kind ≡ Net
  pub first : object.first ≡ n

-- from ds on there are no fewer, and the new ones are of nets
pub record GoesOn (s : Scope) (ds es : List Drive) : Type 0 where
  pub keeps : (n k : ℕ) → IsDriven ds n k → IsDriven es n k
  pub nets : (n k : ℕ) → IsDriven es n k → IsDriven ds n k ⊎ IsNet s n

pub stays : (s : Scope) (ds : List Drive) → GoesOn s ds ds
stays s ds = record { keeps = λ n k h. h; nets = λ n k h. inl h }

pub goes_on : (s : Scope) (ds es fs : List Drive) → GoesOn s ds es → GoesOn s es fs → GoesOn s ds fs
goes_on s ds es fs h g = record { keeps = λ n k a. g.keeps n k (h.keeps n k a); nets = λ n k a. join n k (g.nets n k a) }
  where
    join : (n k : ℕ) → IsDriven es n k ⊎ IsNet s n → IsDriven ds n k ⊎ IsNet s n
    join n k (inl a) = h.nets n k a
    join n k (inr b) = inr b

one_more : (s : Scope) (d : Drive) (ds : List Drive) → IsNet s d.signal → GoesOn s ds (ds ++ (d ∷ []))
one_more s d ds i = record { keeps = λ n k h. driven_before ds (d ∷ []) n k h; nets = λ n k h. new n k (driven_both ds (d ∷ []) n k h) }
  where
    new : (n k : ℕ) → IsDriven ds n k ⊎ IsDriven (d ∷ []) n k → IsDriven ds n k ⊎ IsNet s n
    new n k (inl a) = inl a
    new n k (inr (inl b)) = inr (record { name = i.name; object = i.object; found = i.found; kind = i.kind; first = i.first ∙ b.0 })
    new n k (inr (inr b)) = absurd b

once_goes : (s : Scope) (b : Bool) (p : ℕ) (d : Drive) (ds : List Drive) (w : Found ℕ) → IsNet s d.signal → GoesOn s ds (once_more b p d ds w).driven
once_goes s true p d ds w i = stays s ds
once_goes s false p d ds w i = one_more s d ds i

net_goes : (s : Scope) (p : ℕ) (d : Drive) (ds : List Drive) (w : Found ℕ) → IsNet s d.signal → GoesOn s ds (net_driving p d ds w).driven
net_goes s p d ds (Lost b) i = stays s ds
net_goes s p d ds (Sound w) i = once_goes s (is_driven d ds) p d ds (Sound w) i
net_goes s p d ds (Noted b w) i = once_goes s (is_driven d ds) p d ds (Noted b w) i

object_goes : (s : Scope) (p : ℕ) (k : DataKind) (d : Drive) (ds : List Drive) (w : Found ℕ) → (k ≡ Net → IsNet s d.signal) → GoesOn s ds (object_driving p k d ds w).driven
object_goes s p Input d ds w i = stays s ds
object_goes s p Net d ds w i = net_goes s p d ds w (i refl)
object_goes s p Register d ds w i = stays s ds

inside_of : (n : ℕ) (o : Option Overlap) → (inside_drive n o).signal ≡ n
inside_of n None = refl
inside_of n (Some o) = refl

-- a drive is of the object's signal
drive_of : (s : Scope) (o : DataObject) (sel : SelectsTree) → (selected_drive s o sel).signal ≡ o.first
drive_of s o Whole = refl
drive_of s o (One sel) = inside_of o.first (overlap_of (range_of o.bounds) (width_of o.bounds) (select_base s sel no_signals) (select_width s sel))
drive_of s o (OfWord p i sel) = refl

name_goes : (p : ℕ) (s : Scope) (sel : SelectsTree) (ds : List Drive) (name : List ℕ) (x : Option Meaning) (w : Found ℕ) → find name s ≡ x → GoesOn s ds (name_driving p s sel ds x w).driven
name_goes p s sel ds name (Some (Object o)) w e =
    object_goes s p o.kind (selected_drive s o sel) ds w (λ k. record { name = name; object = o; found = e; kind = k; first = sym (drive_of s o sel) })
name_goes p s sel ds name (Some (Constant v b)) w e = stays s ds
name_goes p s sel ds name (Some Later) w e = stays s ds
name_goes p s sel ds name None w e = stays s ds

mutual
  pub driving_goes : (q : Option ℕ) (s : Scope) (t : TargetTree) (ds : List Drive) → GoesOn s ds (driving q s t ds).driven
  driving_goes q s (NamedTarget p n sel) ds = name_goes (place_or q p) s sel ds n (find n s) (named_target Continuous s p sel (find n s)) refl
  driving_goes q s (JoinedTarget p ts) ds = all_go q s ts ds

  pub all_go : (q : Option ℕ) (s : Scope) (ts : TargetTrees) (ds : List Drive) → GoesOn s ds (all_driving q s ts ds).driven
  all_go q s no_target ds = stays s ds
  all_go q s (more_targets t ts) ds = goes_on s ds (driving q s t ds).driven (all_driving q s ts (driving q s t ds).driven).driven (driving_goes q s t ds) (all_go q s ts (driving q s t ds).driven)
