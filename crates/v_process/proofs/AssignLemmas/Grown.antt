-- The digits that are driven only grow, at the end of the list of drives.
use Rattle.std.proofs.Common.{◌≡◌, ℕ, List, [], ◌∷◌, ◌++◌, Bool, true, false, Option, Some, None, Result, Ok, Err, OnErr, refl, sym, ap, ◌∙◌, subst}
use Rattle.std.proofs.lemmas.List.{append_assoc, append-nil}
use Rattle.v_syntax.specs.ExpressionTrees.{SelectsTree, TargetTree, NamedTarget, JoinedTarget, TargetTrees, no_target, more_targets}
use Rattle.v_flat.specs.declared.scope.found.Found.{Found}
use Rattle.v_flat.specs.declared.scope.found.Found.TheVariants.{Sound, Noted, Lost}
use Rattle.v_flat.specs.declared.scope.meaning.DataKind.{DataKind}
use Rattle.v_flat.specs.declared.scope.meaning.DataKind.TheVariants.{Input, Net, Register}
use Rattle.v_flat.specs.declared.scope.meaning.Meaning.{Meaning}
use Rattle.v_flat.specs.declared.scope.meaning.Meaning.TheVariants as meant
use Rattle.v_flat.specs.Scope.Scope.{Scope, find}
use Rattle.v_flat.specs.declared.manner.Manner.TheVariants.{Continuous}
use Rattle.v_flat.specs.Targets.{Drive, is_driven, once_more, net_driving, object_driving, name_driving, selected_drive, named_target, place_or, driving, all_driving}
use Rattle.v_process.specs.declared.drive.digits.DrivenDigits.{DrivenDigits}
use Rattle.v_process.specs.Drive.Digits.{Keeps}
use Rattle.v_process.specs.declared.target.checked.CheckedTarget.{CheckedTarget}
use Rattle.v_process.specs.Assign.Continuous.{IsContinuous, KeepsAtLeast, KeepsOrGrows, EachDrives, AreContinuous}

-- ---- lists of drives

-- es are ds and some after them
record Grows (ds es : List Drive) : Type 0 where
  later : List Drive
  is : es ≡ ds ++ later

same_grows : (ds : List Drive) → Grows ds ds
same_grows ds = record { later = []; is = sym (append-nil ds) }

grows_on : (ds es fs : List Drive) → Grows ds es → Grows es fs → Grows ds fs
grows_on ds es fs g h = record {
  later = g.later ++ h.later;
  is = h.is ∙ ap (λ (xs : List Drive). xs ++ h.later) g.is ∙ append_assoc ds g.later h.later;
}

once_grows : (b : Bool) (p : ℕ) (d : Drive) (ds : List Drive) (w : Found ℕ) → Grows ds (once_more b p d ds w).driven
once_grows true p d ds w = same_grows ds
once_grows false p d ds w = record { later = d ∷ []; is = refl }

net_grows : (p : ℕ) (d : Drive) (ds : List Drive) (w : Found ℕ) → Grows ds (net_driving p d ds w).driven
net_grows p d ds (Lost b) = same_grows ds
net_grows p d ds (Sound v) = once_grows (is_driven d ds) p d ds (Sound v)
net_grows p d ds (Noted b v) = once_grows (is_driven d ds) p d ds (Noted b v)

object_grows : (p : ℕ) (k : DataKind) (d : Drive) (ds : List Drive) (w : Found ℕ) → Grows ds (object_driving p k d ds w).driven
object_grows p Input d ds w = same_grows ds
object_grows p Net d ds w = net_grows p d ds w
object_grows p Register d ds w = same_grows ds

name_grows : (p : ℕ) (s : Scope) (sel : SelectsTree) (ds : List Drive) (z : Option Meaning) (w : Found ℕ) → Grows ds (name_driving p s sel ds z w).driven
name_grows p s sel ds None w = same_grows ds
name_grows p s sel ds (Some (meant.Constant es b)) w = same_grows ds
name_grows p s sel ds (Some meant.Later) w = same_grows ds
name_grows p s sel ds (Some (meant.Object o)) w = object_grows p o.kind (selected_drive s o sel) ds w

mutual
  driving_grows : (q : Option ℕ) (s : Scope) (t : TargetTree) (ds : List Drive) → Grows ds (driving q s t ds).driven
  driving_grows q s (NamedTarget p n sel) ds = name_grows (place_or q p) s sel ds (find n s) (named_target Continuous s p sel (find n s))
  driving_grows q s (JoinedTarget p ts) ds = all_grows q s ts ds

  all_grows : (q : Option ℕ) (s : Scope) (ts : TargetTrees) (ds : List Drive) → Grows ds (all_driving q s ts ds).driven
  all_grows q s no_target ds = same_grows ds
  all_grows q s (more_targets t ts) ds =
      let es = (driving q s t ds).driven in
      grows_on ds es (all_driving q s ts es).driven (driving_grows q s t ds) (all_grows q s ts es)

-- ---- what stands for them

kept_grown : (ds es : List Drive) (y : DrivenDigits) → Grows ds es → Keeps y es → KeepsAtLeast ds y
kept_grown ds es y g k = record { later = g.later; driven = subst (λ (xs : List Drive). Keeps y xs) g.is k }

pub grown_on : (x y z : DrivenDigits) → KeepsOrGrows x y → KeepsOrGrows y z → KeepsOrGrows x z
grown_on x y z g h = λ ds k.
    let a = g ds k in
    let b = h (ds ++ a.later) a.driven in
    record { later = a.later ++ b.later; driven = subst (λ (xs : List Drive). Keeps z xs) (append_assoc ds a.later b.later) b.driven }

pub target_grown : (q : Option ℕ) (s : Scope) (t : TargetTree) (x y : DrivenDigits) (f : Found CheckedTarget) → IsContinuous q s t x f y → KeepsOrGrows x y
target_grown q s t x y f h = λ ds k. kept_grown ds (driving q s t ds).driven y (driving_grows q s t ds) (h ds k).driven

pub each_keeps : (q : Option ℕ) (s : Scope) (ts : TargetTrees) (ds : List Drive) (fs : List (Found CheckedTarget)) (y : DrivenDigits) → EachDrives q s ts ds fs y
    → Keeps y (all_driving q s ts ds).driven
each_keeps q s no_target ds [] y h = h
each_keeps q s no_target ds (f ∷ fs) y h = absurd h
each_keeps q s (more_targets t ts) ds [] y h = absurd h
each_keeps q s (more_targets t ts) ds (f ∷ fs) y h = each_keeps q s ts (driving q s t ds).driven fs y h.1

pub all_grown : (q : Option ℕ) (s : Scope) (ts : TargetTrees) (x y : DrivenDigits) (fs : List (Found CheckedTarget)) → AreContinuous q s ts x fs y → KeepsOrGrows x y
all_grown q s ts x y fs h = λ ds k. kept_grown ds (all_driving q s ts ds).driven y (all_grows q s ts ds) (each_keeps q s ts ds fs y (h ds k))

-- whatever the call answers
pub on_err : {A E P : Type 0} (r : Result A E) → P → OnErr r P
on_err (Ok a) h = tt
on_err (Err e) h = h
