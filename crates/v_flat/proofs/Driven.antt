-- Over the items of an instance each digit of a net is driven once.
use Rattle.std.proofs.Common.{◌≡◌, ℕ, Bool, true, false, List, [], ◌∷◌, ◌++◌, Option, Some, None, refl, arith}
use Rattle.v_syntax.specs.ExpressionTrees.{SelectsTree, TargetTree, NamedTarget, JoinedTarget, TargetTrees, no_target, more_targets}
use Rattle.v_flat.specs.declared.scope.found.Found.{Found}
use Rattle.v_flat.specs.declared.scope.found.Found.TheVariants.{Sound, Noted, Lost}
use Rattle.v_flat.specs.declared.scope.meaning.DataKind.{DataKind}
use Rattle.v_flat.specs.declared.scope.meaning.DataKind.TheVariants.{Input, Net, Register}
use Rattle.v_flat.specs.declared.scope.meaning.Meaning.{Meaning}
use Rattle.v_flat.specs.declared.scope.meaning.Meaning.TheVariants.{Constant, Object, Later}
use Rattle.v_flat.specs.Scope.Scope.{Scope, find}
use Rattle.v_flat.specs.Targets.{Drive, meets, is_driven, once_more, net_driving, object_driving, name_driving, selected_drive, place_or, driving, all_driving, named_target}
use Rattle.v_flat.specs.declared.manner.Manner.TheVariants.{Continuous}
use Rattle.v_flat.specs.Laws.{Missed, Apart}

missed_last : (x d : Drive) (ds : List Drive) → meets d x ≡ false → Missed x ds → Missed x (ds ++ (d ∷ []))
missed_last x d [] h m = (h, tt)
missed_last x d (y ∷ ys) h m = (m.0, missed_last x d ys h m.1)

apart_by : (b : Bool) (d x : Drive) (xs : List Drive) → meets d x ≡ b → is_driven d (x ∷ xs) ≡ false → (meets d x ≡ false) × (is_driven d xs ≡ false)
apart_by true d x xs h e = grind arith
apart_by false d x xs h e = (h, grind arith)

pub apart_last : (d : Drive) (ds : List Drive) → is_driven d ds ≡ false → Apart ds → Apart (ds ++ (d ∷ []))
apart_last d [] e a = (tt, tt)
apart_last d (x ∷ xs) e a =
    let k = apart_by (meets d x) d x xs refl e in
    (missed_last x d xs k.0 a.0, apart_last d xs k.1 a.1)

once_more_apart : (b : Bool) (p : ℕ) (d : Drive) (ds : List Drive) (w : Found ℕ) → is_driven d ds ≡ b → Apart ds → Apart (once_more b p d ds w).driven
once_more_apart true p d ds w h a = a
once_more_apart false p d ds w h a = apart_last d ds h a

net_apart : (p : ℕ) (d : Drive) (ds : List Drive) (w : Found ℕ) → Apart ds → Apart (net_driving p d ds w).driven
net_apart p d ds (Lost b) a = a
net_apart p d ds (Sound w) a = once_more_apart (is_driven d ds) p d ds (Sound w) refl a
net_apart p d ds (Noted b w) a = once_more_apart (is_driven d ds) p d ds (Noted b w) refl a

object_apart : (p : ℕ) (k : DataKind) (d : Drive) (ds : List Drive) (w : Found ℕ) → Apart ds → Apart (object_driving p k d ds w).driven
object_apart p Input d ds w a = a
object_apart p Net d ds w a = net_apart p d ds w a
object_apart p Register d ds w a = a

name_apart : (p : ℕ) (s : Scope) (sel : SelectsTree) (ds : List Drive) (x : Option Meaning) (w : Found ℕ) → Apart ds → Apart (name_driving p s sel ds x w).driven
name_apart p s sel ds (Some (Object o)) w a = object_apart p o.kind (selected_drive s o sel) ds w a
name_apart p s sel ds (Some (Constant v b)) w a = a
name_apart p s sel ds (Some Later) w a = a
name_apart p s sel ds None w a = a

mutual
  pub driving_apart : (q : Option ℕ) (s : Scope) (t : TargetTree) (ds : List Drive) → Apart ds → Apart (driving q s t ds).driven
  driving_apart q s (NamedTarget p n sel) ds a = name_apart (place_or q p) s sel ds (find n s) (named_target Continuous s p sel (find n s)) a
  driving_apart q s (JoinedTarget p ts) ds a = all_apart q s ts ds a

  pub all_apart : (q : Option ℕ) (s : Scope) (ts : TargetTrees) (ds : List Drive) → Apart ds → Apart (all_driving q s ts ds).driven
  all_apart q s no_target ds a = a
  all_apart q s (more_targets t ts) ds a = all_apart q s ts (driving q s t ds).driven (driving_apart q s t ds a)
