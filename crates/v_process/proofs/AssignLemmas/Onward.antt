-- Parts of braces that are assigned to continuously, from left to right, and then together.
use Rattle.std.proofs.Common.{◌≡◌, ℕ, ◌+◌, ◌<◌, ◌≤◌, List, [], ◌∷◌, ◌++◌, length, drop, get_or, Option, Result, Ok, Err, IfOk, sym, ap, ◌∙◌, subst}
use Rattle.std.proofs.lemmas.List.{append_assoc, append-nil, drop_more, drop_all}
use Rattle.v_syntax.specs.declared.expression.Target as code_target
use Rattle.v_syntax.specs.ExpressionTrees.{TargetTree, JoinedTarget, TargetTrees, no_target, more_targets, view_target, view_targets}
use Rattle.v_flat.specs.declared.scope.found.Found.{Found}
use Rattle.v_flat.specs.Scope.Scope.{Scope}
use Rattle.v_flat.specs.Targets.{Drive, driving, all_driving}
use Rattle.v_process.specs.declared.drive.digits.DrivenDigits.{DrivenDigits}
use Rattle.v_process.specs.declared.target.checked.CheckedTarget.{CheckedTarget}
use Rattle.v_process.specs.declared.assign.parts.TargetParts.{TargetParts}
use Rattle.v_process.specs.Assign.Continuous.{IsContinuous, EachDrives, AreContinuous, AreTogether}
use Rattle.v_process.specs.Assign.Targets.{AreTargets, ChecksNoTarget, ChecksMoreTargets, ChecksBraces}
use Rattle.v_process.proofs.AssignLemmas.Grown.{each_keeps}

-- ---- from left to right

-- fs are what was found in the parts of all before ts, and y has the digits that are driven after those
abbrev pub Onward : Option ℕ → Scope → TargetTrees → DrivenDigits → List (Found CheckedTarget) → TargetTrees → DrivenDigits → Type 0
Onward q s all x fs ts y = (gs : List (Found CheckedTarget)) (z : DrivenDigits) → AreContinuous q s ts y gs z → AreContinuous q s all x (fs ++ gs) z

onward_tree : (q : Option ℕ) (s : Scope) (all : TargetTrees) (x y z : DrivenDigits) (fs : List (Found CheckedTarget)) (t : TargetTree) (ts : TargetTrees) (f : Found CheckedTarget)
    → Onward q s all x fs (more_targets t ts) y → IsContinuous q s t y f z → Onward q s all x (fs ++ (f ∷ [])) ts z
onward_tree q s all x y z fs t ts f on h = λ gs a k.
    subst (λ (hs : List (Found CheckedTarget)). AreContinuous q s all x hs a) (sym (append_assoc fs (f ∷ []) gs))
    (on (f ∷ gs) a (λ ds r. ((h ds r).target, k (driving q s t ds).driven (h ds r).driven)))

pub onward_next : (q : Option ℕ) (s : Scope) (xs : List code_target.Target) (i : ℕ) (d : code_target.Target) (x y z : DrivenDigits) (fs gs : List (Found CheckedTarget))
    (f : Found CheckedTarget) → i < length xs → d ≡ get_or xs i d → gs ≡ fs ++ (f ∷ []) → Onward q s (view_targets xs) x fs (view_targets (drop i xs)) y
    → IsContinuous q s (view_target d) y f z → Onward q s (view_targets xs) x gs (view_targets (drop (i + 1) xs)) z
onward_next q s xs i d x y z fs gs f inside is more on h =
    let all = view_targets xs in
    let rest = view_targets (drop (i + 1) xs) in
    subst (λ (hs : List (Found CheckedTarget)). Onward q s all x hs rest z) (sym more)
    (onward_tree q s all x y z fs (view_target d) rest f
    (subst (λ (ts : TargetTrees). Onward q s all x fs ts y)
    (ap (λ (ys : List code_target.Target). view_targets ys) (drop_more xs i d inside) ∙ ap (λ (e : code_target.Target). more_targets (view_target e) rest) (sym is)) on) h)

onward_last : (q : Option ℕ) (s : Scope) (all : TargetTrees) (x y : DrivenDigits) (fs : List (Found CheckedTarget)) → Onward q s all x fs no_target y
    → AreContinuous q s all x fs y
onward_last q s all x y fs on = subst (λ (hs : List (Found CheckedTarget)). AreContinuous q s all x hs y) (append-nil fs) (on [] y (λ ds k. k))

pub onward_end : (q : Option ℕ) (s : Scope) (xs : List code_target.Target) (i : ℕ) (x y : DrivenDigits) (fs : List (Found CheckedTarget)) → length xs ≤ i
    → Onward q s (view_targets xs) x fs (view_targets (drop i xs)) y → AreContinuous q s (view_targets xs) x fs y
onward_end q s xs i x y fs past on =
    onward_last q s (view_targets xs) x y fs
    (subst (λ (ys : List code_target.Target). Onward q s (view_targets xs) x fs (view_targets ys) y) (drop_all i xs past) on)

-- ---- from the last one to the first

none_at : (f : Found TargetParts) → ChecksNoTarget f → (q : Option ℕ) (s : Scope) (ts : TargetTrees) (ds : List Drive) (y : DrivenDigits) → EachDrives q s ts ds [] y
    → AreTargets s ts (all_driving q s ts ds).width f
none_at f h q s no_target ds y k = h s
none_at f h q s (more_targets t ts) ds y k = absurd k

more_at : (g : Found CheckedTarget) (fs : List (Found CheckedTarget)) (f h : Found TargetParts) → ChecksMoreTargets g f h → AreTogether fs f
    → (q : Option ℕ) (s : Scope) (ts : TargetTrees) (ds : List Drive) (y : DrivenDigits) → EachDrives q s ts ds (g ∷ fs) y
    → AreTargets s ts (all_driving q s ts ds).width h
more_at g fs f h made all q s no_target ds y k = absurd k
more_at g fs f h made all q s (more_targets t ts) ds y k =
    let es = (driving q s t ds).driven in
    made s t ts (driving q s t ds).width (all_driving q s ts es).width k.0 (all q s ts es y k.1)

-- f is what is found in those of all that stand behind fs
pub record Behind (all fs : List (Found CheckedTarget)) (f : Found TargetParts) : Type 0 where
  pub rest : List (Found CheckedTarget)
  pub are : all ≡ fs ++ rest
  pub found : AreTogether rest f

pub behind_none : (fs : List (Found CheckedTarget)) (f : Found TargetParts) → ChecksNoTarget f → Behind fs fs f
behind_none fs f h = record { rest = []; are = sym (append-nil fs); found = none_at f h }

pub behind_more : (all fs gs : List (Found CheckedTarget)) (g : Found CheckedTarget) (f h : Found TargetParts) → fs ≡ gs ++ (g ∷ []) → ChecksMoreTargets g f h
    → Behind all fs f → Behind all gs h
behind_more all fs gs g f h last made b = record {
  rest = g ∷ b.rest;
  are = b.are ∙ ap (λ (xs : List (Found CheckedTarget)). xs ++ b.rest) last ∙ append_assoc gs (g ∷ []) b.rest;
  found = more_at g b.rest f h made b.found;
}

-- ---- braces

pub braces_drive : {E : Type 0} (q : Option ℕ) (s : Scope) (p : ℕ) (ts : TargetTrees) (x y : DrivenDigits) (fs : List (Found CheckedTarget)) (f : Found TargetParts)
    (r : Result (Found CheckedTarget) E) → AreContinuous q s ts x fs y → AreTogether fs f → IfOk r (ChecksBraces p f)
    → IfOk r (λ (g : Found CheckedTarget). IsContinuous q s (JoinedTarget p ts) x g y)
braces_drive q s p ts x y fs f (Ok g) all found made = λ ds k. record {
  target = made s ts (all_driving q s ts ds).width (found q s ts ds y (all ds k));
  driven = each_keeps q s ts ds fs y (all ds k);
}
braces_drive q s p ts x y fs f (Err e) all found made = tt
