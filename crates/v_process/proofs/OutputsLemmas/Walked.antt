-- Names and braces that an expression spells as targets.
use Rattle.std.proofs.Common.{◌≡◌, ℕ, ◌+◌, ◌<◌, ◌≤◌, List, [], ◌∷◌, ◌++◌, length, drop, get_or, Option, Some, None, Result, Ok, Err, IfOk, OnErr, sym, subst}
use Rattle.std.proofs.lemmas.List.{append_assoc, append-nil, drop_all}
use Rattle.v_syntax.specs.declared.expression.Expression as code
use Rattle.v_syntax.specs.ExpressionTrees.{Trees, TargetTree, TargetTrees, no_target, more_targets, view, views}
use Rattle.v_flat.specs.declared.scope.found.Found.{Found}
use Rattle.v_flat.specs.Scope.Scope.{Scope}
use Rattle.v_flat.specs.Targets.{Drive, driving, as_target, as_targets, one_target, joined_target}
use Rattle.v_process.specs.declared.drive.digits.DrivenDigits.{DrivenDigits}
use Rattle.v_process.specs.Drive.Digits.{Keeps, KeepsSame}
use Rattle.v_process.specs.declared.target.checked.CheckedTarget.{CheckedTarget}
use Rattle.v_process.specs.declared.assign.parts.TargetParts.{TargetParts}
use Rattle.v_process.specs.Assign.Targets.{ChecksBraces}
use Rattle.v_process.specs.Assign.Continuous.{IsContinuous, AreContinuous, AreTogether, KeepsOrGrows}
use Rattle.v_process.proofs.AssignLemmas.Grown.{target_grown}
use Rattle.v_process.proofs.AssignLemmas.Onward.{Onward, braces_drive}
use Rattle.v_process.specs.Outputs.Spelled.{IsSpelled, AreSpelled}
use Rattle.v_process.proofs.OutputsLemmas.Forms.{views_here}

-- ---- from left to right

-- all parts are targets as soon as those that are left are, which begin with y
abbrev pub OnwardFrom : ℕ → Scope → Option TargetTrees → DrivenDigits → List (Found CheckedTarget) → Option TargetTrees → DrivenDigits → Type 0
OnwardFrom q s None x fs left y = Unit {0}
OnwardFrom q s (Some all) x fs None y = ⊥
OnwardFrom q s (Some all) x fs (Some ts) y = Onward (Some q) s all x fs ts y

pub onward_start : (q : ℕ) (s : Scope) (ts : Option TargetTrees) (x : DrivenDigits) → OnwardFrom q s ts x [] ts x
onward_start q s None x = tt
onward_start q s (Some ts) x = λ gs z h. h

onward_tree : (q : Option ℕ) (s : Scope) (all : TargetTrees) (x y z : DrivenDigits) (fs : List (Found CheckedTarget)) (t : TargetTree) (ts : TargetTrees) (f : Found CheckedTarget)
    → Onward q s all x fs (more_targets t ts) y → IsContinuous q s t y f z → Onward q s all x (fs ++ (f ∷ [])) ts z
onward_tree q s all x y z fs t ts f on h = λ gs a k.
    subst (λ (hs : List (Found CheckedTarget)). AreContinuous q s all x hs a) (sym (append_assoc fs (f ∷ []) gs))
    (on (f ∷ gs) a (λ ds r. ((h ds r).target, k (driving q s t ds).driven (h ds r).driven)))

onward_more : (q : ℕ) (s : Scope) (all : Option TargetTrees) (x y z : DrivenDigits) (fs : List (Found CheckedTarget)) (t : Option TargetTree) (ts : Option TargetTrees)
    (f : Found CheckedTarget) → OnwardFrom q s all x fs (one_target t ts) y → IsSpelled q s t y f z → OnwardFrom q s all x (fs ++ (f ∷ [])) ts z
onward_more q s None x y z fs t ts f on h = tt
onward_more q s (Some all) x y z fs None ts f on h = absurd on
onward_more q s (Some all) x y z fs (Some t) None f on h = absurd on
onward_more q s (Some all) x y z fs (Some t) (Some ts) f on h = onward_tree (Some q) s all x y z fs t ts f on h

pub onward_next : (q : ℕ) (s : Scope) (es : List code.Expression) (i : ℕ) (e : code.Expression) (all : Option TargetTrees) (x y z : DrivenDigits)
    (fs gs : List (Found CheckedTarget)) (f : Found CheckedTarget) → i < length es → e ≡ get_or es i e → gs ≡ fs ++ (f ∷ [])
    → OnwardFrom q s all x fs (as_targets (views (drop i es))) y → IsSpelled q s (as_target (view e)) y f z
    → OnwardFrom q s all x gs (as_targets (views (drop (i + 1) es))) z
onward_next q s es i e all x y z fs gs f l is more on h =
    subst (λ (hs : List (Found CheckedTarget)). OnwardFrom q s all x hs (as_targets (views (drop (i + 1) es))) z) (sym more)
    (onward_more q s all x y z fs (as_target (view e)) (as_targets (views (drop (i + 1) es))) f
    (subst (λ (ts : Trees). OnwardFrom q s all x fs (as_targets ts) y) (views_here es i e l is) on) h)

onward_last : (q : ℕ) (s : Scope) (all : Option TargetTrees) (x y : DrivenDigits) (fs : List (Found CheckedTarget)) → OnwardFrom q s all x fs (Some no_target) y
    → AreSpelled q s all x fs y
onward_last q s None x y fs on = tt
onward_last q s (Some all) x y fs on = subst (λ (hs : List (Found CheckedTarget)). AreContinuous (Some q) s all x hs y) (append-nil fs) (on [] y (λ ds k. k))

pub onward_end : (q : ℕ) (s : Scope) (es : List code.Expression) (i : ℕ) (all : Option TargetTrees) (x y : DrivenDigits) (fs : List (Found CheckedTarget)) → length es ≤ i
    → OnwardFrom q s all x fs (as_targets (views (drop i es))) y → AreSpelled q s all x fs y
onward_end q s es i all x y fs past on =
    onward_last q s all x y fs (subst (λ (xs : List code.Expression). OnwardFrom q s all x fs (as_targets (views xs)) y) (drop_all i es past) on)

-- ---- braces

either_way : {A E : Type 0} (r : Result A E) → IfOk r (λ (a : A). Unit {0})
either_way (Ok a) = tt
either_way (Err e) = tt

pub braces_output : {E : Type 0} (q : ℕ) (s : Scope) (p : ℕ) (ts : Option TargetTrees) (x y : DrivenDigits) (fs : List (Found CheckedTarget)) (f : Found TargetParts)
    (r : Result (Found CheckedTarget) E) → AreSpelled q s ts x fs y → AreTogether fs f → IfOk r (ChecksBraces p f)
    → IfOk r (λ (g : Found CheckedTarget). IsSpelled q s (joined_target p ts) x g y)
braces_output q s p None x y fs f r all found made = either_way r
braces_output q s p (Some ts) x y fs f r all found made = braces_drive (Some q) s p ts x y fs f r all found made

-- ---- what stays driven

pub same_grown : (x y : DrivenDigits) → KeepsSame x y → KeepsOrGrows x y
same_grown x y h = λ ds k. record { later = []; driven = subst (λ (xs : List Drive). Keeps y xs) (sym (append-nil ds)) (h ds k) }

pub name_grown : {E : Type 0} (q : Option ℕ) (s : Scope) (t : TargetTree) (x y : DrivenDigits) (r : Result (Found CheckedTarget) E)
    → IfOk r (λ (f : Found CheckedTarget). IsContinuous q s t x f y) → OnErr r (KeepsSame x y) → KeepsOrGrows x y
name_grown q s t x y (Ok f) h k = target_grown q s t x y f h
name_grown q s t x y (Err e) h k = same_grown x y k
