-- A part before others.
use Rattle.std.proofs.Common.{◌≡◌, ℕ, ◌+◌, ◌≤◌, max, List, [], ◌∷◌, ◌++◌, length, Result, Ok, Err, IfOk, sym, ap, ◌∙◌, subst, arith}
use Rattle.std.proofs.lemmas.List.{length_push}
use Rattle.four_value.specs.declared.Digit.{Digit}
use Rattle.four_value.specs.Vector.{slice}
use Rattle.four_value.proofs.Lengths.{length_slice}
use Rattle.gpi.specs.declared.types.Update.{Update}
use Rattle.gpi.specs.declared.targets.Target.{Target}
use Rattle.gpi.specs.Targets.{target_width, updates_of, IsSoundTarget}
use Rattle.v_syntax.specs.ExpressionTrees.{TargetTree, TargetTrees, more_targets}
use Rattle.v_flat.specs.declared.scope.found.Found.{Found}
use Rattle.v_flat.specs.Scope.Found.{each, both}
use Rattle.v_flat.specs.Scope.Scope.{Scope}
use Rattle.v_flat.specs.Scope.Limits.{counted_width}
use Rattle.v_flat.proofs.ScopeLemmas.Gathered.{both_each}
use Rattle.v_flat.specs.Targets.{targets_width, updates, all_updates}
use Rattle.v_flat.specs.Targets as flat
use Rattle.v_flat.proofs.Holds.{holds_both}
use Rattle.v_check.proofs.ConstantsLemmas.Combined.{made_width, made_holds}
use Rattle.v_check.proofs.ConstantsLemmas.Operators.{counted_whole}
use Rattle.v_process.specs.declared.target.checked.CheckedTarget.{CheckedTarget}
use Rattle.v_process.specs.Target.Targets.{depth}
use Rattle.v_process.specs.declared.assign.parts.TargetParts.{TargetParts}
use Rattle.v_process.specs.Assign.Braces.{widths, updates_in, AreSoundTargets, deepest}
use Rattle.v_process.specs.Assign.Made.{HasPart, AreMoreTargets}
use Rattle.v_process.specs.Assign.Targets.{GetsAs, IsTarget, GetAsAll, AreTargets, ChecksMoreTargets}
use Rattle.v_process.proofs.AssignLemmas.Halves.{widths_append, updates_append, deepest_append, slice_slice}

-- ---- one more part above others

widths_end : (xs : List Target) (t : Target) → widths (xs ++ (t ∷ [])) ≡ widths xs + target_width t
widths_end xs t = let e : widths (xs ++ (t ∷ [])) ≡ widths xs + widths (t ∷ []) = widths_append xs (t ∷ []) in omega (arith, e)

updates_end : (xs : List Target) (t : Target) (m : ℕ → List Digit) (ds : List Digit)
    → updates_in (xs ++ (t ∷ [])) m ds ≡ updates_of t m (slice ds (widths xs) (target_width t)) ++ updates_in xs m (slice ds 0 (widths xs))
updates_end xs t m ds =
    updates_append xs (t ∷ []) m ds
    ∙ ap (λ (es : List Digit). updates_of t m es ++ updates_in xs m (slice ds 0 (widths xs)))
    (slice_slice ds (widths xs) (target_width t + 0) 0 (target_width t) (widths xs) (omega arith) (omega arith))

sound_end : (xs : List Target) (t : Target) (ws : List ℕ) → AreSoundTargets xs ws → IsSoundTarget t ws → AreSoundTargets (xs ++ (t ∷ [])) ws
sound_end [] t ws h k = (k, tt)
sound_end (x ∷ xs) t ws h k = (h.0, sound_end xs t ws h.1 k)

deepest_end : (xs : List Target) (t : Target) → deepest (xs ++ (t ∷ [])) ≡ max (deepest xs) (depth t)
deepest_end xs t = let e : deepest (xs ++ (t ∷ [])) ≡ max (deepest xs) (deepest (t ∷ [])) = deepest_append xs (t ∷ []) in omega (arith, e)

-- ---- a part before others

more_updates : (s : Scope) (t : TargetTree) (ts : TargetTrees) (a : CheckedTarget) (xs : List Target) (m : ℕ → List Digit) (ds : List Digit) → GetsAs s t a
    → widths xs ≡ targets_width s ts
    → ((m : ℕ → List Digit) (ds : List Digit) → length ds ≡ targets_width s ts → updates_in xs m ds ≡ all_updates s ts m ds)
    → length ds ≡ flat.target_width s t + targets_width s ts
    → updates_in (xs ++ (a.target ∷ [])) m ds ≡ all_updates s (more_targets t ts) m ds
more_updates s t ts a xs m ds st sum rest l =
    let v = flat.target_width s t in
    let w = targets_width s ts in
    let own : flat.target_width s t ≡ a.width = st.own in
    let e : target_width a.target ≡ v = st.width_is ∙ sym own in
    updates_end xs a.target m ds
    ∙ ap (λ (n : ℕ). updates_of a.target m (slice ds n (target_width a.target)) ++ updates_in xs m (slice ds 0 n)) sum
    ∙ ap (λ (n : ℕ). updates_of a.target m (slice ds w n) ++ updates_in xs m (slice ds 0 w)) e
    ∙ ap (λ (us : List Update). us ++ updates_in xs m (slice ds 0 w)) (st.gets m (slice ds w v) (length_slice ds w v (omega (arith, l)) ∙ own))
    ∙ ap (λ (us : List Update). updates s t m (slice ds w v) ++ us) (rest m (slice ds 0 w) (length_slice ds 0 w (omega (arith, l))))

more_gets : (s : Scope) (t : TargetTree) (ts : TargetTrees) (a : CheckedTarget) (x y : TargetParts) → HasPart a x y → GetsAs s t a → GetAsAll s ts x
    → GetAsAll s (more_targets t ts) y
more_gets s t ts a x y made st rest =
    let own : flat.target_width s t ≡ a.width = st.own in
    let low : 1 ≤ a.width = st.proper.0 in record {
      own = (let p = made.width_is in let q = rest.own in omega (arith, p, q, own));
      sum = ap (λ (ts : List Target). widths ts) made.targets_are ∙ widths_end x.targets.items a.target
          ∙ (let p = st.width_is in let q = rest.sum in omega (arith, p, q, own));
      gets = λ m ds l. ap (λ (ts : List Target). updates_in ts m ds) made.targets_are
          ∙ more_updates s t ts a x.targets.items m ds st rest.sum rest.gets l;
      sound = λ ws k. subst (λ (ts : List Target). AreSoundTargets ts ws) (sym made.targets_are)
          (sound_end x.targets.items a.target ws (rest.sound ws k.1) (st.sound ws k.0));
      few = (let e : length y.targets.items ≡ length x.targets.items + 1 = ap (λ (ts : List Target). length ts) made.targets_are ∙ length_push x.targets.items a.target in
          let f = rest.few in omega (arith, e, f, own, low));
      balanced = (let e : deepest y.targets.items ≡ max (deepest x.targets.items) (depth a.target) =
          ap (λ (ts : List Target). deepest ts) made.targets_are ∙ deepest_end x.targets.items a.target in
          let p = st.balanced in let q = rest.balanced in omega (arith, e, p, q));
    }

sum_counted : (a b : ℕ) → counted_width (counted_width a + counted_width b) ≡ counted_width (a + b)
sum_counted a b = omega arith

pub more_checked : (s : Scope) (t : TargetTree) (ts : TargetTrees) (a b : Found ℕ) (x : Found CheckedTarget) (y f : Found TargetParts) → IsTarget s t a x
    → AreTargets s ts b y → AreMoreTargets (both x y) f → AreTargets s (more_targets t ts) (each (λ (p : ℕ × ℕ). p.0 + p.1) (both a b)) f
more_checked s t ts a b x y f h k made = record {
  finds = counted_whole {A = CheckedTarget × TargetParts} {B = ℕ × ℕ} (λ (z : TargetParts). z.width) (λ (p : ℕ × ℕ). counted_width (p.0 + p.1)) (λ (p : ℕ × ℕ). p.0 + p.1)
      (λ (p : ℕ × ℕ). (counted_width p.0, counted_width p.1)) (λ (p : CheckedTarget × TargetParts). (p.0.width, p.1.width)) (both x y) (both a b) f
      (made_width (λ (p : CheckedTarget × TargetParts) (z : TargetParts). HasPart p.0 p.1 z) (λ (z : TargetParts). z.width)
      (λ (p : CheckedTarget × TargetParts). counted_width (p.0.width + p.1.width)) (both x y) f made (λ p z q. q.width_is))
      (sym (both_each (λ (c : CheckedTarget). c.width) (λ (z : TargetParts). z.width) x y)
      ∙ ap (λ (z : Found ℕ). both z (each (λ (z : TargetParts). z.width) y)) h.finds ∙ ap (λ (z : Found ℕ). both (each counted_width a) z) k.finds
      ∙ both_each counted_width counted_width a b)
      (λ p. sum_counted p.0 p.1);
  holds = made_holds (λ (p : CheckedTarget × TargetParts) (z : TargetParts). HasPart p.0 p.1 z)
      (λ (p : CheckedTarget × TargetParts). GetsAs s t p.0 × GetAsAll s ts p.1)
      (λ (z : TargetParts). GetAsAll s (more_targets t ts) z) (both x y) f made
      (holds_both (λ (c : CheckedTarget). GetsAs s t c) (λ (z : TargetParts). GetAsAll s ts z) x y h.holds k.holds)
      (λ p z q st. more_gets s t ts p.0 p.1 z q st.0 st.1);
}

pub more_result : {E : Type 0} (x : Found CheckedTarget) (y : Found TargetParts) (r : Result (Found TargetParts) E) → IfOk r (AreMoreTargets (both x y))
    → IfOk r (ChecksMoreTargets x y)
more_result x y (Ok f) made = λ s t ts a b h k. more_checked s t ts a b x y f h k made
more_result x y (Err e) made = tt
