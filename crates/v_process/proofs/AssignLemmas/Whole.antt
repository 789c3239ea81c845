-- What is found in braces.
use Rattle.std.proofs.Common.{◌≡◌, ℕ, zero, suc, ◌*◌, ◌≤◌, List, [], ◌∷◌, length, Bool, true, false, nat_le, nat_lt, Result, Ok, Err, IfOk, refl, sym, ap, ◌∙◌, arith}
use Rattle.std.proofs.lemmas.Bool.Decides.{nat_tests}
use Rattle.gpi.specs.declared.targets.Target.{Target}
use Rattle.v_syntax.specs.ExpressionTrees.{TargetTrees, JoinedTarget}
use Rattle.v_flat.specs.declared.scope.rule.Broken.{Broken}
use Rattle.v_flat.specs.declared.scope.rule.ElabRule.TheVariants as rule
use Rattle.v_flat.specs.declared.scope.found.Found.{Found}
use Rattle.v_flat.specs.declared.scope.found.Found.TheVariants.{Sound, Noted, Lost}
use Rattle.v_flat.specs.Scope.Found.{noted, each, and_then, wants, needs}
use Rattle.v_flat.specs.Scope.Limits.{counted_width, most_digits}
use Rattle.v_flat.specs.Scope.Scope.{Scope}
use Rattle.v_flat.proofs.ScopeLemmas.Gathered.{each_noted, each_needs, holds_so}
use Rattle.v_flat.specs.Checks.{filled, sized}
use Rattle.v_flat.specs.Targets.{targets_width}
use Rattle.v_flat.proofs.Holds.{holds_noted}
use Rattle.v_check.proofs.ConstantsLemmas.Combined.{sized_counted}
use Rattle.v_process.specs.declared.target.checked.CheckedTarget.{CheckedTarget}
use Rattle.v_process.specs.declared.assign.parts.TargetParts.{TargetParts}
use Rattle.v_process.specs.Assign.Braces.{widths, deepest}
use Rattle.v_process.specs.Assign.Made.{IsClosed, IsWhole}
use Rattle.v_process.specs.Assign.Targets.{GetsAs, IsTarget, GetAsAll, AreTargets, ChecksBraces, all_braces}

-- ---- widths that are cut

some_counted : (w : ℕ) → nat_lt 0 w ≡ nat_lt 0 (counted_width w)
some_counted zero = refl
some_counted (suc w) = grind (arith, nat_tests)

some_filled : (p w : ℕ) → each counted_width (needs (nat_lt 0 w) rule.BadRange p (Sound w)) ≡ needs (nat_lt 0 (counted_width w)) rule.BadRange p (Sound (counted_width w))
some_filled p w = each_needs counted_width (nat_lt 0 w) rule.BadRange p (Sound w)
    ∙ ap (λ (ok : Bool). needs ok rule.BadRange p (let r : Found ℕ = Sound (counted_width w) in r)) (some_counted w)

filled_counted : (p : ℕ) (x : Found ℕ) → each counted_width (filled p x) ≡ filled p (each counted_width x)
filled_counted p (Sound w) = some_filled p w
filled_counted p (Noted b w) = each_noted counted_width b (needs (nat_lt 0 w) rule.BadRange p (Sound w)) ∙ ap (λ (y : Found ℕ). noted b y) (some_filled p w)
filled_counted p (Lost b) = refl

closed_counted : (p : ℕ) (x : Found ℕ) → each counted_width (sized p (filled p x)) ≡ sized p (filled p (each counted_width x))
closed_counted p x = sized_counted p (filled p x) ∙ ap (λ (y : Found ℕ). sized p y) (filled_counted p x)

-- ---- braces

some_parts : (ts : List Target) → 1 ≤ widths ts → 1 ≤ length ts
some_parts [] h = absurd (omega (arith, h))
some_parts (t ∷ ts) h = omega arith

whole_gets : (s : Scope) (p : ℕ) (ts : TargetTrees) (x : TargetParts) (c : CheckedTarget) → IsWhole x c → GetAsAll s ts x → GetsAs s (JoinedTarget p ts) c
whole_gets s p ts x c whole h =
    let e : c.width ≡ x.width = whole.width_is in
    let some : 1 ≤ x.width = whole.some in
    let fits : x.width ≤ 128 = whole.fits in
    let own : x.width ≡ counted_width (targets_width s ts) = h.own in
    let exact : targets_width s ts ≡ x.width = omega (arith, own, fits) in
    let sum : widths x.targets.items ≡ targets_width s ts = h.sum in
    let all = whole.all (some_parts x.targets.items (omega (arith, sum, exact, some))) in record {
      proper = (omega (arith, e, some), omega (arith, e, fits));
      own = exact ∙ sym e;
      width_is = all.width_is ∙ sum ∙ exact ∙ sym e;
      gets = λ m ds l. all.gets m ds (omega (arith, l, sum, exact, e)) ∙ h.gets m ds (omega (arith, l, exact, e));
      sound = λ ws k. all.sound ws (h.sound ws k) (omega (arith, sum, exact, fits));
      balanced = (let few = h.few in let d = all.balanced 7 (omega (arith, few, exact, fits)) in
          let q : deepest x.targets.items ≤ 7 * all_braces ts = h.balanced in omega (arith, d, q));
    }

braces_found : (s : Scope) (p : ℕ) (ts : TargetTrees) (b : Found ℕ) (y : Found TargetParts) → AreTargets s ts b y
    → sized p (filled p (each (λ (x : TargetParts). x.width) y)) ≡ each counted_width (sized p (filled p b))
braces_found s p ts b y h = ap (λ (x : Found ℕ). sized p (filled p x)) h.finds ∙ sym (closed_counted p b)

sound_braces : (s : Scope) (p : ℕ) (ts : TargetTrees) (b : Found ℕ) (x : TargetParts) (f : Found CheckedTarget) → IsClosed p x f → AreTargets s ts b (Sound x)
    → IsTarget s (JoinedTarget p ts) (sized p (filled p b)) f
sound_braces s p ts b x f closed h = record {
  finds = closed.finds ∙ braces_found s p ts b (Sound x) h;
  holds = holds_so (λ (c : CheckedTarget). IsWhole x c) (λ (c : CheckedTarget). GetsAs s (JoinedTarget p ts) c) f closed.holds
      (λ c whole. whole_gets s p ts x c whole h.holds);
}

noted_closed : (p : ℕ) (a : Broken) (w : ℕ) (some : Bool)
    → noted a (and_then (needs some rule.BadRange p (Sound w)) (λ (v : ℕ). wants (nat_le v most_digits) rule.TooWide p (Sound v)))
    ≡ and_then (noted a (needs some rule.BadRange p (Sound w))) (λ (v : ℕ). wants (nat_le v most_digits) rule.TooWide p (Sound v))
noted_closed p a w true = refl
noted_closed p a w false = refl

noted_braces : (s : Scope) (p : ℕ) (ts : TargetTrees) (b : Found ℕ) (a : Broken) (x : TargetParts) (f : Found CheckedTarget) → IsClosed p x f
    → AreTargets s ts b (Noted a x) → IsTarget s (JoinedTarget p ts) (sized p (filled p b)) (noted a f)
noted_braces s p ts b a x f closed h = record {
  finds = each_noted (λ (c : CheckedTarget). c.width) a f ∙ ap (λ (y : Found ℕ). noted a y) closed.finds
      ∙ noted_closed p a x.width (nat_lt 0 x.width) ∙ braces_found s p ts b (Noted a x) h;
  holds = holds_noted (λ (c : CheckedTarget). GetsAs s (JoinedTarget p ts) c) a f;
}

-- ---- what the code answers

pub sound_result : {E : Type 0} (p : ℕ) (x : TargetParts) (r : Result (Found CheckedTarget) E) → IfOk r (IsClosed p x) → IfOk r (ChecksBraces p (Sound x))
sound_result p x (Ok f) closed = λ s ts b h. sound_braces s p ts b x f closed h
sound_result p x (Err e) closed = tt

pub noted_result : (p : ℕ) (a : Broken) (x : TargetParts) (f : Found CheckedTarget) → IsClosed p x f → ChecksBraces p (Noted a x) (noted a f)
noted_result p a x f closed = λ s ts b h. noted_braces s p ts b a x f closed h
