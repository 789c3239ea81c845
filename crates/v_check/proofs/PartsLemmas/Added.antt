-- No part, and a part before others.
use Rattle.std.proofs.Common.{◌≡◌, ℕ, ◌+◌, List, [], ◌++◌, sym, ap, ◌∙◌, subst, arith}
use Rattle.four_value.specs.declared.Digit.{Digit}
use Rattle.gpi.specs.declared.terms.Term.{Term}
use Rattle.gpi.specs.Terms.{value}
use Rattle.v_syntax.specs.ExpressionTrees.{Tree, Trees, none, more}
use Rattle.v_flat.specs.declared.scope.found.Found.{Found}
use Rattle.v_flat.specs.declared.scope.found.Found.TheVariants.{Sound}
use Rattle.v_flat.specs.Scope.Found.{each, both}
use Rattle.v_flat.specs.Scope.Scope.{Scope}
use Rattle.v_flat.proofs.ScopeLemmas.Gathered.{both_each}
use Rattle.v_flat.specs.Scope.Limits.{counted_width}
use Rattle.v_check.specs.Contextual.Concatenations.{values, AreSound}
use Rattle.v_check.specs.Contextual.Concatenations as term
use Rattle.v_flat.specs.Expressions.{meaning, joined}
use Rattle.v_flat.specs.Checks.{checked, all_checked}
use Rattle.v_flat.proofs.Holds.{holds_both}
use Rattle.v_check.specs.declared.constants.checked.Checked.{Checked}
use Rattle.v_check.specs.Constants.Checked.{StandsFor, IsChecked}
use Rattle.v_check.proofs.ConstantsLemmas.Combined.{made_width, made_holds}
use Rattle.v_check.proofs.ConstantsLemmas.Operators.{counted_whole}
use Rattle.v_check.specs.declared.parts.parts.Parts.{Parts}
use Rattle.v_check.specs.Parts.Made.{MakesMore, AreMore}
use Rattle.std.proofs.Common.{Result, Ok, Err, IfOk}
use Rattle.v_check.specs.Parts.Parts.{StandFor, AreChecked, ChecksMore}
use Rattle.v_check.proofs.PartsLemmas.Lists.{values_end, widths_end, sound_end}

pub none_checked : (s : Scope) (x : Parts) → x.width ≡ 0 → x.terms.items ≡ [] → AreChecked s none (Sound x)
none_checked s x e h = record {
  finds = ap (λ (n : ℕ). (let r : Found ℕ = Sound n in r)) e;
  holds = record {
    own = e;
    sum = ap (λ (ts : List Term). term.widths ts) h;
    mean = λ m. ap (λ (ts : List Term). values ts m) h;
    sound = λ ws k. subst (λ (ts : List Term). AreSound ts ws) (sym h) tt;
  };
}

more_stands : (s : Scope) (e : Tree) (es : Trees) (a : Checked) (x y : Parts) → MakesMore a x y → StandsFor s e a → StandFor s es x → StandFor s (more e es) y
more_stands s e es a x y made st rest = record {
  own = (let p = made.width_is in let q = rest.own in let r = st.own in omega arith);
  sum = ap (λ (ts : List Term). term.widths ts) made.terms_are ∙ widths_end x.terms.items made.part
      ∙ (let p = made.lowered.width_is in let q = rest.sum in let r = st.own in omega arith);
  mean = λ m. ap (λ (ts : List Term). values ts m) made.terms_are ∙ values_end x.terms.items made.part m
      ∙ ap (λ (ds : List Digit). ds ++ value made.part m) (rest.mean m)
      ∙ ap (λ (ds : List Digit). joined s es m ++ ds) (made.lowered.value_is m ∙ st.means a.width m ∙ ap (λ (n : ℕ). meaning s e n m) (sym st.own));
  sound = λ ws k. subst (λ (ts : List Term). AreSound ts ws) (sym made.terms_are)
      (sound_end x.terms.items made.part ws (rest.sound ws k.1) (made.lowered.sound ws (st.sound ws k.0, st.proper)));
}

sum_counted : (a b : ℕ) → counted_width (counted_width a + counted_width b) ≡ counted_width (a + b)
sum_counted a b = omega arith

pub more_checked : (s : Scope) (e : Tree) (es : Trees) (x : Found Checked) (y f : Found Parts) → IsChecked s e x → AreChecked s es y → AreMore (both x y) f
    → AreChecked s (more e es) f
more_checked s e es x y f h k made = record {
  finds = counted_whole {A = Checked × Parts} {B = ℕ × ℕ} (λ (z : Parts). z.width) (λ (p : ℕ × ℕ). counted_width (p.0 + p.1)) (λ (p : ℕ × ℕ). p.0 + p.1)
      (λ (p : ℕ × ℕ). (counted_width p.0, counted_width p.1)) (λ (p : Checked × Parts). (p.0.width, p.1.width)) (both x y) (both (checked s e) (all_checked s es)) f
      (made_width (λ (p : Checked × Parts) (z : Parts). MakesMore p.0 p.1 z) (λ (z : Parts). z.width) (λ (p : Checked × Parts). counted_width (p.0.width + p.1.width)) (both x y) f made
      (λ p z q. q.width_is))
      (sym (both_each (λ (c : Checked). c.width) (λ (z : Parts). z.width) x y)
      ∙ ap (λ (z : Found ℕ). both z (each (λ (z : Parts). z.width) y)) h.finds ∙ ap (λ (z : Found ℕ). both (each counted_width (checked s e)) z) k.finds
      ∙ both_each counted_width counted_width (checked s e) (all_checked s es))
      (λ p. sum_counted p.0 p.1);
  holds = made_holds (λ (p : Checked × Parts) (z : Parts). MakesMore p.0 p.1 z) (λ (p : Checked × Parts). StandsFor s e p.0 × StandFor s es p.1)
      (λ (z : Parts). StandFor s (more e es) z) (both x y) f made
      (holds_both (λ (c : Checked). StandsFor s e c) (λ (z : Parts). StandFor s es z) x y h.holds k.holds)
      (λ p z q st. more_stands s e es p.0 p.1 z q st.0 st.1);
}

pub more_result : {E : Type 0} (x : Found Checked) (y : Found Parts) (r : Result (Found Parts) E) → IfOk r (AreMore (both x y)) → IfOk r (ChecksMore x y)
more_result x y (Ok f) made = λ s e es h k. more_checked s e es x y f h k made
more_result x y (Err e) made = tt
