-- What is found in an expression, from what was found in its operands.
use Rattle.std.proofs.Common.{◌≡◌, ℕ, ◌≤◌, List, length, max, refl, sym, ap, ◌∙◌, subst, arith}
use Rattle.v_syntax.specs.declared.expression.UnaryOperator.{UnaryOperator}
use Rattle.v_syntax.specs.declared.expression.BinaryOperator.{BinaryOperator}
use Rattle.v_syntax.specs.ExpressionTrees.{Tree, Number, Bracketed, Unary, Binary, Conditional, first_at}
use Rattle.v_flat.specs.declared.scope.found.Found.{Found}
use Rattle.v_flat.specs.declared.scope.found.Found.TheVariants.{Sound}
use Rattle.v_flat.specs.Scope.Found.{each, both}
use Rattle.v_flat.specs.Scope.Scope.{Scope}
use Rattle.four_value.specs.declared.Digit.{Digit}
use Rattle.gpi.specs.Operators.{truth, choose}
use Rattle.gpi.specs.declared.terms.Term.TheVariants.{Const}
use Rattle.v_flat.proofs.ScopeLemmas.Gathered.{each_each, each_same, both_each, holds_so}
use Rattle.v_flat.specs.Scope.Limits.{counted_width}
use Rattle.v_check.specs.declared.contextual.contextual.Contextual.TheVariants.{Settled}
use Rattle.v_check.specs.Contextual.Contexts.{value_in}
use Rattle.v_flat.specs.declared.operators.UnaryClass.{UnaryClass}
use Rattle.v_flat.specs.declared.operators.UnaryClass.TheVariants.{Keeps, Folds}
use Rattle.v_flat.specs.declared.operators.BinaryClass.{BinaryClass}
use Rattle.v_flat.specs.declared.operators.BinaryClass.TheVariants.{Combines, Compares, Joins, Shifts}
use Rattle.v_flat.specs.Expressions.{unary_class, binary_class, unary_width, binary_width, operand_width, left_width, right_width, of_one, of_two, width, meaning}
use Rattle.v_flat.specs.Checks.{checked, sized}
use Rattle.v_flat.proofs.Holds.{holds_both}
use Rattle.v_check.specs.declared.constants.checked.Checked.{Checked}
use Rattle.v_check.specs.Constants.Made.{MakesUnary, MakesBinary, MakesConditional, AreUnary, AreBinary, AreConditional}
use Rattle.v_check.specs.Constants.Checked.{StandsFor, IsChecked, sized_at}
use Rattle.v_check.proofs.ConstantsLemmas.Combined.{sized_width, sized_counted, made_width, made_holds, sized_holds}

-- the width of the whole is counted as those of its parts are: i is what the code counts, and k what the definition does
pub counted_whole : {A B C : Type 0} (v : C → ℕ) (i k : B → ℕ) (g : B → B) (u : A → B) (x : Found A) (y : Found B) (f : Found C)
    → each v f ≡ each (λ (a : A). i (u a)) x → each u x ≡ each g y → ((b : B) → i (g b) ≡ counted_width (k b))
    → each v f ≡ each counted_width (each k y)
counted_whole {A} {B} v i k g u x y f made parts j =
    made ∙ sym (each_each i u x) ∙ ap (λ (z : Found B). each i z) parts ∙ each_each i g y
    ∙ each_same (λ (b : B). i (g b)) (λ (b : B). counted_width (k b)) y j ∙ sym (each_each counted_width k y)

-- and so it is where the whole has to have at most 128 digits
pub whole_width : {A B : Type 0} (p : ℕ) (i k : B → ℕ) (g : B → B) (u : A → B) (x : Found A) (y : Found B) (f : Found Checked)
    → each (λ (c : Checked). c.width) f ≡ each (λ (a : A). i (u a)) x → each u x ≡ each g y → ((b : B) → i (g b) ≡ counted_width (k b))
    → each (λ (c : Checked). c.width) (sized_at p f) ≡ each counted_width (sized p (each k y))
whole_width p i k g u x y f made parts j =
    sized_width p f
    ∙ ap (λ (z : Found ℕ). sized p z) (counted_whole (λ (c : Checked). c.width) i k g u x y f made parts j)
    ∙ sym (sized_counted p (each k y))

-- ---- numbers

number_finds : (n w : ℕ) → n ≡ w → w ≤ 128 → (let r : Found ℕ = Sound n in r) ≡ Sound (counted_width w)
number_finds n w e h = ap (λ (v : ℕ). (let r : Found ℕ = Sound v in r)) (omega (arith, e, h))

pub number_checked : (s : Scope) (p : ℕ) (ds : List Digit) (n : ℕ) → n ≡ length ds → 1 ≤ n → n ≤ 128
    → IsChecked s (Number p ds) (Sound (record { width = n; form = Settled (Const ds) }))
number_checked s p ds n e h k = record {
  finds = number_finds n (length ds) e (omega (arith, e, k));
  holds = record { proper = (h, k); own = sym e; means = λ w m. refl; sound = λ ws q. tt };
}

-- ---- brackets

bracketed_stands : (s : Scope) (p : ℕ) (e : Tree) (c : Checked) → StandsFor s e c → StandsFor s (Bracketed p e) c
bracketed_stands s p e c h = record { proper = h.proper; own = h.own; means = h.means; sound = h.sound }

pub bracketed_checked : (s : Scope) (p : ℕ) (e : Tree) (x : Found Checked) → IsChecked s e x → IsChecked s (Bracketed p e) (sized_at p x)
bracketed_checked s p e x h = record {
  finds = sized_width p x ∙ ap (λ (z : Found ℕ). sized p z) h.finds ∙ sym (sized_counted p (checked s e));
  holds = sized_holds (λ (c : Checked). StandsFor s (Bracketed p e) c) p x
      (holds_so (λ (c : Checked). StandsFor s e c) (λ (c : Checked). c.width ≤ 128 → StandsFor s (Bracketed p e) c) x h.holds (λ c st n. bracketed_stands s p e c st));
}

-- ---- one operand

unary_low : (o : UnaryClass) (a : ℕ) → 1 ≤ a → 1 ≤ unary_width o a
unary_low (Keeps o) a h = h
unary_low (Folds o) a h = omega arith

unary_counted : (o : UnaryClass) (a : ℕ) → unary_width o (counted_width a) ≡ counted_width (unary_width o a)
unary_counted (Keeps o) a = refl
unary_counted (Folds o) a = refl

unary_stands : (s : Scope) (p : ℕ) (op : UnaryOperator) (e : Tree) (a c : Checked) → MakesUnary (unary_class op) a c → StandsFor s e a → c.width ≤ 128 → StandsFor s (Unary p op e) c
unary_stands s p op e a c made st h = record {
  proper = (subst (λ (n : ℕ). 1 ≤ n) (sym made.width_is) (unary_low (unary_class op) a.width st.proper.0), h);
  own = ap (λ (n : ℕ). unary_width (unary_class op) n) st.own ∙ sym made.width_is;
  means = λ w m. made.value_is w m ∙ ap (λ (ds : List Digit). of_one (unary_class op) ds w) (st.means (operand_width (unary_class op) w a.width) m)
      ∙ ap (λ (n : ℕ). of_one (unary_class op) (meaning s e (operand_width (unary_class op) w n) m) w) (sym st.own);
  sound = λ ws k. made.sound ws (st.proper, st.sound ws k);
}

pub unary_checked : (s : Scope) (p : ℕ) (op : UnaryOperator) (e : Tree) (x f : Found Checked) → IsChecked s e x → AreUnary (unary_class op) x f
    → IsChecked s (Unary p op e) (sized_at p f)
unary_checked s p op e x f h made = record {
  finds = whole_width p (unary_width (unary_class op)) (unary_width (unary_class op)) counted_width (λ (a : Checked). a.width) x (checked s e) f
      (made_width (λ (a c : Checked). MakesUnary (unary_class op) a c) (λ (c : Checked). c.width) (λ (a : Checked). unary_width (unary_class op) a.width) x f made (λ a c k. k.width_is))
      h.finds (λ w. unary_counted (unary_class op) w);
  holds = sized_holds (λ (c : Checked). StandsFor s (Unary p op e) c) p f
      (made_holds (λ (a c : Checked). MakesUnary (unary_class op) a c) (λ (a : Checked). StandsFor s e a) (λ (c : Checked). c.width ≤ 128 → StandsFor s (Unary p op e) c) x f made h.holds
      (λ a c k st n. unary_stands s p op e a c k st n));
}

-- ---- two operands

two_parts : (x y : Found Checked) (v w : Found ℕ) → each (λ (c : Checked). c.width) x ≡ each counted_width v → each (λ (c : Checked). c.width) y ≡ each counted_width w
    → each {B = ℕ × ℕ} (λ (p : Checked × Checked). (p.0.width, p.1.width)) (both x y) ≡ each {B = ℕ × ℕ} (λ (p : ℕ × ℕ). (counted_width p.0, counted_width p.1)) (both v w)
two_parts x y v w h k = sym (both_each (λ (c : Checked). c.width) (λ (c : Checked). c.width) x y)
    ∙ ap (λ (z : Found ℕ). both z (each (λ (c : Checked). c.width) y)) h ∙ ap (λ (z : Found ℕ). both (each counted_width v) z) k
    ∙ both_each counted_width counted_width v w

binary_low : (o : BinaryClass) (a b : ℕ) → 1 ≤ a → 1 ≤ b → 1 ≤ binary_width o a b
binary_low (Combines o) a b h k = omega arith
binary_low (Compares o) a b h k = omega arith
binary_low (Joins o) a b h k = omega arith
binary_low (Shifts o) a b h k = h

binary_counted : (o : BinaryClass) (a b : ℕ) → binary_width o (counted_width a) (counted_width b) ≡ counted_width (binary_width o a b)
binary_counted (Combines o) a b = omega arith
binary_counted (Compares o) a b = refl
binary_counted (Joins o) a b = refl
binary_counted (Shifts o) a b = refl

binary_stands : (s : Scope) (op : BinaryOperator) (l r : Tree) (a b c : Checked) → MakesBinary (binary_class op) a b c → StandsFor s l a → StandsFor s r b → c.width ≤ 128
    → StandsFor s (Binary op l r) c
binary_stands s op l r a b c made st su h = record {
  proper = (subst (λ (n : ℕ). 1 ≤ n) (sym made.width_is) (binary_low (binary_class op) a.width b.width st.proper.0 su.proper.0), h);
  own = ap (λ (n : ℕ). binary_width (binary_class op) n (width s r)) st.own ∙ ap (λ (n : ℕ). binary_width (binary_class op) a.width n) su.own ∙ sym made.width_is;
  means = λ w m. made.value_is w m
      ∙ ap (λ (ds : List Digit). of_two (binary_class op) ds (value_in b.form (right_width (binary_class op) w a.width b.width) m) w) (st.means (left_width (binary_class op) w a.width b.width) m)
      ∙ ap (λ (ds : List Digit). of_two (binary_class op) (meaning s l (left_width (binary_class op) w a.width b.width) m) ds w) (su.means (right_width (binary_class op) w a.width b.width) m)
      ∙ ap (λ (n : ℕ). of_two (binary_class op) (meaning s l (left_width (binary_class op) w n b.width) m) (meaning s r (right_width (binary_class op) w n b.width) m) w) (sym st.own)
      ∙ ap (λ (n : ℕ). of_two (binary_class op) (meaning s l (left_width (binary_class op) w (width s l) n) m) (meaning s r (right_width (binary_class op) w (width s l) n) m) w) (sym su.own);
  sound = λ ws k. made.sound ws ((st.proper, st.sound ws k.0), (su.proper, su.sound ws k.1));
}

pub binary_checked : (s : Scope) (op : BinaryOperator) (l r : Tree) (x y f : Found Checked) → IsChecked s l x → IsChecked s r y
    → AreBinary (binary_class op) (both x y) f → IsChecked s (Binary op l r) (sized_at (first_at l) f)
binary_checked s op l r x y f h k made = record {
  finds = whole_width {A = Checked × Checked} {B = ℕ × ℕ} (first_at l) (λ (p : ℕ × ℕ). binary_width (binary_class op) p.0 p.1) (λ (p : ℕ × ℕ). binary_width (binary_class op) p.0 p.1)
      (λ (p : ℕ × ℕ). (counted_width p.0, counted_width p.1)) (λ (p : Checked × Checked). (p.0.width, p.1.width)) (both x y) (both (checked s l) (checked s r)) f
      (made_width (λ (p : Checked × Checked) (c : Checked). MakesBinary (binary_class op) p.0 p.1 c) (λ (c : Checked). c.width) (λ (p : Checked × Checked). binary_width (binary_class op) p.0.width p.1.width)
      (both x y) f made (λ p c q. q.width_is))
      (two_parts x y (checked s l) (checked s r) h.finds k.finds) (λ p. binary_counted (binary_class op) p.0 p.1);
  holds = sized_holds (λ (c : Checked). StandsFor s (Binary op l r) c) (first_at l) f
      (made_holds (λ (p : Checked × Checked) (c : Checked). MakesBinary (binary_class op) p.0 p.1 c) (λ (p : Checked × Checked). StandsFor s l p.0 × StandsFor s r p.1)
      (λ (c : Checked). c.width ≤ 128 → StandsFor s (Binary op l r) c) (both x y) f made
      (holds_both (λ (c : Checked). StandsFor s l c) (λ (c : Checked). StandsFor s r c) x y h.holds k.holds)
      (λ p c q st n. binary_stands s op l r p.0 p.1 c q st.0 st.1 n));
}

-- ---- three operands

three_parts : (x y z : Found Checked) (u v w : Found ℕ) → each (λ (c : Checked). c.width) x ≡ each counted_width u → each (λ (c : Checked). c.width) y ≡ each counted_width v
    → each (λ (c : Checked). c.width) z ≡ each counted_width w
    → each {B = ℕ × (ℕ × ℕ)} (λ (p : Checked × (Checked × Checked)). (p.0.width, (p.1.0.width, p.1.1.width))) (both x (both y z)) ≡ each {B = ℕ × (ℕ × ℕ)} (λ (p : ℕ × (ℕ × ℕ)). (counted_width p.0, (counted_width p.1.0, counted_width p.1.1))) (both u (both v w))
three_parts x y z u v w h k l = sym (both_each {A = Checked} {B = Checked × Checked} {C = ℕ} {D = ℕ × ℕ} (λ (c : Checked). c.width) (λ (p : Checked × Checked). (p.0.width, p.1.width)) x (both y z))
    ∙ ap (λ (q : Found ℕ). both q (each {B = ℕ × ℕ} (λ (p : Checked × Checked). (p.0.width, p.1.width)) (both y z))) h
    ∙ ap (λ (q : Found (ℕ × ℕ)). both (each counted_width u) q) (two_parts y z v w k l)
    ∙ both_each {A = ℕ} {B = ℕ × ℕ} {C = ℕ} {D = ℕ × ℕ} counted_width (λ (p : ℕ × ℕ). (counted_width p.0, counted_width p.1)) u (both v w)

conditional_stands : (s : Scope) (t l r : Tree) (q a b c : Checked) → MakesConditional q a b c → StandsFor s t q → StandsFor s l a → StandsFor s r b → c.width ≤ 128
    → StandsFor s (Conditional t l r) c
conditional_stands s t l r q a b c made sc st su h = record {
  proper = (let e = made.width_is in let k = st.proper.0 in omega arith, h);
  own = ap (λ (n : ℕ). max n (width s r)) st.own ∙ ap (λ (n : ℕ). max a.width n) su.own ∙ sym made.width_is;
  means = λ w m. made.value_is w m
      ∙ ap (λ (ds : List Digit). choose (truth ds) (value_in a.form w m) (value_in b.form w m)) (sc.means q.width m)
      ∙ ap (λ (n : ℕ). choose (truth (meaning s t n m)) (value_in a.form w m) (value_in b.form w m)) (sym sc.own)
      ∙ ap (λ (ds : List Digit). choose (truth (meaning s t (width s t) m)) ds (value_in b.form w m)) (st.means w m)
      ∙ ap (λ (ds : List Digit). choose (truth (meaning s t (width s t) m)) (meaning s l w m) ds) (su.means w m);
  sound = λ ws k. made.sound ws ((sc.proper, sc.sound ws k.0), ((st.proper, st.sound ws k.1.0), (su.proper, su.sound ws k.1.1)));
}

conditional_counted : (a b : ℕ) → max (counted_width a) (counted_width b) ≡ counted_width (max a b)
conditional_counted a b = omega arith

pub conditional_checked : (s : Scope) (t l r : Tree) (x y z f : Found Checked) → IsChecked s t x → IsChecked s l y → IsChecked s r z
    → AreConditional (both x (both y z)) f → IsChecked s (Conditional t l r) (sized_at (first_at t) f)
conditional_checked s t l r x y z f g h k made = record {
  finds = whole_width {A = Checked × (Checked × Checked)} {B = ℕ × (ℕ × ℕ)} (first_at t) (λ (p : ℕ × (ℕ × ℕ)). max p.1.0 p.1.1) (λ (p : ℕ × (ℕ × ℕ)). max p.1.0 p.1.1)
      (λ (p : ℕ × (ℕ × ℕ)). (counted_width p.0, (counted_width p.1.0, counted_width p.1.1))) (λ (p : Checked × (Checked × Checked)). (p.0.width, (p.1.0.width, p.1.1.width)))
      (both x (both y z)) (both (checked s t) (both (checked s l) (checked s r))) f
      (made_width (λ (p : Checked × (Checked × Checked)) (c : Checked). MakesConditional p.0 p.1.0 p.1.1 c) (λ (c : Checked). c.width) (λ (p : Checked × (Checked × Checked)). max p.1.0.width p.1.1.width)
      (both x (both y z)) f made (λ p c q. q.width_is))
      (three_parts x y z (checked s t) (checked s l) (checked s r) g.finds h.finds k.finds) (λ p. conditional_counted p.1.0 p.1.1);
  holds = sized_holds (λ (c : Checked). StandsFor s (Conditional t l r) c) (first_at t) f
      (made_holds (λ (p : Checked × (Checked × Checked)) (c : Checked). MakesConditional p.0 p.1.0 p.1.1 c)
      (λ (p : Checked × (Checked × Checked)). StandsFor s t p.0 × (StandsFor s l p.1.0 × StandsFor s r p.1.1))
      (λ (c : Checked). c.width ≤ 128 → StandsFor s (Conditional t l r) c) (both x (both y z)) f made
      (holds_both (λ (c : Checked). StandsFor s t c) (λ (p : Checked × Checked). StandsFor s l p.0 × StandsFor s r p.1) x (both y z) g.holds
      (holds_both (λ (c : Checked). StandsFor s l c) (λ (c : Checked). StandsFor s r c) y z h.holds k.holds))
      (λ p c q st n. conditional_stands s t l r p.0 p.1.0 p.1.1 c q st.0 st.1.0 st.1.1 n));
}
