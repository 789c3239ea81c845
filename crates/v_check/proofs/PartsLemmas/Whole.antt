-- What is found in a concatenation and in a replication.
use Rattle.std.proofs.Common.{◌≡◌, ℕ, zero, suc, ◌*◌, ◌≤◌, List, Bool, true, false, nat_le, nat_lt, refl, sym, ap, ◌∙◌, subst, arith}
use Rattle.std.proofs.Math.Nat.{le-mul_of_pos_right, mul_comm}
use Rattle.std.proofs.lemmas.Bool.Decides.{nat_tests}
use Rattle.four_value.specs.declared.Digit.{Digit}
use Rattle.four_value.specs.Vector.{resize}
use Rattle.gpi.specs.Terms.{copies}
use Rattle.v_syntax.specs.ExpressionTrees.{Tree, Concatenation, Replication, Trees, first_at}
use Rattle.v_flat.specs.declared.scope.rule.ElabRule.TheVariants as rule
use Rattle.v_flat.specs.declared.scope.found.Found.{Found}
use Rattle.v_flat.specs.declared.scope.found.Found.TheVariants.{Sound, Noted, Lost}
use Rattle.v_flat.specs.Scope.Found.{noted, each, both, and_then, needs, Holds}
use Rattle.v_flat.specs.Scope.Scope.{Scope}
use Rattle.v_flat.proofs.ScopeLemmas.Gathered.{same_each, each_noted, each_needs, both_each}
use Rattle.v_flat.specs.Scope.Limits.{counted_width}
use Rattle.v_check.specs.Contextual.Concatenations as term
use Rattle.v_flat.specs.Expressions.{own_number, widths, joined}
use Rattle.v_flat.specs.Checks.{all_checked, constant_of, counted, filled, sized}
use Rattle.v_flat.proofs.Holds.{holds_noted, holds_both, holds_each}
use Rattle.v_flat.proofs.Widths.{count_found}
use Rattle.v_check.specs.declared.constants.checked.Checked.{Checked}
use Rattle.v_check.specs.Constants.Checked.{StandsFor, IsChecked, IsCount, sized_at}
use Rattle.v_check.proofs.ConstantsLemmas.Combined.{sized_width, sized_counted, made_width, made_holds, sized_holds}
use Rattle.v_check.proofs.ConstantsLemmas.Operators.{whole_width}
use Rattle.v_check.specs.declared.parts.parts.Parts.{Parts}
use Rattle.v_check.specs.Parts.Made.{MakesOnce, AreOnce, MakesCopies, AreCopies, filled_at}
use Rattle.v_check.specs.Parts.Parts.{StandFor, AreChecked}
use Rattle.v_check.proofs.PartsLemmas.Lists.{some_parts}

-- ---- something stands in the braces

filled_width : (p : ℕ) (f : Found Parts) → each (λ (x : Parts). x.width) (filled_at p f) ≡ filled p (each (λ (x : Parts). x.width) f)
filled_width p (Sound x) = each_needs (λ (x : Parts). x.width) (nat_lt 0 x.width) rule.BadRange p (Sound x)
filled_width p (Noted b x) = each_noted (λ (x : Parts). x.width) b (needs (nat_lt 0 x.width) rule.BadRange p (Sound x))
    ∙ ap (λ (y : Found ℕ). noted b y) (each_needs (λ (x : Parts). x.width) (nat_lt 0 x.width) rule.BadRange p (Sound x))
filled_width p (Lost b) = refl

some_counted : (w : ℕ) → nat_lt 0 w ≡ nat_lt 0 (counted_width w)
some_counted zero = refl
some_counted (suc w) = grind (arith, nat_tests)

some_filled : (p w : ℕ) → each counted_width (needs (nat_lt 0 w) rule.BadRange p (Sound w)) ≡ needs (nat_lt 0 (counted_width w)) rule.BadRange p (Sound (counted_width w))
some_filled p w = each_needs counted_width (nat_lt 0 w) rule.BadRange p (Sound w) ∙ ap (λ (ok : Bool). needs ok rule.BadRange p (let r : Found ℕ = Sound (counted_width w) in r)) (some_counted w)

filled_counted : (p : ℕ) (x : Found ℕ) → each counted_width (filled p x) ≡ filled p (each counted_width x)
filled_counted p (Sound w) = some_filled p w
filled_counted p (Noted b w) = each_noted counted_width b (needs (nat_lt 0 w) rule.BadRange p (Sound w)) ∙ ap (λ (y : Found ℕ). noted b y) (some_filled p w)
filled_counted p (Lost b) = refl

filled_finds : (s : Scope) (p : ℕ) (es : Trees) (y : Found Parts) → AreChecked s es y
    → each (λ (x : Parts). x.width) (filled_at p y) ≡ each counted_width (filled p (all_checked s es))
filled_finds s p es y h = filled_width p y ∙ ap (λ (z : Found ℕ). filled p z) h.finds ∙ sym (filled_counted p (all_checked s es))

-- they stand for the expressions, and have a digit
abbrev Filled : Scope → Trees → Parts → Type 0
Filled s es x = StandFor s es x × (1 ≤ x.width)

some_holds : (s : Scope) (p : ℕ) (es : Trees) (x : Parts) (ok : Bool) → nat_lt 0 x.width ≡ ok → StandFor s es x → Holds (λ (x : Parts). Filled s es x) (needs ok rule.BadRange p (Sound x))
some_holds s p es x true e h = (h, grind (arith, nat_tests))
some_holds s p es x false e h = tt

filled_holds : (s : Scope) (p : ℕ) (es : Trees) (f : Found Parts) → Holds (λ (x : Parts). StandFor s es x) f → Holds (λ (x : Parts). Filled s es x) (filled_at p f)
filled_holds s p es (Sound x) h = some_holds s p es x (nat_lt 0 x.width) refl h
filled_holds s p es (Noted b x) h = holds_noted (λ (x : Parts). Filled s es x) b (needs (nat_lt 0 x.width) rule.BadRange p (Sound x))
filled_holds s p es (Lost b) h = tt

-- ---- concatenations

once_stands : (s : Scope) (p : ℕ) (es : Trees) (x : Parts) (c : Checked) → MakesOnce x c → Filled s es x → c.width ≤ 128 → StandsFor s (Concatenation p es) c
once_stands s p es x c made h fits =
    let a = made.width_is in let b = h.0.own in let d = h.0.sum in let k = h.1 in
    let all = made.made (some_parts x.terms.items (omega arith)) in record {
      proper = (omega arith, fits);
      own = omega arith;
      means = λ w m. all.value_is w m ∙ ap (λ (ds : List Digit). resize ds w) (h.0.mean m);
      sound = λ ws q. all.sound ws (h.0.sound ws q, omega arith);
    }

pub concatenation_checked : (s : Scope) (p : ℕ) (es : Trees) (y : Found Parts) (f : Found Checked) → AreChecked s es y → AreOnce (filled_at p y) f
    → IsChecked s (Concatenation p es) (sized_at p f)
concatenation_checked s p es y f h made = record {
  finds = sized_width p f
      ∙ ap (λ (z : Found ℕ). sized p z)
      (made_width MakesOnce (λ (c : Checked). c.width) (λ (x : Parts). x.width) (filled_at p y) f made (λ x c q. q.width_is) ∙ filled_finds s p es y h)
      ∙ sym (sized_counted p (filled p (all_checked s es)));
  holds = sized_holds (λ (c : Checked). StandsFor s (Concatenation p es) c) p f
      (made_holds MakesOnce (λ (x : Parts). Filled s es x) (λ (c : Checked). c.width ≤ 128 → StandsFor s (Concatenation p es) c) (filled_at p y) f made
      (filled_holds s p es y h.holds) (λ x c q st n. once_stands s p es x c q st n));
}

-- ---- replications

-- the count is the number of its expression, and at least 1
abbrev Counts : Scope → Tree → ℕ → Type 0
Counts s c n = (n ≡ counted_width (own_number s c)) × (1 ≤ n)

counts_it : (m n : ℕ) → (m ≡ n) × (1 ≤ n) → (counted_width n ≡ counted_width m) × (1 ≤ counted_width n)
counts_it m n h = (ap (λ (k : ℕ). counted_width k) (sym h.0), let k = h.1 in omega arith)

count_holds : (s : Scope) (c : Tree) (n : Found ℕ) → IsCount s c n → Holds (λ (n : ℕ). Counts s c n) n
count_holds s c n h = subst (λ (f : Found ℕ). Holds (λ (n : ℕ). Counts s c n) f) (sym h)
    (holds_each (λ (n : ℕ). (own_number s c ≡ n) × (1 ≤ n)) (λ (n : ℕ). Counts s c n) counted_width (and_then (constant_of s c) (counted (first_at c))) (count_found s c)
    (λ n q. counts_it (own_number s c) n q))

-- where both are counted exactly, and where one isn't
product_exact : (a b : ℕ) → a ≤ 129 → b ≤ 129 → counted_width (counted_width a * counted_width b) ≡ counted_width (a * b)
product_exact a b h k =
    let e : counted_width a ≡ a = omega (arith, h) in
    let f : counted_width b ≡ b = omega (arith, k) in
    ap (λ (n : ℕ). counted_width (n * counted_width b)) e ∙ ap (λ (n : ℕ). counted_width (a * n)) f

product_left : (a b : ℕ) → 130 ≤ a → 1 ≤ b → counted_width (counted_width a * counted_width b) ≡ counted_width (a * b)
product_left a b h k =
    let e : counted_width a ≡ 129 = omega (arith, h) in
    let x : 129 ≤ 129 * counted_width b = le-mul_of_pos_right {m = counted_width b} 129 (omega (arith, k)) in
    let y : a ≤ a * b = le-mul_of_pos_right {m = b} a (omega (arith, k)) in
    ap (λ (n : ℕ). counted_width (n * counted_width b)) e ∙ omega (arith, x, y, h)

product_right : (a b : ℕ) → 130 ≤ b → 1 ≤ a → counted_width (counted_width a * counted_width b) ≡ counted_width (a * b)
product_right a b h k = ap (λ (n : ℕ). counted_width n) (mul_comm (counted_width a) (counted_width b)) ∙ product_left b a h k ∙ ap (λ (n : ℕ). counted_width n) (mul_comm b a)

product_none : (a b : ℕ) → b ≡ 0 → counted_width (counted_width a * counted_width b) ≡ counted_width (a * b)
product_none a b e = subst (λ (n : ℕ). counted_width (counted_width a * counted_width n) ≡ counted_width (a * n)) (sym e) (omega arith)

product_by : (a b : ℕ) (x y z : Bool) → nat_le a 129 ≡ x → nat_le b 129 ≡ y → nat_le b 0 ≡ z → 1 ≤ a → counted_width (counted_width a * counted_width b) ≡ counted_width (a * b)
product_by a b x y true p q r h = product_none a b (grind (arith, nat_tests))
product_by a b true true false p q r h = product_exact a b (grind (arith, nat_tests)) (grind (arith, nat_tests))
product_by a b false y false p q r h = product_left a b (grind (arith, nat_tests)) (grind (arith, nat_tests))
product_by a b true false false p q r h = product_right a b (grind (arith, nat_tests)) h

product_counted : (a b : ℕ) → counted_width (counted_width a * counted_width b) ≡ counted_width (a * b)
product_counted zero b = omega arith
product_counted (suc a) b = product_by (suc a) b (nat_le (suc a) 129) (nat_le b 129) (nat_le b 0) refl refl refl (omega arith)

-- what isn't cut in the product isn't cut before
product_left_fits : (a b : ℕ) → 1 ≤ b → counted_width (a * b) ≤ 128 → a ≤ 128
product_left_fits a b h k = let y : a ≤ a * b = le-mul_of_pos_right {m = b} a (omega (arith, h)) in omega (arith, y, k)

copies_stand : (s : Scope) (p : ℕ) (c : Tree) (es : Trees) (n : ℕ) (x : Parts) (f : Checked) → MakesCopies n x f → Counts s c n → Filled s es x → f.width ≤ 128
    → StandsFor s (Replication p c es) f
copies_stand s p c es n x f made counts h fits =
    let a = made.width_is in let b = h.0.own in let d = h.0.sum in let k = h.1 in
    let i = counts.1 in
    let j : counted_width (n * x.width) ≤ 128 = subst (λ (w : ℕ). w ≤ 128) a fits in
    let l : n ≤ 128 = product_left_fits n x.width k j in
    let o : x.width ≤ 128 = product_left_fits x.width n i (subst (λ (w : ℕ). counted_width w ≤ 128) (mul_comm n x.width) j) in
    let number_is : own_number s c ≡ n = (let e = counts.0 in omega arith) in
    let width_is : widths s es ≡ x.width = omega arith in
    let y : n ≤ n * x.width = le-mul_of_pos_right {m = x.width} n (omega arith) in
    let all = made.made (some_parts x.terms.items (omega arith)) in
    let product : own_number s c * widths s es ≡ n * x.width = ap (λ (m : ℕ). m * widths s es) number_is ∙ ap (λ (m : ℕ). n * m) width_is in
    let sum : n * term.widths x.terms.items ≡ n * x.width = ap (λ (m : ℕ). n * m) (d ∙ width_is) in record {
      proper = (omega arith, fits);
      own = omega (arith, product, a, j);
      means = λ w m. all.value_is w m ∙ ap (λ (ds : List Digit). resize (copies n ds) w) (h.0.mean m)
          ∙ ap (λ (k : ℕ). resize (copies k (joined s es m)) w) (sym number_is);
      sound = λ ws q. all.sound ws (h.0.sound ws q.1, omega arith, i, omega (arith, sum, j));
    }

pub replication_checked : (s : Scope) (p : ℕ) (c : Tree) (es : Trees) (n : Found ℕ) (y : Found Parts) (f : Found Checked) → IsCount s c n → AreChecked s es y
    → AreCopies (both n (filled_at p y)) f → IsChecked s (Replication p c es) (sized_at p f)
replication_checked s p c es n y f g h made = record {
  finds = whole_width {A = ℕ × Parts} {B = ℕ × ℕ} p (λ (q : ℕ × ℕ). counted_width (q.0 * q.1)) (λ (q : ℕ × ℕ). q.0 * q.1)
      (λ (q : ℕ × ℕ). (counted_width q.0, counted_width q.1)) (λ (q : ℕ × Parts). (q.0, q.1.width)) (both n (filled_at p y))
      (both (and_then (constant_of s c) (counted (first_at c))) (filled p (all_checked s es))) f
      (made_width (λ (q : ℕ × Parts) (c : Checked). MakesCopies q.0 q.1 c) (λ (c : Checked). c.width) (λ (q : ℕ × Parts). counted_width (q.0 * q.1.width)) (both n (filled_at p y)) f made
      (λ q c k. k.width_is))
      (sym (both_each (λ (m : ℕ). m) (λ (x : Parts). x.width) n (filled_at p y))
      ∙ ap (λ (z : Found ℕ). both z (each (λ (x : Parts). x.width) (filled_at p y))) (same_each n ∙ g)
      ∙ ap (λ (z : Found ℕ). both (each counted_width (and_then (constant_of s c) (counted (first_at c)))) z) (filled_finds s p es y h)
      ∙ both_each counted_width counted_width (and_then (constant_of s c) (counted (first_at c))) (filled p (all_checked s es)))
      (λ q. product_counted q.0 q.1);
  holds = sized_holds (λ (x : Checked). StandsFor s (Replication p c es) x) p f
      (made_holds (λ (q : ℕ × Parts) (x : Checked). MakesCopies q.0 q.1 x) (λ (q : ℕ × Parts). Counts s c q.0 × Filled s es q.1)
      (λ (x : Checked). x.width ≤ 128 → StandsFor s (Replication p c es) x) (both n (filled_at p y)) f made
      (holds_both (λ (n : ℕ). Counts s c n) (λ (x : Parts). Filled s es x) n (filled_at p y) (count_holds s c n g) (filled_holds s p es y h.holds))
      (λ q x k st fits. copies_stand s p c es q.0 q.1 x k st.0 st.1 fits));
}
