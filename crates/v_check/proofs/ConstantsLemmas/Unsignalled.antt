-- What is made of constants names no signal, and has one value.
use Rattle.std.proofs.Common.{◌≡◌, ℕ, ◌++◌, ◌&&◌, List, Option, Some, None, Bool, true, false, refl, ap, ◌∙◌}
use Rattle.four_value.specs.declared.Digit.{Digit}
use Rattle.four_value.specs.Vector.{number, resize}
use Rattle.gpi.specs.Operators.{truth, choose}
use Rattle.gpi.specs.Terms.{copies}
use Rattle.v_syntax.specs.ExpressionTrees.{Tree, Number, Named, Bracketed, Unary, Binary, Conditional, Concatenation, Replication, SelectsTree, Whole, One, OfWord, SelectTree, Bit, Part, IndexedPart, Trees, none, more}
use Rattle.v_flat.specs.declared.scope.meaning.Meaning.{Meaning}
use Rattle.v_flat.specs.declared.scope.meaning.Meaning.TheVariants.{Constant, Object, Later}
use Rattle.v_flat.specs.Scope.Scope.{Scope, find}
use Rattle.v_flat.specs.Expressions.{Values, no_signals, width, meaning, joined, named_value, one_value, select_base, select_width, number_or, lesser, of_one, of_two, unary_class, binary_class, operand_width, left_width, right_width}
use Rattle.v_flat.specs.Checks.{is_constant, made, all_made, selects_made, select_made}
use Rattle.v_check.specs.Constants.Checked.{IsNameOf, AreNamesOf, AllNamesOf, SelectsNamesOf, SelectNamesOf}

first_of_both : (a b : Bool) → (a && b) ≡ true → a ≡ true
first_of_both true b h = refl
first_of_both false b h = h

second_of_both : (a b : Bool) → (a && b) ≡ true → b ≡ true
second_of_both true b h = h
second_of_both false b h = absurd (cc)

constant_names : (x : Option Meaning) (ws : List ℕ) → is_constant x ≡ true → IsNameOf x ws
constant_names None ws h = tt
constant_names (Some (Constant ds b)) ws h = tt
constant_names (Some (Object o)) ws h = absurd (cc)
constant_names (Some Later) ws h = tt

mutual
  pub names_none : (s : Scope) (e : Tree) (ws : List ℕ) → made s e ≡ true → AreNamesOf s e ws
  names_none s (Number p ds) ws h = tt
  names_none s (Named p n sel) ws h = (
    constant_names (find n s) ws (first_of_both (is_constant (find n s)) (selects_made s sel) h),
    selects_name_none s sel ws (second_of_both (is_constant (find n s)) (selects_made s sel) h),
  )
  names_none s (Bracketed p e) ws h = names_none s e ws h
  names_none s (Unary p op e) ws h = names_none s e ws h
  names_none s (Binary op l r) ws h = (names_none s l ws (first_of_both (made s l) (made s r) h), names_none s r ws (second_of_both (made s l) (made s r) h))
  names_none s (Conditional c a b) ws h =
      let k = second_of_both (made s c) (made s a && made s b) h in (
        names_none s c ws (first_of_both (made s c) (made s a && made s b) h),
        (names_none s a ws (first_of_both (made s a) (made s b) k), names_none s b ws (second_of_both (made s a) (made s b) k)),
      )
  names_none s (Concatenation p es) ws h = all_name_none s es ws h
  names_none s (Replication p c es) ws h = (names_none s c ws (first_of_both (made s c) (all_made s es) h), all_name_none s es ws (second_of_both (made s c) (all_made s es) h))

  all_name_none : (s : Scope) (es : Trees) (ws : List ℕ) → all_made s es ≡ true → AllNamesOf s es ws
  all_name_none s none ws h = tt
  all_name_none s (more e es) ws h = (names_none s e ws (first_of_both (made s e) (all_made s es) h), all_name_none s es ws (second_of_both (made s e) (all_made s es) h))

  selects_name_none : (s : Scope) (sel : SelectsTree) (ws : List ℕ) → selects_made s sel ≡ true → SelectsNamesOf s sel ws
  selects_name_none s Whole ws h = tt
  selects_name_none s (One sel) ws h = select_names_none s sel ws h
  selects_name_none s (OfWord p i sel) ws h = (names_none s i ws (first_of_both (made s i) (select_made s sel) h), select_names_none s sel ws (second_of_both (made s i) (select_made s sel) h))

  select_names_none : (s : Scope) (sel : SelectTree) (ws : List ℕ) → select_made s sel ≡ true → SelectNamesOf s sel ws
  select_names_none s (Bit p i) ws h = names_none s i ws h
  select_names_none s (Part p l r) ws h = (names_none s l ws (first_of_both (made s l) (made s r) h), names_none s r ws (second_of_both (made s l) (made s r) h))
  select_names_none s (IndexedPart p b n) ws h = (names_none s b ws (first_of_both (made s b) (made s n) h), names_none s n ws (second_of_both (made s b) (made s n) h))

-- the name of a constant
whole_same : (s : Scope) (x : Option Meaning) (m n : Values) → is_constant x ≡ true → named_value s Whole x m ≡ named_value s Whole x n
whole_same s (Some (Constant ds b)) m n h = refl
whole_same s None m n h = absurd (cc)
whole_same s (Some (Object o)) m n h = absurd (cc)
whole_same s (Some Later) m n h = absurd (cc)

select_same : (s : Scope) (q : SelectTree) (x : Option Meaning) (m n : Values) → is_constant x ≡ true → select_base s q m ≡ select_base s q n
    → named_value s (One q) x m ≡ named_value s (One q) x n
select_same s q (Some (Constant ds b)) m n h k = ap (λ (base : Option ℕ). one_value (Some (Constant ds b)) base (select_width s q) n) k
select_same s q None m n h k = absurd (cc)
select_same s q (Some (Object o)) m n h k = absurd (cc)
select_same s q (Some Later) m n h k = absurd (cc)

word_same : (s : Scope) (p : ℕ) (i : Tree) (q : SelectTree) (x : Option Meaning) (m n : Values) → is_constant x ≡ true
    → named_value s (OfWord p i q) x m ≡ named_value s (OfWord p i q) x n
word_same s p i q (Some (Constant ds b)) m n h = refl
word_same s p i q None m n h = absurd (cc)
word_same s p i q (Some (Object o)) m n h = absurd (cc)
word_same s p i q (Some Later) m n h = absurd (cc)

mutual
  pub one_meaning : (s : Scope) (e : Tree) (w : ℕ) (m n : Values) → made s e ≡ true → meaning s e w m ≡ meaning s e w n
  one_meaning s (Number p ds) w m n h = refl
  one_meaning s (Named p x sel) w m n h = ap (λ (ds : List Digit). resize ds w) (one_name s sel (find x s) m n (first_of_both (is_constant (find x s)) (selects_made s sel) h)
      (second_of_both (is_constant (find x s)) (selects_made s sel) h))
  one_meaning s (Bracketed p e) w m n h = one_meaning s e w m n h
  one_meaning s (Unary p op e) w m n h = ap (λ (ds : List Digit). of_one (unary_class op) ds w) (one_meaning s e (operand_width (unary_class op) w (width s e)) m n h)
  one_meaning s (Binary op l r) w m n h =
      ap (λ (ds : List Digit). of_two (binary_class op) ds (meaning s r (right_width (binary_class op) w (width s l) (width s r)) m) w)
      (one_meaning s l (left_width (binary_class op) w (width s l) (width s r)) m n (first_of_both (made s l) (made s r) h))
      ∙ ap (λ (ds : List Digit). of_two (binary_class op) (meaning s l (left_width (binary_class op) w (width s l) (width s r)) n) ds w)
      (one_meaning s r (right_width (binary_class op) w (width s l) (width s r)) m n (second_of_both (made s l) (made s r) h))
  one_meaning s (Conditional c a b) w m n h =
      let k = second_of_both (made s c) (made s a && made s b) h in
      ap (λ (ds : List Digit). choose (truth ds) (meaning s a w m) (meaning s b w m)) (one_meaning s c (width s c) m n (first_of_both (made s c) (made s a && made s b) h))
      ∙ ap (λ (ds : List Digit). choose (truth (meaning s c (width s c) n)) ds (meaning s b w m)) (one_meaning s a w m n (first_of_both (made s a) (made s b) k))
      ∙ ap (λ (ds : List Digit). choose (truth (meaning s c (width s c) n)) (meaning s a w n) ds) (one_meaning s b w m n (second_of_both (made s a) (made s b) k))
  one_meaning s (Concatenation p es) w m n h = ap (λ (ds : List Digit). resize ds w) (all_one s es m n h)
  one_meaning s (Replication p c es) w m n h =
      ap (λ (ds : List Digit). resize (copies (number_or (number (meaning s c (width s c) no_signals))) ds) w) (all_one s es m n (second_of_both (made s c) (all_made s es) h))

  all_one : (s : Scope) (es : Trees) (m n : Values) → all_made s es ≡ true → joined s es m ≡ joined s es n
  all_one s none m n h = refl
  all_one s (more e es) m n h =
      ap (λ (ds : List Digit). ds ++ meaning s e (width s e) m) (all_one s es m n (second_of_both (made s e) (all_made s es) h))
      ∙ ap (λ (ds : List Digit). joined s es n ++ ds) (one_meaning s e (width s e) m n (first_of_both (made s e) (all_made s es) h))

  one_name : (s : Scope) (sel : SelectsTree) (x : Option Meaning) (m n : Values) → is_constant x ≡ true → selects_made s sel ≡ true
      → named_value s sel x m ≡ named_value s sel x n
  one_name s Whole x m n h k = whole_same s x m n h
  one_name s (One sel) x m n h k = select_same s sel x m n h (one_base s sel m n k)
  one_name s (OfWord p i sel) x m n h k = word_same s p i sel x m n h

  -- the least index of a select
  one_base : (s : Scope) (sel : SelectTree) (m n : Values) → select_made s sel ≡ true → select_base s sel m ≡ select_base s sel n
  one_base s (Bit p i) m n h = ap (λ (ds : List Digit). number ds) (one_meaning s i (width s i) m n h)
  one_base s (Part p l r) m n h =
      ap (λ (ds : List Digit). lesser (number ds) (number (meaning s r (width s r) m))) (one_meaning s l (width s l) m n (first_of_both (made s l) (made s r) h))
      ∙ ap (λ (ds : List Digit). lesser (number (meaning s l (width s l) n)) (number ds)) (one_meaning s r (width s r) m n (second_of_both (made s l) (made s r) h))
  one_base s (IndexedPart p b w) m n h = ap (λ (ds : List Digit). number ds) (one_meaning s b (width s b) m n (first_of_both (made s b) (made s w) h))
