-- Of several broken rules the first counts.
use Rattle.std.proofs.Common.{◌≡◌, ◌<◌, ◌+◌, ◌*◌, ◌⊎◌, inl, inr, ◌∙◌, ℕ, zero, suc, max, Bool, true, false, nat_le, nat_lt, List, [], ◌∷◌, length, slice_get, Option, Some, None, refl, sym, ap, subst, arith, if◌then◌else◌}
use Rattle.std.proofs.lemmas.Bool.Decides.{nat_tests}
use Rattle.v_syntax.specs.declared.expression.BinaryOperator.{BinaryOperator}
use Rattle.v_syntax.specs.declared.expression.UnaryOperator.{UnaryOperator}
use Rattle.v_syntax.specs.ExpressionTrees.{Tree, Number, Named, Bracketed, Unary, Binary, Conditional, Concatenation, Replication, Trees, none, more, first_at}
use Rattle.v_flat.specs.declared.scope.rule.Broken.{Broken}
use Rattle.v_flat.specs.declared.scope.rule.ElabRule.{ElabRule}
use Rattle.v_flat.specs.declared.scope.rule.ElabRule.TheVariants as rule
use Rattle.v_flat.specs.declared.scope.found.Found.{Found}
use Rattle.v_flat.specs.declared.scope.found.Found.TheVariants.{Sound, Noted, Lost}
use Rattle.v_flat.specs.Scope.Found.{and_then, both, each, lost, needs, noted, settled, wants}
use Rattle.v_flat.specs.Scope.Limits.{most_digits}
use Rattle.v_flat.specs.Scope.Rules.{at, earlier, number_of}
use Rattle.v_flat.specs.Scope.Scope.{Scope}
use Rattle.v_flat.specs.Expressions.{binary_class, binary_width, meaning, no_signals, unary_class, unary_width}
use Rattle.v_flat.specs.Checks.{all_checked, checked, constant, constant_width, counted, filled, known, made, sized}
use Rattle.v_laws.specs.Least.{Counts, First_faults_count, IsFirst, IsIn, IsInOne, fault}
use Rattle.v_laws.specs.Steps.{with_fault}

-- ---- the order

pub first_itself : (a : Broken) → IsFirst a a
first_itself a = inr (refl, omega arith)

first_on : (a b c : Broken) → IsFirst a b → IsFirst b c → IsFirst a c
first_on a b c (inl h) (inl k) = inl (omega (arith, h, k))
first_on a b c (inl h) (inr k) = inl (let e = k.0 in omega (arith, h, e))
first_on a b c (inr h) (inl k) = inl (let e = h.0 in omega (arith, k, e))
first_on a b c (inr h) (inr k) = inr (h.0 ∙ k.0, let u = h.1 in let v = k.1 in omega (arith, u, v))

-- the earlier of two is one of them, and none is before it
record IsLeast (a b c : Broken) : Type 0 where
  one : (c ≡ a) ⊎ (c ≡ b)
  left : IsFirst c a
  right : IsFirst c b

earlier_least : (a b : Broken) → IsLeast a b (earlier a b)
earlier_least a b = go (nat_lt b.place a.place) (nat_lt a.place b.place) (nat_lt (number_of b.rule) (number_of a.rule)) refl refl refl
  where
    go : (x y z : Bool) → nat_lt b.place a.place ≡ x → nat_lt a.place b.place ≡ y → nat_lt (number_of b.rule) (number_of a.rule) ≡ z
        → IsLeast a b (if x then b else (if y then a else (if z then b else a)))
    go true y z e f g = record { one = inr refl; left = inl (grind (arith, nat_tests)); right = first_itself b }
    go false true z e f g = record { one = inl refl; left = first_itself a; right = inl (grind (arith, nat_tests)) }
    go false false true e f g = record { one = inr refl; left = inr (grind (arith, nat_tests), grind (arith, nat_tests)); right = first_itself b }
    go false false false e f g = record { one = inl refl; left = first_itself a; right = inr (grind (arith, nat_tests), grind (arith, nat_tests)) }

-- ---- of a list

-- of the first n of these
abbrev pub CountsTo : List Broken → ℕ → Option Broken → Type 0
CountsTo bs n None = n ≡ 0
CountsTo bs n (Some b) = ((i : ℕ) × (slice_get bs i ≡ Some b)) × ((i : ℕ) (c : Broken) → i < n → slice_get bs i ≡ Some c → IsFirst b c)

pub counts_more : (bs : List Broken) (n : ℕ) (o : Option Broken) (b : Broken) → CountsTo bs n o → slice_get bs n ≡ Some b → CountsTo bs (n + 1) (Some (with_fault o b))
counts_more bs n None b h e = ((n, e), λ i c l f. only i c l f)
  where
    only : (i : ℕ) (c : Broken) → i < n + 1 → slice_get bs i ≡ Some c → IsFirst b c
    only i c l f = let k : i ≡ n = omega (arith, l, h) in let g : b ≡ c = (let j : Some b ≡ Some c = sym e ∙ ap (slice_get bs) (sym k) ∙ f in cc) in subst (IsFirst b) g (first_itself b)
counts_more bs n (Some a) b h e = (one (earlier_least a b).one, λ i c l f. all i c l f (nat_lt i n) refl)
  where
    one : (earlier a b ≡ a) ⊎ (earlier a b ≡ b) → (i : ℕ) × (slice_get bs i ≡ Some (earlier a b))
    one (inl f) = (h.0.0, h.0.1 ∙ ap Some (sym f))
    one (inr f) = (n, e ∙ ap Some (sym f))

    all : (i : ℕ) (c : Broken) → i < n + 1 → slice_get bs i ≡ Some c → (t : Bool) → nat_lt i n ≡ t → IsFirst (earlier a b) c
    all i c l f true g = first_on (earlier a b) a c (earlier_least a b).left (h.1 i c (grind (arith, nat_tests)) f)
    all i c l f false g =
        let k : i ≡ n = grind (arith, nat_tests) in
        let j : b ≡ c = (let m : Some b ≡ Some c = sym e ∙ ap (slice_get bs) (sym k) ∙ f in cc) in subst (IsFirst (earlier a b)) j (earlier_least a b).right

get_within : (bs : List Broken) (i : ℕ) (c : Broken) → slice_get bs i ≡ Some c → i < length bs
get_within [] i c h = cc
get_within (b ∷ bs) zero c h = omega arith
get_within (b ∷ bs) (suc i) c h = let k = get_within bs i c h in omega (arith, k)

pub counts_all : (bs : List Broken) (n : ℕ) (o : Option Broken) → n ≡ length bs → CountsTo bs n o → Counts bs o
counts_all bs n None e h = sym e ∙ h
counts_all bs n (Some b) e h = (h.0, λ i c f. h.1 i c (let k = get_within bs i c f in omega (arith, k, e)) f)

-- ---- in an expression

-- what is broken in x is hidden by none that is broken later
abbrev pub Reaches : {A B : Type 0} → Found A → Found B → Type 0
Reaches x y = (b : Broken) → fault x ≡ Some b → (c : Broken) × (fault y ≡ Some c) × IsFirst c b

pub reaches_itself : {A : Type 0} (x : Found A) → Reaches x x
reaches_itself x b e = (b, e, first_itself b)

pub reaches_on : {A B C : Type 0} (x : Found A) (y : Found B) (z : Found C) → Reaches x y → Reaches y z → Reaches x z
reaches_on x y z h k b e = let r = h b e in let t = k r.0 r.1 in (t.0, t.1, first_on t.0 r.0 b t.2 r.2)

of_some : (a b : Broken) → Some a ≡ Some b → a ≡ b
of_some a b e = cc

pub each_reaches : {A B : Type 0} (f : A → B) (x : Found A) → Reaches x (each f x)
each_reaches f (Sound a) b e = cc
each_reaches f (Noted c a) b e = (c, refl, subst (IsFirst c) (of_some c b e) (first_itself c))
each_reaches f (Lost c) b e = (c, refl, subst (IsFirst c) (of_some c b e) (first_itself c))

settled_reaches : {A : Type 0} (x : Found A) → Reaches x (settled x)
settled_reaches (Sound a) b e = cc
settled_reaches (Noted c a) b e = (c, refl, subst (IsFirst c) (of_some c b e) (first_itself c))
settled_reaches (Lost c) b e = (c, refl, subst (IsFirst c) (of_some c b e) (first_itself c))

pub noted_reaches : {A : Type 0} (d : Broken) (x : Found A) → Reaches x (noted d x)
noted_reaches d (Sound a) b e = cc
noted_reaches d (Noted c a) b e = (earlier d c, refl, subst (IsFirst (earlier d c)) (of_some c b e) (earlier_least d c).right)
noted_reaches d (Lost c) b e = (earlier d c, refl, subst (IsFirst (earlier d c)) (of_some c b e) (earlier_least d c).right)

lost_reaches : {A : Type 0} (B : Type 0) (d : Broken) (x : Found A) → Reaches x (lost {A = A} {B = B} d x)
lost_reaches B d (Sound a) b e = cc
lost_reaches B d (Noted c a) b e = (earlier d c, refl, subst (IsFirst (earlier d c)) (of_some c b e) (earlier_least d c).right)
lost_reaches B d (Lost c) b e = (earlier d c, refl, subst (IsFirst (earlier d c)) (of_some c b e) (earlier_least d c).right)

-- the rule that is noted or lost too
noted_first : {A : Type 0} (d : Broken) (x : Found A) → (c : Broken) × (fault (noted d x) ≡ Some c) × IsFirst c d
noted_first d (Sound a) = (d, refl, first_itself d)
noted_first d (Noted c a) = (earlier d c, refl, (earlier_least d c).left)
noted_first d (Lost c) = (earlier d c, refl, (earlier_least d c).left)

lost_first : {A : Type 0} (B : Type 0) (d : Broken) (x : Found A) → (c : Broken) × (fault (lost {A = A} {B = B} d x) ≡ Some c) × IsFirst c d
lost_first B d (Sound a) = (d, refl, first_itself d)
lost_first B d (Noted c a) = (earlier d c, refl, (earlier_least d c).left)
lost_first B d (Lost c) = (earlier d c, refl, (earlier_least d c).left)

pub left_reaches : {A B : Type 0} (x : Found A) (y : Found B) → Reaches x (both x y)
left_reaches (Sound a) y b e = cc
left_reaches {A} {B} (Noted c a) y b e = let r = noted_first c (each (λ (z : B). (a, z)) y) in (r.0, r.1, subst (IsFirst r.0) (of_some c b e) r.2)
left_reaches {A} {B} (Lost c) y b e = let r = lost_first (A × B) c y in (r.0, r.1, subst (IsFirst r.0) (of_some c b e) r.2)

pub right_reaches : {A B : Type 0} (x : Found A) (y : Found B) → Reaches y (both x y)
right_reaches {A} {B} (Sound a) y = each_reaches (λ (z : B). (a, z)) y
right_reaches {A} {B} (Noted c a) y = reaches_on y (each (λ (z : B). (a, z)) y) (noted c (each (λ (z : B). (a, z)) y)) (each_reaches (λ (z : B). (a, z)) y) (noted_reaches c (each (λ (z : B). (a, z)) y))
right_reaches {A} {B} (Lost c) y = lost_reaches (A × B) c y

then_reaches : {A B : Type 0} (x : Found A) (f : A → Found B) → Reaches x (and_then x f)
then_reaches (Sound a) f b e = cc
then_reaches (Noted c a) f b e = let r = noted_first c (f a) in (r.0, r.1, subst (IsFirst r.0) (of_some c b e) r.2)
then_reaches (Lost c) f b e = (c, refl, subst (IsFirst c) (of_some c b e) (first_itself c))

needs_reaches : {A : Type 0} (ok : Bool) (r : ElabRule) (p : ℕ) (x : Found A) → Reaches x (needs ok r p x)
needs_reaches true r p x = reaches_itself x
needs_reaches {A} false r p x = lost_reaches A (at r p) x

sized_reaches : (p : ℕ) (x : Found ℕ) → Reaches x (sized p x)
sized_reaches p x = then_reaches x (λ w. wants (nat_le w most_digits) rule.TooWide p (Sound w))

filled_reaches : (p : ℕ) (x : Found ℕ) → Reaches x (filled p x)
filled_reaches p x = then_reaches x (λ w. needs (nat_lt 0 w) rule.BadRange p (Sound w))

constant_reaches : (s : Scope) (e : Tree) (x : Found ℕ) → Reaches x (constant s e x)
constant_reaches s e x =
    reaches_on x (constant_width s e x) (constant s e x)
    (reaches_on x (needs (made s e) rule.NotConstant (first_at e) x) (constant_width s e x) (needs_reaches (made s e) rule.NotConstant (first_at e) x)
    (settled_reaches (needs (made s e) rule.NotConstant (first_at e) x)))
    (then_reaches (constant_width s e x) (λ (w : ℕ). known (first_at e) (meaning s e w no_signals)))

-- what was made of several parts, and sized
made_reaches : {A B : Type 0} (p : ℕ) (x : Found A) (y : Found B) (f : B → ℕ) → Reaches x y → Reaches x (sized p (each f y))
made_reaches p x y f h = reaches_on x (each f y) (sized p (each f y)) (reaches_on x y (each f y) h (each_reaches f y)) (sized_reaches p (each f y))

module _ (s : Scope) where
  left_binary : (op : BinaryOperator) (l r : Tree) → Reaches (checked s l) (checked s (Binary op l r))
  left_binary op l r = made_reaches (first_at l) (checked s l) (both (checked s l) (checked s r)) (λ x. binary_width (binary_class op) x.0 x.1) (left_reaches (checked s l) (checked s r))

  right_binary : (op : BinaryOperator) (l r : Tree) → Reaches (checked s r) (checked s (Binary op l r))
  right_binary op l r = made_reaches (first_at l) (checked s r) (both (checked s l) (checked s r)) (λ x. binary_width (binary_class op) x.0 x.1) (right_reaches (checked s l) (checked s r))

  bracketed : (p : ℕ) (e : Tree) → Reaches (checked s e) (checked s (Bracketed p e))
  bracketed p e = sized_reaches p (checked s e)

  unary : (p : ℕ) (op : UnaryOperator) (e : Tree) → Reaches (checked s e) (checked s (Unary p op e))
  unary p op e = made_reaches p (checked s e) (checked s e) (unary_width (unary_class op)) (reaches_itself (checked s e))

  branches : (c a b : Tree) → Reaches (both (checked s a) (checked s b)) (both (checked s c) (both (checked s a) (checked s b)))
  branches c a b = right_reaches (checked s c) (both (checked s a) (checked s b))

  conditional : {A : Type 0} (x : Found A) (c a b : Tree) → Reaches x (both (checked s c) (both (checked s a) (checked s b))) → Reaches x (checked s (Conditional c a b))
  conditional x c a b h = made_reaches (first_at c) x (both (checked s c) (both (checked s a) (checked s b))) (λ y. max y.1.0 y.1.1) h

  concatenation : (p : ℕ) (es : Trees) → Reaches (all_checked s es) (checked s (Concatenation p es))
  concatenation p es = reaches_on (all_checked s es) (filled p (all_checked s es)) (sized p (filled p (all_checked s es))) (filled_reaches p (all_checked s es)) (sized_reaches p (filled p (all_checked s es)))

  abbrev count_of : Tree → Found ℕ
  count_of c = and_then (constant s c (checked s c)) (counted (first_at c))

  count_reaches : (p : ℕ) (c : Tree) (es : Trees) → Reaches (checked s c) (checked s (Replication p c es))
  count_reaches p c es =
      made_reaches p (checked s c) (both (count_of c) (filled p (all_checked s es))) (λ x. x.0 * x.1)
      (reaches_on (checked s c) (count_of c) (both (count_of c) (filled p (all_checked s es)))
      (reaches_on (checked s c) (constant s c (checked s c)) (count_of c) (constant_reaches s c (checked s c)) (then_reaches (constant s c (checked s c)) (counted (first_at c))))
      (left_reaches (count_of c) (filled p (all_checked s es))))

  contents_reach : (p : ℕ) (c : Tree) (es : Trees) → Reaches (all_checked s es) (checked s (Replication p c es))
  contents_reach p c es =
      made_reaches p (all_checked s es) (both (count_of c) (filled p (all_checked s es))) (λ x. x.0 * x.1)
      (reaches_on (all_checked s es) (filled p (all_checked s es)) (both (count_of c) (filled p (all_checked s es))) (filled_reaches p (all_checked s es))
      (right_reaches (count_of c) (filled p (all_checked s es))))

  same_tree : (x e : Tree) → x ≡ e → Reaches (checked s x) (checked s e)
  same_tree x e h = subst (λ y. Reaches (checked s x) (checked s y)) h (reaches_itself (checked s x))

  mutual
    pub in_reaches : (x e : Tree) → IsIn x e → Reaches (checked s x) (checked s e)
    in_reaches x (Number p ds) h = same_tree x (Number p ds) h
    in_reaches x (Named p n sel) h = same_tree x (Named p n sel) h
    in_reaches x (Bracketed p e) (inl h) = same_tree x (Bracketed p e) h
    in_reaches x (Bracketed p e) (inr h) = reaches_on (checked s x) (checked s e) (checked s (Bracketed p e)) (in_reaches x e h) (bracketed p e)
    in_reaches x (Unary p op e) (inl h) = same_tree x (Unary p op e) h
    in_reaches x (Unary p op e) (inr h) = reaches_on (checked s x) (checked s e) (checked s (Unary p op e)) (in_reaches x e h) (unary p op e)
    in_reaches x (Binary op l r) (inl h) = same_tree x (Binary op l r) h
    in_reaches x (Binary op l r) (inr (inl h)) = reaches_on (checked s x) (checked s l) (checked s (Binary op l r)) (in_reaches x l h) (left_binary op l r)
    in_reaches x (Binary op l r) (inr (inr h)) = reaches_on (checked s x) (checked s r) (checked s (Binary op l r)) (in_reaches x r h) (right_binary op l r)
    in_reaches x (Conditional c a b) (inl h) = same_tree x (Conditional c a b) h
    in_reaches x (Conditional c a b) (inr (inl h)) =
        reaches_on (checked s x) (checked s c) (checked s (Conditional c a b)) (in_reaches x c h) (conditional (checked s c) c a b (left_reaches (checked s c) (both (checked s a) (checked s b))))
    in_reaches x (Conditional c a b) (inr (inr (inl h))) =
        reaches_on (checked s x) (checked s a) (checked s (Conditional c a b)) (in_reaches x a h)
        (conditional (checked s a) c a b (reaches_on (checked s a) (both (checked s a) (checked s b)) (both (checked s c) (both (checked s a) (checked s b))) (left_reaches (checked s a) (checked s b)) (branches c a b)))
    in_reaches x (Conditional c a b) (inr (inr (inr h))) =
        reaches_on (checked s x) (checked s b) (checked s (Conditional c a b)) (in_reaches x b h)
        (conditional (checked s b) c a b (reaches_on (checked s b) (both (checked s a) (checked s b)) (both (checked s c) (both (checked s a) (checked s b))) (right_reaches (checked s a) (checked s b)) (branches c a b)))
    in_reaches x (Concatenation p es) (inl h) = same_tree x (Concatenation p es) h
    in_reaches x (Concatenation p es) (inr h) = reaches_on (checked s x) (all_checked s es) (checked s (Concatenation p es)) (one_reaches x es h) (concatenation p es)
    in_reaches x (Replication p c es) (inl h) = same_tree x (Replication p c es) h
    in_reaches x (Replication p c es) (inr (inl h)) = reaches_on (checked s x) (checked s c) (checked s (Replication p c es)) (in_reaches x c h) (count_reaches p c es)
    in_reaches x (Replication p c es) (inr (inr h)) = reaches_on (checked s x) (all_checked s es) (checked s (Replication p c es)) (one_reaches x es h) (contents_reach p c es)

    one_reaches : (x : Tree) (es : Trees) → IsInOne x es → Reaches (checked s x) (all_checked s es)
    one_reaches x none h = absurd h
    one_reaches x (more e es) (inl h) =
        reaches_on (checked s x) (checked s e) (all_checked s (more e es)) (in_reaches x e h)
        (reaches_on (checked s e) (both (checked s e) (all_checked s es)) (all_checked s (more e es)) (left_reaches (checked s e) (all_checked s es)) (each_reaches (λ y. y.0 + y.1) (both (checked s e) (all_checked s es))))
    one_reaches x (more e es) (inr h) =
        reaches_on (checked s x) (all_checked s es) (all_checked s (more e es)) (one_reaches x es h)
        (reaches_on (all_checked s es) (both (checked s e) (all_checked s es)) (all_checked s (more e es)) (right_reaches (checked s e) (all_checked s es)) (each_reaches (λ y. y.0 + y.1) (both (checked s e) (all_checked s es))))

pub first_faults_count : First_faults_count
first_faults_count s x e b h f = in_reaches s x e h b f
