-- Operators and delimiters: what is found is the longest that stands there.
use Rattle.std.proofs.Common.{◌≡◌, ◌⊎◌, inl, inr, ℕ, ◌<◌, ◌≤◌, Bool, true, false, not, ◌==◌, ◌&&◌, List, [], ◌∷◌, ◌++◌, length, drop, Option, None, Some, refl, sym, ap, subst, ◌∙◌, arith}
use Rattle.std.specs.Prelude.{if◌then◌else◌, slice_index, IfSome}
use Rattle.std.specs.List.{list_any}
use Rattle.py_syntax.specs.Bytes.{is_digit, is_letter, is_printable}
use Rattle.py_syntax.specs.Marks.{bracket_of, operator_at, or_shorter, single, with_equals, doubled, doubled_with_equals}
use Rattle.py_syntax.specs.Standing.{operator_bytes, IsLongest, is_formless}
use Rattle.py_syntax.specs.declared.operator.Operator.{Operator}
use Rattle.py_syntax.specs.declared.operator.Operator.TheVariants as operator
use Rattle.py_syntax.specs.declared.token.Token.{Token}
use Rattle.py_syntax.proofs.Tests.{equal, both, not_true}

pub when : {A : Type 0} (P : A → Type 0) (x : Bool) (t : A) (y : Option A) → (x ≡ true → P t) → IfSome y P → IfSome (if x then Some t else y) P
when P true t y f g = f (λ i. true)
when P false t y f g = g

abbrev pub Single : ℕ → Operator → Type 0
Single b op = operator_bytes op ≡ b ∷ []

pub single_bytes : (b : ℕ) → IfSome (single b) (Single b)
single_bytes b =
    let at : (n : ℕ) → (b == n) ≡ true → n ∷ [] ≡ b ∷ [] = λ n e. ap (λ (x : ℕ). x ∷ []) (sym (equal b n e)) in
    when (Single b) (b == 44) _ _ (at 44) (when (Single b) (b == 46) _ _ (at 46) (when (Single b) (b == 58) _ _ (at 58) (when (Single b) (b == 64) _ _ (at 64)
    (when (Single b) (b == 126) _ _ (at 126) (when (Single b) (b == 61) _ _ (at 61) (when (Single b) (b == 60) _ _ (at 60) (when (Single b) (b == 62) _ _ (at 62)
    (when (Single b) (b == 124) _ _ (at 124) (when (Single b) (b == 94) _ _ (at 94) (when (Single b) (b == 38) _ _ (at 38) (when (Single b) (b == 43) _ _ (at 43)
    (when (Single b) (b == 45) _ _ (at 45) (when (Single b) (b == 42) _ _ (at 42) (when (Single b) (b == 37) _ _ (at 37) tt))))))))))))))

abbrev pub WithEquals : ℕ → Operator → Type 0
WithEquals b op = operator_bytes op ≡ b ∷ 61 ∷ []

pub with_equals_bytes : (b : ℕ) → IfSome (with_equals b) (WithEquals b)
with_equals_bytes b =
    let at : (n : ℕ) → (b == n) ≡ true → n ∷ 61 ∷ [] ≡ b ∷ 61 ∷ [] = λ n e. ap (λ (x : ℕ). x ∷ 61 ∷ []) (sym (equal b n e)) in
    when (WithEquals b) (b == 61) _ _ (at 61) (when (WithEquals b) (b == 33) _ _ (at 33) (when (WithEquals b) (b == 60) _ _ (at 60) (when (WithEquals b) (b == 62) _ _ (at 62)
    (when (WithEquals b) (b == 124) _ _ (at 124) (when (WithEquals b) (b == 94) _ _ (at 94) (when (WithEquals b) (b == 38) _ _ (at 38) (when (WithEquals b) (b == 43) _ _ (at 43)
    (when (WithEquals b) (b == 45) _ _ (at 45) (when (WithEquals b) (b == 42) _ _ (at 42) (when (WithEquals b) (b == 37) _ _ (at 37) tt))))))))))

abbrev pub Doubled : ℕ → Operator → Type 0
Doubled b op = (0 < b) × (operator_bytes op ≡ b ∷ b ∷ [])

pub doubled_bytes : (b : ℕ) → IfSome (doubled b) (Doubled b)
doubled_bytes b =
    let at : (n : ℕ) → 0 < n → (b == n) ≡ true → (0 < b) × (n ∷ n ∷ [] ≡ b ∷ b ∷ []) =
    λ n h e. let k : b ≡ n = equal b n e in (omega arith, ap (λ (x : ℕ). x ∷ x ∷ []) (sym k)) in
    when (Doubled b) (b == 60) _ _ (at 60 (omega arith)) (when (Doubled b) (b == 62) _ _ (at 62 (omega arith)) (when (Doubled b) (b == 47) _ _ (at 47 (omega arith)) tt))

abbrev pub DoubledEquals : ℕ → Operator → Type 0
DoubledEquals b op = (0 < b) × (operator_bytes op ≡ b ∷ b ∷ 61 ∷ [])

pub doubled_equals_bytes : (b : ℕ) → IfSome (doubled_with_equals b) (DoubledEquals b)
doubled_equals_bytes b =
    let at : (n : ℕ) → 0 < n → (b == n) ≡ true → (0 < b) × (n ∷ n ∷ 61 ∷ [] ≡ b ∷ b ∷ 61 ∷ []) =
    λ n h e. let k : b ≡ n = equal b n e in (omega arith, ap (λ (x : ℕ). x ∷ x ∷ 61 ∷ []) (sym k)) in
    when (DoubledEquals b) (b == 60) _ _ (at 60 (omega arith)) (when (DoubledEquals b) (b == 62) _ _ (at 62 (omega arith)) (when (DoubledEquals b) (b == 47) _ _ (at 47 (omega arith)) tt))

-- The operator is spelled by the first bytes, of which the last is not 0, since a text may be shorter.
pub record IsOperator (a b d : ℕ) (x : Operator × ℕ) : Type 0 where
  pub one_byte : x.1 ≡ 1 → operator_bytes x.0 ≡ a ∷ []
  pub two_bytes : x.1 ≡ 2 → (0 < b) × (operator_bytes x.0 ≡ a ∷ b ∷ [])
  pub three_bytes : x.1 ≡ 3 → (0 < b) × (0 < d) × (operator_bytes x.0 ≡ a ∷ b ∷ d ∷ [])
  pub known : (x.1 ≡ 1) ⊎ (x.1 ≡ 2) ⊎ (x.1 ≡ 3)

pub if_so : {A : Type 0} (P : A → Type 0) (t : Bool) (x : Option A) → (t ≡ true → IfSome x P) → IfSome (if t then x else None) P
if_so P true x f = f (λ i. true)
if_so P false x f = tt

pub weaker : {A : Type 0} (P Q : A → Type 0) (x : Option A) → ((a : A) → P a → Q a) → IfSome x P → IfSome x Q
weaker P Q None f h = tt
weaker P Q (Some a) f h = f a h

pub or_spelled : (P : Operator × ℕ → Type 0) (n : ℕ) (x : Option Operator) (y : Option (Operator × ℕ)) → IfSome x (λ op. P (op, n)) → IfSome y P → IfSome (or_shorter n x y) P
or_spelled P n None y f g = g
or_spelled P n (Some op) y f g = f

pub operator_stands : (a b d : ℕ) → IfSome (operator_at a b d) (IsOperator a b d)
unfolding operator_at
operator_stands a b d =
    let P : Operator × ℕ → Type 0 = IsOperator a b d in
    or_spelled P 3 _ _
    (if_so (λ op. P (op, 3)) ((a == b) && (d == 61)) (doubled_with_equals a) (λ e.
    let t : (a == b) ≡ true × (d == 61) ≡ true = both (a == b) (d == 61) e in
    let f : a ≡ b = equal a b t.0 in
    let g : d ≡ 61 = equal d 61 t.1 in
    weaker (DoubledEquals a) (λ op. P (op, 3)) (doubled_with_equals a) (λ op h. record {
      one_byte = λ k. absurd (omega arith);
      two_bytes = λ k. absurd (omega arith);
      three_bytes = λ k. (omega (arith, h.0), omega arith, h.1 ∙ (let q : a ∷ a ∷ 61 ∷ [] ≡ a ∷ b ∷ d ∷ [] = cc in q));
      known = inr (inr refl);
    }) (doubled_equals_bytes a)))
    (or_spelled P 2 _ _
    (if_so (λ op. P (op, 2)) (a == b) (doubled a) (λ e.
    let f : a ≡ b = equal a b e in
    weaker (Doubled a) (λ op. P (op, 2)) (doubled a) (λ op h. record {
      one_byte = λ k. absurd (omega arith);
      three_bytes = λ k. absurd (omega arith);
      two_bytes = λ k. (omega (arith, h.0), h.1 ∙ (let q : a ∷ a ∷ [] ≡ a ∷ b ∷ [] = cc in q));
      known = inr (inl refl);
    }) (doubled_bytes a)))
    (or_spelled P 2 _ _
    (if_so (λ op. P (op, 2)) (b == 61) (with_equals a) (λ e.
    let g : b ≡ 61 = equal b 61 e in
    weaker (WithEquals a) (λ op. P (op, 2)) (with_equals a) (λ op h. record {
      one_byte = λ k. absurd (omega arith);
      three_bytes = λ k. absurd (omega arith);
      two_bytes = λ k. (omega arith, h ∙ (let q : a ∷ 61 ∷ [] ≡ a ∷ b ∷ [] = cc in q));
      known = inr (inl refl);
    }) (with_equals_bytes a)))
    (or_spelled P 1 (single a) None
    (weaker (Single a) (λ op. P (op, 1)) (single a) (λ op h. record {
      two_bytes = λ k. absurd (omega arith);
      three_bytes = λ k. absurd (omega arith);
      one_byte = λ k. h;
      known = inl refl;
    }) (single_bytes a)) tt)))

-- An operator of at least so many bytes is found.
abbrev pub Reaches : ℕ → Option (Operator × ℕ) → Type 0
Reaches n None = ⊥
Reaches n (Some x) = n ≤ x.1

reach_here : (n : ℕ) (x : Option Operator) (y : Option (Operator × ℕ)) (op : Operator) → x ≡ Some op → Reaches n (or_shorter n x y)
reach_here n None y op e = cc
reach_here n (Some o) y op e = omega arith

-- the longest of four
abbrev pick : Option Operator → Option Operator → Option Operator → Option Operator → Option (Operator × ℕ)
pick x y z w = or_shorter 3 x (or_shorter 2 y (or_shorter 2 z (or_shorter 1 w None)))

reach_fourth : (x y z w : Option Operator) (op : Operator) → w ≡ Some op → Reaches 1 (pick x y z w)
reach_fourth (Some o) y z w op e = omega arith
reach_fourth None (Some o) z w op e = omega arith
reach_fourth None None (Some o) w op e = omega arith
reach_fourth None None None w op e = reach_here 1 w None op e

reach_third : (x y z w : Option Operator) (op : Operator) → z ≡ Some op → Reaches 2 (pick x y z w)
reach_third (Some o) y z w op e = omega arith
reach_third None (Some o) z w op e = omega arith
reach_third None None z w op e = reach_here 2 z (or_shorter 1 w None) op e

reach_second : (x y z w : Option Operator) (op : Operator) → y ≡ Some op → Reaches 2 (pick x y z w)
reach_second (Some o) y z w op e = omega arith
reach_second None y z w op e = reach_here 2 y (or_shorter 2 z (or_shorter 1 w None)) op e

module _ (a b c : ℕ) where
  triple : Option Operator
  triple = if (a == b) && (c == 61) then doubled_with_equals a else None

  double : Option Operator
  double = if a == b then doubled a else None

  equals : Option Operator
  equals = if b == 61 then with_equals a else None

  single_reach : (op : Operator) → single a ≡ Some op → Reaches 1 (operator_at a b c)
  unfolding operator_at triple double equals
  single_reach op e = reach_fourth triple double equals (single a) op e

  equals_reach : (op : Operator) → equals ≡ Some op → Reaches 2 (operator_at a b c)
  unfolding operator_at triple double equals
  equals_reach op e = reach_third triple double equals (single a) op e

  doubled_reach : (op : Operator) → double ≡ Some op → Reaches 2 (operator_at a b c)
  unfolding operator_at triple double equals
  doubled_reach op e = reach_second triple double equals (single a) op e

  triple_reach : (op : Operator) → triple ≡ Some op → Reaches 3 (operator_at a b c)
  unfolding operator_at triple double equals
  triple_reach op e = reach_here 3 triple (or_shorter 2 double (or_shorter 2 equals (or_shorter 1 (single a) None))) op e

-- what is found at the front of a text
abbrev pub at_front : List ℕ → Option (Operator × ℕ)
at_front text = operator_at (slice_index text 0) (slice_index text 1) (slice_index text 2)

reach : (op : Operator) (behind : List ℕ) → Reaches (length (operator_bytes op)) (at_front (operator_bytes op ++ behind))
unfolding triple double equals
reach operator.Comma behind = single_reach 44 _ _ _ refl
reach operator.Dot behind = single_reach 46 _ _ _ refl
reach operator.Colon behind = single_reach 58 _ _ _ refl
reach operator.At behind = single_reach 64 _ _ _ refl
reach operator.Invert behind = single_reach 126 _ _ _ refl
reach operator.Assign behind = single_reach 61 _ _ _ refl
reach operator.Less behind = single_reach 60 _ _ _ refl
reach operator.Greater behind = single_reach 62 _ _ _ refl
reach operator.Or behind = single_reach 124 _ _ _ refl
reach operator.Xor behind = single_reach 94 _ _ _ refl
reach operator.And behind = single_reach 38 _ _ _ refl
reach operator.Plus behind = single_reach 43 _ _ _ refl
reach operator.Minus behind = single_reach 45 _ _ _ refl
reach operator.Times behind = single_reach 42 _ _ _ refl
reach operator.Modulo behind = single_reach 37 _ _ _ refl
reach operator.Equal behind = equals_reach 61 61 _ _ refl
reach operator.NotEqual behind = equals_reach 33 61 _ _ refl
reach operator.LessEqual behind = equals_reach 60 61 _ _ refl
reach operator.GreaterEqual behind = equals_reach 62 61 _ _ refl
reach operator.ShiftLeft behind = doubled_reach 60 60 _ _ refl
reach operator.ShiftRight behind = doubled_reach 62 62 _ _ refl
reach operator.FloorDivide behind = doubled_reach 47 47 _ _ refl
reach operator.OrAssign behind = equals_reach 124 61 _ _ refl
reach operator.XorAssign behind = equals_reach 94 61 _ _ refl
reach operator.AndAssign behind = equals_reach 38 61 _ _ refl
reach operator.PlusAssign behind = equals_reach 43 61 _ _ refl
reach operator.MinusAssign behind = equals_reach 45 61 _ _ refl
reach operator.TimesAssign behind = equals_reach 42 61 _ _ refl
reach operator.ModuloAssign behind = equals_reach 37 61 _ _ refl
reach operator.ShiftLeftAssign behind = triple_reach 60 60 61 _ refl
reach operator.ShiftRightAssign behind = triple_reach 62 62 61 _ refl
reach operator.FloorDivideAssign behind = triple_reach 47 47 61 _ refl

first_name : Option (Operator × ℕ) → Option Operator
first_name None = None
first_name (Some x) = Some x.0

named : List ℕ → Option Operator
named bytes = first_name (at_front bytes)

name_of : (op : Operator) → named (operator_bytes op) ≡ Some op
unfolding named first_name operator_at
name_of operator.Comma = refl
name_of operator.Dot = refl
name_of operator.Colon = refl
name_of operator.At = refl
name_of operator.Invert = refl
name_of operator.Assign = refl
name_of operator.Less = refl
name_of operator.Greater = refl
name_of operator.Or = refl
name_of operator.Xor = refl
name_of operator.And = refl
name_of operator.Plus = refl
name_of operator.Minus = refl
name_of operator.Times = refl
name_of operator.Modulo = refl
name_of operator.Equal = refl
name_of operator.NotEqual = refl
name_of operator.LessEqual = refl
name_of operator.GreaterEqual = refl
name_of operator.ShiftLeft = refl
name_of operator.ShiftRight = refl
name_of operator.FloorDivide = refl
name_of operator.OrAssign = refl
name_of operator.XorAssign = refl
name_of operator.AndAssign = refl
name_of operator.PlusAssign = refl
name_of operator.MinusAssign = refl
name_of operator.TimesAssign = refl
name_of operator.ModuloAssign = refl
name_of operator.ShiftLeftAssign = refl
name_of operator.ShiftRightAssign = refl
name_of operator.FloorDivideAssign = refl

-- no two operators are spelled alike
one_operator : (x y : Operator) → operator_bytes x ≡ operator_bytes y → x ≡ y
one_operator x y e = let k : Some x ≡ Some y = sym (name_of x) ∙ ap named e ∙ name_of y in cc

-- the bytes that mean something else than a word or a mark
abbrev pub specials : List ℕ
specials = 10 ∷ 13 ∷ 32 ∷ 9 ∷ 35 ∷ 34 ∷ 39 ∷ 125 ∷ 92 ∷ []

abbrev pub is_special : ℕ → Bool
is_special b = list_any (λ x. x == b) specials

abbrev pub is_none : Option Token → Bool
is_none None = true
is_none (Some t) = false

abbrev pub may_mark : ℕ → Bool
may_mark b = is_printable b && not (is_special b) && not (is_digit b) && not (is_letter b) && is_none (bracket_of b)

pub mark_first : (op : Operator) (behind : List ℕ) → may_mark (slice_index (operator_bytes op ++ behind) 0) ≡ true
mark_first operator.Comma behind = refl
mark_first operator.Dot behind = refl
mark_first operator.Colon behind = refl
mark_first operator.At behind = refl
mark_first operator.Invert behind = refl
mark_first operator.Assign behind = refl
mark_first operator.Less behind = refl
mark_first operator.Greater behind = refl
mark_first operator.Or behind = refl
mark_first operator.Xor behind = refl
mark_first operator.And behind = refl
mark_first operator.Plus behind = refl
mark_first operator.Minus behind = refl
mark_first operator.Times behind = refl
mark_first operator.Modulo behind = refl
mark_first operator.Equal behind = refl
mark_first operator.NotEqual behind = refl
mark_first operator.LessEqual behind = refl
mark_first operator.GreaterEqual behind = refl
mark_first operator.ShiftLeft behind = refl
mark_first operator.ShiftRight behind = refl
mark_first operator.FloorDivide behind = refl
mark_first operator.OrAssign behind = refl
mark_first operator.XorAssign behind = refl
mark_first operator.AndAssign behind = refl
mark_first operator.PlusAssign behind = refl
mark_first operator.MinusAssign behind = refl
mark_first operator.TimesAssign behind = refl
mark_first operator.ModuloAssign behind = refl
mark_first operator.ShiftLeftAssign behind = refl
mark_first operator.ShiftRightAssign behind = refl
mark_first operator.FloorDivideAssign behind = refl

formed : (op : Operator) (behind : List ℕ) → length (operator_bytes op) ≤ 1 → is_formless (slice_index (operator_bytes op ++ behind) 0) ≡ false
formed operator.Comma behind h = refl
formed operator.Dot behind h = refl
formed operator.Colon behind h = refl
formed operator.At behind h = refl
formed operator.Invert behind h = refl
formed operator.Assign behind h = refl
formed operator.Less behind h = refl
formed operator.Greater behind h = refl
formed operator.Or behind h = refl
formed operator.Xor behind h = refl
formed operator.And behind h = refl
formed operator.Plus behind h = refl
formed operator.Minus behind h = refl
formed operator.Times behind h = refl
formed operator.Modulo behind h = refl
formed operator.Equal behind h = refl
formed operator.NotEqual behind h = absurd (omega (arith, h))
formed operator.LessEqual behind h = refl
formed operator.GreaterEqual behind h = refl
formed operator.ShiftLeft behind h = refl
formed operator.ShiftRight behind h = refl
formed operator.FloorDivide behind h = absurd (omega (arith, h))
formed operator.OrAssign behind h = refl
formed operator.XorAssign behind h = refl
formed operator.AndAssign behind h = refl
formed operator.PlusAssign behind h = refl
formed operator.MinusAssign behind h = refl
formed operator.TimesAssign behind h = refl
formed operator.ModuloAssign behind h = refl
formed operator.ShiftLeftAssign behind h = refl
formed operator.ShiftRightAssign behind h = refl
formed operator.FloorDivideAssign behind h = absurd (omega (arith, h))

pub next_is : (bs : List ℕ) → 0 < slice_index bs 0 → bs ≡ slice_index bs 0 ∷ drop 1 bs
next_is [] h = absurd (omega arith)
next_is (b ∷ bs) h = refl

pub third_of : (b : ℕ) (bs : List ℕ) → slice_index (b ∷ bs) 2 ≡ slice_index (drop 1 bs) 0
third_of b [] = refl
third_of b (x ∷ xs) = refl

-- The operator stands at the front of the text, and has that many bytes.
pub record StandsFirst (text : List ℕ) (x : Operator × ℕ) : Type 0 where
  pub behind : List ℕ
  pub split : text ≡ operator_bytes x.0 ++ behind
  pub size : length (operator_bytes x.0) ≡ x.1

first_by : (b : ℕ) (bs : List ℕ) (x : Operator × ℕ) → IsOperator b (slice_index bs 0) (slice_index (drop 1 bs) 0) x → StandsFirst (b ∷ bs) x
first_by b bs x h = go h.known
  where
    go : (x.1 ≡ 1) ⊎ (x.1 ≡ 2) ⊎ (x.1 ≡ 3) → StandsFirst (b ∷ bs) x
    go (inl e) =
        let k : operator_bytes x.0 ≡ b ∷ [] = h.one_byte e in
        record { behind = bs; split = rw k refl; size = rw k (sym e) }
    go (inr (inl e)) =
        let t = h.two_bytes e in
        let k : operator_bytes x.0 ≡ b ∷ slice_index bs 0 ∷ [] = t.1 in
        record { behind = drop 1 bs; split = rw k (ap (λ (xs : List ℕ). b ∷ xs) (next_is bs t.0)); size = rw k (sym e) }
    go (inr (inr e)) =
        let t = h.three_bytes e in
        let k : operator_bytes x.0 ≡ b ∷ slice_index bs 0 ∷ slice_index (drop 1 bs) 0 ∷ [] = t.2 in
        record {
          behind = drop 1 (drop 1 bs);
          split = rw k (ap (λ (xs : List ℕ). b ∷ xs) (next_is bs t.0 ∙ ap (λ (xs : List ℕ). slice_index bs 0 ∷ xs) (next_is (drop 1 bs) t.1)));
          size = rw k (sym e);
        }

if_some : {A : Type 0} (P : A → Type 0) (o : Option A) (x : A) → o ≡ Some x → IfSome o P → P x
if_some P None x e h = cc
if_some P (Some y) x e h = let q : y ≡ x = cc in subst P q h

-- What is found stands there,
pub found_first : (b : ℕ) (bs : List ℕ) (x : Operator × ℕ) → at_front (b ∷ bs) ≡ Some x → StandsFirst (b ∷ bs) x
found_first b bs x e =
    first_by b bs x (if_some (IsOperator b (slice_index bs 0) (slice_index (drop 1 bs) 0)) _ x (rw third_of at e) (operator_stands b (slice_index bs 0) (slice_index (drop 1 bs) 0)))

-- and is the longest.
pub found_longest : (text bytes rest : List ℕ) (x : Operator × ℕ) → at_front text ≡ Some x → text ≡ bytes ++ rest → length bytes ≡ x.1 → IsLongest bytes rest
found_longest text bytes rest x e split size op behind f =
    let g : text ≡ operator_bytes op ++ behind = split ∙ f in
    let r : Reaches (length (operator_bytes op)) (at_front text) = subst (λ (t : List ℕ). Reaches (length (operator_bytes op)) (at_front t)) (sym g) (reach op behind) in
    let s : Reaches (length (operator_bytes op)) (Some x) = subst (Reaches (length (operator_bytes op))) e r in
    omega (arith, s, size)

-- Where none is found, none stands.
pub none_longest : (text bytes rest : List ℕ) → at_front text ≡ None → text ≡ bytes ++ rest → IsLongest bytes rest
none_longest text bytes rest e split op behind f =
    let g : text ≡ operator_bytes op ++ behind = split ∙ f in
    let r : Reaches (length (operator_bytes op)) (at_front text) = subst (λ (t : List ℕ). Reaches (length (operator_bytes op)) (at_front t)) (sym g) (reach op behind) in
    let s : Reaches (length (operator_bytes op)) None = subst (Reaches (length (operator_bytes op))) e r in
    absurd s

pub single_none : (a b c : ℕ) → operator_at a b c ≡ None → single a ≡ None
unfolding operator_at
single_none a b c e = go _ _ _ (single a) e
  where
    go : (x y z w : Option Operator) → or_shorter 3 x (or_shorter 2 y (or_shorter 2 z (or_shorter 1 w None))) ≡ None → w ≡ None
    go (Some o) y z w e = cc
    go None (Some o) z w e = cc
    go None None (Some o) w e = cc
    go None None None (Some o) e = cc
    go None None None None e = refl

same_length : (xs ys us vs : List ℕ) → xs ++ us ≡ ys ++ vs → length xs ≡ length ys → xs ≡ ys
same_length [] [] us vs e n = refl
same_length [] (y ∷ ys) us vs e n = absurd (omega (arith, n))
same_length (x ∷ xs) [] us vs e n = absurd (omega (arith, n))
same_length (x ∷ xs) (y ∷ ys) us vs e n =
    let h : x ≡ y = cc in
    let t : xs ++ us ≡ ys ++ vs = cc in
    let k : xs ≡ ys = same_length xs ys us vs t (omega (arith, n)) in
    cc

-- The longest mark is found.
pub mark_found : (op : Operator) (b : ℕ) (bs rest : List ℕ) → b ∷ bs ≡ operator_bytes op ++ rest → IsLongest (operator_bytes op) rest → at_front (b ∷ bs) ≡ Some (op, length (operator_bytes op))
mark_found op b bs rest split longest = go (at_front (b ∷ bs)) refl
  where
    go : (o : Option (Operator × ℕ)) → at_front (b ∷ bs) ≡ o → o ≡ Some (op, length (operator_bytes op))
    go None e =
        let r : Reaches (length (operator_bytes op)) (at_front (b ∷ bs)) = subst (λ (t : List ℕ). Reaches (length (operator_bytes op)) (at_front t)) (sym split) (reach op rest) in
        let s : Reaches (length (operator_bytes op)) None = subst (Reaches (length (operator_bytes op))) e r in
        absurd s
    go (Some x) e =
        let r : Reaches (length (operator_bytes op)) (at_front (b ∷ bs)) = subst (λ (t : List ℕ). Reaches (length (operator_bytes op)) (at_front t)) (sym split) (reach op rest) in
        let s : Reaches (length (operator_bytes op)) (Some x) = subst (Reaches (length (operator_bytes op))) e r in
        let f = found_first b bs x e in
        let l : length (operator_bytes x.0) ≤ length (operator_bytes op) = longest x.0 f.behind (sym split ∙ f.split) in
        let n : length (operator_bytes x.0) ≡ length (operator_bytes op) = omega (arith, s, l, f.size) in
        let k : x.0 ≡ op = one_operator x.0 op (same_length (operator_bytes x.0) (operator_bytes op) f.behind rest (sym f.split ∙ split) n) in
        let m : x.1 ≡ length (operator_bytes op) = omega (arith, n, f.size) in
        ap (λ (o : Operator). Some (o, x.1)) k ∙ ap (λ (n : ℕ). Some (op, n)) m

-- Where a formless byte is the longest, no mark is found.
pub formless_found : (b : ℕ) (rest : List ℕ) → is_formless b ≡ true → IsLongest (b ∷ []) rest → at_front (b ∷ rest) ≡ None
formless_found b rest h longest = go (at_front (b ∷ rest)) refl
  where
    go : (o : Option (Operator × ℕ)) → at_front (b ∷ rest) ≡ o → o ≡ None
    go None e = refl
    go (Some x) e =
        let f = found_first b rest x e in
        let l : length (operator_bytes x.0) ≤ 1 = longest x.0 f.behind f.split in
        let k : is_formless (slice_index (operator_bytes x.0 ++ f.behind) 0) ≡ false = formed x.0 f.behind l in
        let q : is_formless b ≡ false = subst (λ (t : List ℕ). is_formless (slice_index t 0) ≡ false) (sym f.split) k in
        absurd (not_true (is_formless b) q h)

-- where a byte begins no mark, none is found
pub no_operator : (b : ℕ) (bs : List ℕ) → may_mark b ≡ false → at_front (b ∷ bs) ≡ None
no_operator b bs h = go (at_front (b ∷ bs)) refl
  where
    go : (o : Option (Operator × ℕ)) → at_front (b ∷ bs) ≡ o → o ≡ None
    go None e = refl
    go (Some x) e =
        let f = found_first b bs x e in
        let k : may_mark b ≡ true = subst (λ (t : List ℕ). may_mark (slice_index t 0) ≡ true) (sym f.split) (mark_first x.0 f.behind) in
        absurd (not_true (may_mark b) h k)
