-- Facts of tokens, operators and heights.
use Rattle.std.proofs.Common.{◌≡◌, ℕ, suc, ◌<◌, ◌≤◌, Bool, true, false, List, [], ◌∷◌, length, Option, Some, None, Ok, refl, sym, ap, ◌∙◌, arith, ◌⊎◌, inl, inr, if◌then◌else◌}
use Rattle.std.specs.Prelude.{slice_get}
use Rattle.v_syntax.specs.declared.token.Token.{Token}
use Rattle.v_syntax.specs.declared.token.Token.TheVariants as token
use Rattle.v_syntax.specs.declared.mark.Mark.{Mark}
use Rattle.v_syntax.specs.declared.mark.Mark.TheVariants as mark
use Rattle.v_syntax.specs.declared.expression.UnaryOperator.{UnaryOperator}
use Rattle.v_syntax.specs.declared.expression.BinaryOperator.{BinaryOperator}
use Rattle.v_syntax.specs.declared.expression.BinaryOperator.TheVariants as binary
use Rattle.v_syntax.specs.Marks.{marks}
use Rattle.v_syntax.specs.SameMarks.{mark_number, same_mark}
use Rattle.v_syntax.specs.ExpressionTrees.{Tree, Number, Named, Bracketed, Unary, Binary, Conditional, Concatenation, Replication, Trees, none, more, SelectsTree, Whole, One, OfWord, SelectTree, Bit, Part, IndexedPart, TargetTree, NamedTarget, JoinedTarget, TargetTrees, no_target, more_targets, height, selects_height, target_height}
use Rattle.v_syntax.specs.ExpressionOperators.{unary_operator, binary_operator, level_of}
use Rattle.v_syntax.specs.ExpressionSpans.{IsMark, Spans, SelectsSpan, SelectSpans, AllSpan, OthersSpan, TargetSpans, TargetsSpan, OtherTargetsSpan}
use Rattle.v_expression.specs.Phrase.Stops.{is_mark, after, behind, syntax_at, deep_at}
use Rattle.v_expression.specs.Follows.{level_or_zero}
use Rattle.v_expression.specs.Reading.{Readers, down_from, prefix_of, infix_of, from_level}

-- ---- marks

pub infix_mark : (t : Token) (op : BinaryOperator) → infix_of t ≡ Some op → (m : Mark) × (t ≡ token.Mark m) × (binary_operator m ≡ Some op)
infix_mark (token.Mark m) op h = (m, refl, h)
infix_mark (token.Name n) op h = absurd (let e : None ≡ Some op = h in cc)
infix_mark (token.Keyword w) op h = absurd (let e : None ≡ Some op = h in cc)
infix_mark (token.Reserved w) op h = absurd (let e : None ≡ Some op = h in cc)
infix_mark (token.SystemTask t) op h = absurd (let e : None ≡ Some op = h in cc)
infix_mark (token.Number ds) op h = absurd (let e : None ≡ Some op = h in cc)
infix_mark (token.Text t) op h = absurd (let e : None ≡ Some op = h in cc)

pub prefix_mark : (t : Token) (op : UnaryOperator) → prefix_of t ≡ Some op → (m : Mark) × (t ≡ token.Mark m) × (unary_operator m ≡ Some op)
prefix_mark (token.Mark m) op h = (m, refl, h)
prefix_mark (token.Name n) op h = absurd (let e : None ≡ Some op = h in cc)
prefix_mark (token.Keyword w) op h = absurd (let e : None ≡ Some op = h in cc)
prefix_mark (token.Reserved w) op h = absurd (let e : None ≡ Some op = h in cc)
prefix_mark (token.SystemTask t) op h = absurd (let e : None ≡ Some op = h in cc)
prefix_mark (token.Number ds) op h = absurd (let e : None ≡ Some op = h in cc)
prefix_mark (token.Text t) op h = absurd (let e : None ≡ Some op = h in cc)

-- ---- levels

pub level_from_2 : (op : BinaryOperator) → 2 ≤ level_of op
level_from_2 binary.LogicalOr = omega arith
level_from_2 _ = omega arith

pub level_below_12 : (op : BinaryOperator) → level_of op < 12
level_below_12 binary.LogicalOr = omega arith
level_below_12 _ = omega arith

-- the level of the operator at the front, or 0
abbrev pub front : List Token → ℕ
front [] = 0
front (t ∷ ts) = level_or_zero (infix_of t)

pub front_below_12 : (ts : List Token) → front ts < 12
front_below_12 [] = omega arith
front_below_12 (t ∷ ts) = go (infix_of t)
  where
    go : (o : Option BinaryOperator) → level_or_zero o < 12
    go None = omega arith
    go (Some op) = level_below_12 op

pub from_level_some : (min : ℕ) (op : BinaryOperator) → min ≤ level_of op → from_level min (Some op) ≡ Some op
from_level_some min op h = grind arith

pub from_level_none : (min : ℕ) (op : BinaryOperator) → level_of op < min → from_level min (Some op) ≡ None
from_level_none min op h = grind arith

-- ---- heights

selects_positive : (s : SelectsTree) → 1 ≤ selects_height s
unfolding selects_height
selects_positive Whole = omega arith
selects_positive (One s) = omega arith
selects_positive (OfWord at e s) = omega arith

pub height_positive : (e : Tree) → 1 ≤ height e
unfolding height
height_positive (Number at ds) = omega arith
height_positive (Named at name s) = selects_positive s
height_positive (Bracketed at e) = omega arith
height_positive (Unary at op e) = omega arith
height_positive (Binary op l r) = omega arith
height_positive (Conditional c a b) = omega arith
height_positive (Concatenation at es) = omega arith
height_positive (Replication at e es) = omega arith

pub target_height_positive : (t : TargetTree) → 1 ≤ target_height t
unfolding target_height
target_height_positive (NamedTarget at name s) = selects_positive s
target_height_positive (JoinedTarget at ts) = omega arith

pub down_fits : (room : ℕ) (sub : Readers) (first : Tree) (ts : List Token) → height first ≤ room → down_from room sub first ts ≡ Ok sub
unfolding down_from
down_fits room sub first ts h = grind arith

pub down_high : (room : ℕ) (sub : Readers) (first : Tree) (ts : List Token) → room < height first → down_from room sub first ts ≡ deep_at ts
unfolding down_from
down_high room sub first ts h = grind arith

-- ---- lengths

one_less : (m : Mark) (ts us : List Token) → IsMark m ts us → length ts ≡ suc (length us)
one_less m ts us h = ap length h

mutual
  unfolding Spans SelectsSpan SelectSpans AllSpan OthersSpan

  pub spans_shrink : (e : Tree) (end : ℕ) (here rest : List Token) → Spans end e here rest → length rest < length here
  spans_shrink (Number at ds) end here rest (a, p) = let h : length here ≡ suc (length rest) = ap length p in omega arith
  spans_shrink (Named at name s) end here rest (us, a, p, q) = let h : length here ≡ suc (length us) = ap length p in omega (arith, selects_shrink s end us rest q)
  spans_shrink (Bracketed at e) end here rest (us, vs, a, p, s, q) = omega (arith, one_less _ _ _ p, spans_shrink e end us vs s, one_less _ _ _ q)
  spans_shrink (Unary at op e) end here rest (us, a, (m, p, o), s, b) = omega (arith, one_less _ _ _ p, spans_shrink e end us rest s)
  spans_shrink (Binary op l r) end here rest (us, vs, s, (m, p, o), t, b, c) = omega (arith, spans_shrink l end here us s, one_less _ _ _ p, spans_shrink r end vs rest t)
  spans_shrink (Conditional c a b) end here rest (us, vs, ws, xs, s, p, t, q, u, k) =
      omega (arith, spans_shrink c end here us s, one_less _ _ _ p, spans_shrink a end vs ws t, one_less _ _ _ q, spans_shrink b end xs rest u)
  spans_shrink (Concatenation at es) end here rest (us, vs, a, p, s, q) = omega (arith, one_less _ _ _ p, all_shrink es end us vs s, one_less _ _ _ q)
  spans_shrink (Replication at e es) end here rest (us, vs, ws, xs, ys, a, p, s, q, t, u, v) =
      omega (arith, one_less _ _ _ p, spans_shrink e end us vs s, one_less _ _ _ q, all_shrink es end ws xs t, one_less _ _ _ u, one_less _ _ _ v)

  selects_shrink : (s : SelectsTree) (end : ℕ) (here rest : List Token) → SelectsSpan end s here rest → length rest ≤ length here
  selects_shrink Whole end here rest p = let h : length here ≡ length rest = ap length p in omega arith
  selects_shrink (One s) end here rest p = omega (arith, select_shrinks s end here rest p)
  selects_shrink (OfWord at e s) end here rest (us, vs, ws, a, p, t, q, u) = omega (arith, one_less _ _ _ p, spans_shrink e end us vs t, one_less _ _ _ q, select_shrinks s end ws rest u)

  select_shrinks : (s : SelectTree) (end : ℕ) (here rest : List Token) → SelectSpans end s here rest → length rest < length here
  select_shrinks (Bit at e) end here rest (us, vs, a, p, s, q) = omega (arith, one_less _ _ _ p, spans_shrink e end us vs s, one_less _ _ _ q)
  select_shrinks (Part at l r) end here rest (us, vs, ws, xs, a, p, s, q, t, u) =
      omega (arith, one_less _ _ _ p, spans_shrink l end us vs s, one_less _ _ _ q, spans_shrink r end ws xs t, one_less _ _ _ u)
  select_shrinks (IndexedPart at l r) end here rest (us, vs, ws, xs, a, p, s, q, t, u) =
      omega (arith, one_less _ _ _ p, spans_shrink l end us vs s, one_less _ _ _ q, spans_shrink r end ws xs t, one_less _ _ _ u)

  pub all_shrink : (es : Trees) (end : ℕ) (here rest : List Token) → AllSpan end es here rest → length rest < length here
  all_shrink none end here rest p = absurd p
  all_shrink (more e es) end here rest (us, s, p) = omega (arith, spans_shrink e end here us s, others_shrink es end us rest p)

  pub others_shrink : (es : Trees) (end : ℕ) (here rest : List Token) → OthersSpan end es here rest → length rest ≤ length here
  others_shrink none end here rest p = let h : length here ≡ length rest = ap length p in omega arith
  others_shrink (more e es) end here rest (us, vs, p, s, q) = omega (arith, one_less _ _ _ p, spans_shrink e end us vs s, others_shrink es end vs rest q)

mutual
  unfolding TargetSpans TargetsSpan OtherTargetsSpan

  pub target_shrinks : (t : TargetTree) (end : ℕ) (here rest : List Token) → TargetSpans end t here rest → length rest < length here
  target_shrinks (NamedTarget at name s) end here rest (us, a, p, q) = let h : length here ≡ suc (length us) = ap length p in omega (arith, selects_shrink s end us rest q)
  target_shrinks (JoinedTarget at ts) end here rest (us, vs, a, p, s, q) = omega (arith, one_less _ _ _ p, targets_shrink ts end us vs s, one_less _ _ _ q)

  pub targets_shrink : (ts : TargetTrees) (end : ℕ) (here rest : List Token) → TargetsSpan end ts here rest → length rest < length here
  targets_shrink no_target end here rest p = absurd p
  targets_shrink (more_targets t ts) end here rest (us, s, p) = omega (arith, target_shrinks t end here us s, other_targets_shrink ts end us rest p)

  pub other_targets_shrink : (ts : TargetTrees) (end : ℕ) (here rest : List Token) → OtherTargetsSpan end ts here rest → length rest ≤ length here
  other_targets_shrink no_target end here rest p = let h : length here ≡ length rest = ap length p in omega arith
  other_targets_shrink (more_targets t ts) end here rest (us, vs, p, s, q) = omega (arith, one_less _ _ _ p, target_shrinks t end us vs s, other_targets_shrink ts end vs rest q)
