-- The definitions on small rows.
use Rattle.std.proofs.Common.{◌≡◌, ℕ, [], ◌∷◌, refl, arith}
use Rattle.v_syntax.specs.declared.token.Token.{Token}
use Rattle.v_syntax.specs.declared.token.Token.TheVariants as token
use Rattle.v_syntax.specs.declared.mark.Mark.TheVariants as mark
use Rattle.v_syntax.specs.declared.expression.UnaryOperator.TheVariants as unary
use Rattle.v_syntax.specs.declared.expression.BinaryOperator.TheVariants as binary
use Rattle.v_syntax.specs.ExpressionTrees.{Tree, Number, Named, Bracketed, Unary, Binary, Conditional, Concatenation, Replication, none, more, Whole, One, OfWord, Bit, Part, NamedTarget, JoinedTarget, no_target, more_targets, height, selects_height, select_height, trees_height, target_height, targets_height}
use Rattle.v_syntax.specs.ExpressionOperators.{level}
use Rattle.v_syntax.specs.ExpressionSpans.{Spans, SelectsSpan, AllSpan, OthersSpan}
use Rattle.v_syntax.specs.ExpressionFronts.{Begins, Missing, CutBracketed, CutBinary}

abbrev a : Token
a = token.Name (97 ∷ [])

abbrev b : Token
b = token.Name (98 ∷ [])

abbrev c : Token
c = token.Name (99 ∷ [])

abbrev named : ℕ → ℕ → Tree
named at letter = Named at (letter ∷ []) Whole

abbrev minus : Token
minus = token.Mark mark.Minus

-- `- a * b` is `(- a) * b`, of height 3
negated_product : Spans 4 (Binary binary.Multiply (Unary 0 unary.Minus (named 1 97)) (named 3 98)) (minus ∷ a ∷ token.Mark mark.Star ∷ b ∷ []) []
unfolding Spans SelectsSpan level
negated_product = (
  token.Mark mark.Star ∷ b ∷ [],
  b ∷ [],
  (a ∷ token.Mark mark.Star ∷ b ∷ [], refl, (mark.Minus, refl, refl), (token.Mark mark.Star ∷ b ∷ [], refl, refl, refl), omega arith),
  (mark.Star, refl, refl),
  ([], refl, refl, refl),
  omega arith,
  omega arith,
)

negated_product_height : height (Binary binary.Multiply (Unary 0 unary.Minus (named 1 97)) (named 3 98)) ≡ 3
unfolding height selects_height
negated_product_height = refl

-- and not `- (a * b)`
negated_whole : Spans 4 (Unary 0 unary.Minus (Binary binary.Multiply (named 1 97) (named 3 98))) (minus ∷ a ∷ token.Mark mark.Star ∷ b ∷ []) [] → ⊥
unfolding Spans level
negated_whole h = omega (arith, h.4)

-- `a - b - c` is `(a - b) - c`
from_the_left : Spans 5 (Binary binary.Subtract (Binary binary.Subtract (named 0 97) (named 2 98)) (named 4 99)) (a ∷ minus ∷ b ∷ minus ∷ c ∷ []) []
unfolding Spans SelectsSpan level
from_the_left = (
  minus ∷ c ∷ [],
  c ∷ [],
  (
    minus ∷ b ∷ minus ∷ c ∷ [],
    b ∷ minus ∷ c ∷ [],
    (minus ∷ b ∷ minus ∷ c ∷ [], refl, refl, refl),
    (mark.Minus, refl, refl),
    (minus ∷ c ∷ [], refl, refl, refl),
    omega arith,
    omega arith,
  ),
  (mark.Minus, refl, refl),
  ([], refl, refl, refl),
  omega arith,
  omega arith,
)

not_from_the_right : Spans 5 (Binary binary.Subtract (named 0 97) (Binary binary.Subtract (named 2 98) (named 4 99))) (a ∷ minus ∷ b ∷ minus ∷ c ∷ []) [] → ⊥
unfolding Spans level
not_from_the_right h = omega (arith, h.6)

-- a conditional in the last part of another needs no brackets, in its first part it does
conditional_inside : level (Conditional (named 0 97) (named 2 98) (named 4 99)) ≡ 1
unfolding level
conditional_inside = refl

-- `m[i][j]`: two selects side by side
word_height : height (Named 0 (109 ∷ []) (OfWord 1 (named 2 105) (Bit 4 (named 5 106)))) ≡ 2
unfolding height selects_height select_height
word_height = refl

-- `m[(i)][j:k]`
deep_word_height : height (Named 0 (109 ∷ []) (OfWord 1 (Bracketed 2 (named 3 105)) (Part 6 (named 7 106) (named 9 107)))) ≡ 3
unfolding height selects_height select_height
deep_word_height = refl

-- `{2{a, b}}`
replication_height : height (Replication 0 (Number 1 []) (more (named 3 97) (more (named 5 98) none))) ≡ 2
unfolding height selects_height trees_height
replication_height = refl

-- `{a, b[c]}` as a target
joined_height : target_height (JoinedTarget 0 (more_targets (NamedTarget 1 (97 ∷ []) Whole) (more_targets (NamedTarget 3 (98 ∷ []) (One (Bit 4 (named 5 99)))) no_target))) ≡ 3
unfolding target_height targets_height height selects_height select_height
joined_height = refl

-- `{a}`
one_part : Spans 3 (Concatenation 0 (more (named 1 97) none)) (token.Mark mark.OpenBrace ∷ a ∷ token.Mark mark.CloseBrace ∷ []) []
unfolding Spans SelectsSpan AllSpan OthersSpan
one_part = (
  a ∷ token.Mark mark.CloseBrace ∷ [],
  token.Mark mark.CloseBrace ∷ [],
  refl,
  refl,
  (token.Mark mark.CloseBrace ∷ [], (token.Mark mark.CloseBrace ∷ [], refl, refl, refl), refl),
  refl,
)

-- `a - (` has a partial tree of height 3 and none of height 2: the missing part in the bracket counts as height 1
open_bracket : Begins 3 3 1 (a ∷ minus ∷ token.Mark mark.OpenParenthesis ∷ []) []
unfolding Spans SelectsSpan level height selects_height
open_bracket =
    CutBinary 2 (minus ∷ token.Mark mark.OpenParenthesis ∷ []) (token.Mark mark.OpenParenthesis ∷ []) binary.Subtract (named 0 97)
    (omega arith) (minus ∷ token.Mark mark.OpenParenthesis ∷ [], refl, refl, refl) (omega arith) (omega arith) (mark.Minus, refl, refl) (omega arith)
    (CutBracketed 1 [] (omega arith) refl (Missing (omega arith) refl))
