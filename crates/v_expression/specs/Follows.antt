-- A means of proof: what can go on with an expression, for the proofs of Verilog's parser.
use Rattle.std.specs.Prelude.{ℕ, List, [], ◌∷◌, Option, Some, None, if◌then◌else◌}
use Rattle.v_syntax.specs.declared.token.Token.{Token}
use Rattle.v_syntax.specs.declared.token.Token.TheVariants as token
use Rattle.v_syntax.specs.declared.mark.Mark.{Mark}
use Rattle.v_syntax.specs.declared.mark.Mark.TheVariants as mark
use Rattle.v_syntax.specs.declared.expression.BinaryOperator.{BinaryOperator}
use Rattle.v_syntax.specs.SameMarks.{same_mark}
use Rattle.v_syntax.specs.ExpressionOperators.{binary_operator, level_of}

abbrev pub level_or_zero : Option BinaryOperator → ℕ
level_or_zero None = 0
level_or_zero (Some op) = level_of op

-- how tightly a mark goes on with what stands before it: a select most tightly, `?` most loosely; 0 if not at all
abbrev pub follow_mark : Mark → ℕ
follow_mark m = if same_mark m mark.OpenBracket then 13 else if same_mark m mark.Question then 1 else level_or_zero (binary_operator m)

abbrev pub follow : List Token → ℕ
follow [] = 0
follow (token.Mark m ∷ ts) = follow_mark m
follow (token.Name n ∷ ts) = 0
follow (token.Keyword w ∷ ts) = 0
follow (token.Reserved w ∷ ts) = 0
follow (token.SystemTask t ∷ ts) = 0
follow (token.Number ds ∷ ts) = 0
follow (token.Text t ∷ ts) = 0
