-- A means of proof: with which tokens an expression or a target begins, for the proofs of Verilog's parser.
use Rattle.std.specs.Prelude.{Bool, true, false, List, [], ◌∷◌}
use Rattle.v_syntax.specs.declared.token.Token.{Token}
use Rattle.v_syntax.specs.declared.token.Token.TheVariants as token
use Rattle.v_syntax.specs.declared.mark.Mark.{Mark}
use Rattle.v_syntax.specs.declared.mark.Mark.TheVariants as mark

-- a unary operator, or the mark of a primary
abbrev pub mark_begins_expression : Mark → Bool
mark_begins_expression mark.Plus = true
mark_begins_expression mark.Minus = true
mark_begins_expression mark.Exclamation = true
mark_begins_expression mark.Tilde = true
mark_begins_expression mark.Ampersand = true
mark_begins_expression mark.Nand = true
mark_begins_expression mark.Bar = true
mark_begins_expression mark.Nor = true
mark_begins_expression mark.Caret = true
mark_begins_expression mark.TildeCaret = true
mark_begins_expression mark.CaretTilde = true
mark_begins_expression mark.OpenParenthesis = true
mark_begins_expression mark.OpenBrace = true
mark_begins_expression _ = false

abbrev pub begins_expression : Token → Bool
begins_expression (token.Name n) = true
begins_expression (token.Number ds) = true
begins_expression (token.Mark m) = mark_begins_expression m
begins_expression _ = false

abbrev pub mark_begins_target : Mark → Bool
mark_begins_target mark.OpenBrace = true
mark_begins_target _ = false

abbrev pub begins_target : Token → Bool
begins_target (token.Name n) = true
begins_target (token.Mark m) = mark_begins_target m
begins_target _ = false

abbrev pub starts_expression : List Token → Bool
starts_expression [] = false
starts_expression (t ∷ ts) = begins_expression t

abbrev pub starts_target : List Token → Bool
starts_target [] = false
starts_target (t ∷ ts) = begins_target t
