-- A means of proof: the tokens at the front, for the proofs of Python's parser: marks, words and names.
use Rattle.std.specs.Prelude.{ℕ, Bool, false, List, [], ◌∷◌, Option, Some, None, if◌then◌else◌}
use Rattle.std.specs.Str.{bytes_eq}
use denote.Enum.Bare.{sameb}
use Rattle.py_syntax.specs.declared.keyword.Keyword.{Keyword}
use Rattle.py_syntax.specs.declared.operator.Operator.{Operator}
use Rattle.py_syntax.specs.declared.operator.Operator.TheVariants as operator
use Rattle.py_syntax.specs.declared.operator.Bracket.{Bracket}
use Rattle.py_syntax.specs.declared.operator.Bracket.TheVariants as bracket
use Rattle.py_syntax.specs.declared.token.Token.{Token}
use Rattle.py_syntax.specs.declared.token.Token.TheVariants as token
use Rattle.py_syntax.specs.contracts.keyword.Keyword as keyword_type
use Rattle.py_syntax.specs.contracts.operator.Operator as operator_type
use Rattle.py_syntax.specs.contracts.operator.Bracket as bracket_type
use Rattle.py_expression.specs.declared.phrase.mark.Mark.{Mark}
use Rattle.py_expression.specs.declared.phrase.mark.Mark.TheVariants as mark

abbrev pub token_of : Mark → Token
token_of (mark.Keyword k) = token.Keyword k
token_of (mark.Operator o) = token.Operator o
token_of (mark.Open b) = token.Open b
token_of (mark.Close b) = token.Close b

abbrev pub is_keyword : Keyword → Token → Bool
is_keyword k (token.Keyword j) = sameb keyword_type.the_type j k
is_keyword k _ = false

abbrev pub is_operator : Operator → Token → Bool
is_operator o (token.Operator p) = sameb operator_type.the_type p o
is_operator o _ = false

abbrev pub is_open : Bracket → Token → Bool
is_open b (token.Open c) = sameb bracket_type.the_type c b
is_open b _ = false

abbrev pub is_close : Bracket → Token → Bool
is_close b (token.Close c) = sameb bracket_type.the_type c b
is_close b _ = false

abbrev pub is_mark : Mark → Token → Bool
is_mark (mark.Keyword k) t = is_keyword k t
is_mark (mark.Operator o) t = is_operator o t
is_mark (mark.Open b) t = is_open b t
is_mark (mark.Close b) t = is_close b t

abbrev pub is_word : List ℕ → Token → Bool
is_word word (token.Name n) = bytes_eq n word
is_word word _ = false

abbrev pub after_if : List Token → Bool → Option (List Token)
after_if ts b = if b then Some ts else None

-- the tokens after this mark
unfoldable pub after : Mark → List Token → Option (List Token)
after m [] = None
after m (t ∷ ts) = after_if ts (is_mark m t)

-- the tokens after this name
unfoldable pub after_word : List ℕ → List Token → Option (List Token)
after_word word [] = None
after_word word (t ∷ ts) = after_if ts (is_word word t)

abbrev pub comma : Mark
comma = mark.Operator operator.Comma

abbrev pub assign : Mark
assign = mark.Operator operator.Assign

-- what stands behind each of these marks

abbrev pub after_open : List Token → Option (List Token)
after_open ts = after (mark.Open bracket.Round) ts

abbrev pub after_close : List Token → Option (List Token)
after_close ts = after (mark.Close bracket.Round) ts

abbrev pub after_open_square : List Token → Option (List Token)
after_open_square ts = after (mark.Open bracket.Square) ts

abbrev pub after_close_square : List Token → Option (List Token)
after_close_square ts = after (mark.Close bracket.Square) ts

abbrev pub after_comma : List Token → Option (List Token)
after_comma ts = after comma ts

abbrev pub after_assign : List Token → Option (List Token)
after_assign ts = after assign ts

abbrev pub after_dot : List Token → Option (List Token)
after_dot ts = after (mark.Operator operator.Dot) ts

abbrev pub closing_by : Mark → List Token → Option (List Token) → Option (List Token)
closing_by close ts (Some us) = after close us
closing_by close ts None = after close ts

-- behind the `)` of a call, before which a comma may stand
abbrev pub after_last : List Token → Option (List Token)
after_last ts = closing_by (mark.Close bracket.Round) ts (after_comma ts)

-- the name at the front, and what stands behind it
abbrev pub name_at : List Token → Option (List ℕ × List Token)
name_at (token.Name n ∷ ts) = Some (n, ts)
name_at _ = None

abbrev pub named_by : List ℕ → Option (List Token) → Option (List ℕ × List Token)
named_by n None = None
named_by n (Some ts) = Some (n, ts)

abbrev pub named_from : Option (List ℕ × List Token) → Option (List ℕ × List Token)
named_from None = None
named_from (Some x) = named_by x.0 (after_assign x.1)

-- the name before a `=`, and what stands behind that
abbrev pub named_at : List Token → Option (List ℕ × List Token)
named_at ts = named_from (name_at ts)

abbrev pub after_name_by : List ℕ → List Token → Option (List ℕ × List Token) → List Token
after_name_by wanted ts None = ts
after_name_by wanted ts (Some x) = if bytes_eq x.0 wanted then x.1 else ts

-- behind `name=`, if that stands at the front
abbrev pub after_name : List ℕ → List Token → List Token
after_name wanted ts = after_name_by wanted ts (named_at ts)

-- nothing follows
abbrev pub end_of : List Token → Option (Unit {0})
end_of [] = Some tt
end_of (t ∷ ts) = None
