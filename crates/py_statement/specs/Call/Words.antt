-- A means of proof: the tokens that decide how a call goes on, for the proofs of Python's parser.
use Rattle.std.specs.Prelude.{ℕ, Bool, true, false, List, [], ◌∷◌, Option, Some, None, if◌then◌else◌}
use Rattle.std.specs.Str.{bytes_eq}
use Rattle.py_syntax.specs.declared.keyword.Keyword.TheVariants as keyword
use Rattle.py_syntax.specs.declared.operator.Operator.TheVariants as operator
use Rattle.py_syntax.specs.declared.operator.Bracket.TheVariants as bracket
use Rattle.py_syntax.specs.declared.token.Token.{Token}
use Rattle.py_syntax.specs.declared.token.Token.TheVariants as token
use Rattle.py_expression.specs.Phrase.Marks.{after, after_open, after_dot, name_at}
use Rattle.py_expression.specs.declared.phrase.mark.Mark.TheVariants as mark
use Rattle.py_statement.specs.Call.Chosen.{also}

-- a name before a `(`, and what stands behind that
abbrev pub call_at : List Token → Option (List ℕ × List Token)
call_at ts = also (name_at ts) (λ x. also (after_open x.1) (λ us. Some (x.0, us)))

-- behind `name(`
abbrev pub after_call : List ℕ → List Token → Option (List Token)
after_call name ts = also (call_at ts) (λ x. if bytes_eq x.0 name then Some x.1 else None)

-- behind `owner.name(`
abbrev pub after_member : List ℕ → List ℕ → List Token → Option (List Token)
after_member owner name ts =
    also (name_at ts) (λ x. also (after_dot x.1) (λ us. if bytes_eq x.0 owner then after_call name us else None))

abbrev pub after_text : List Token → Option (List Token)
after_text (token.Text text ∷ ts) = Some ts
after_text _ = None

abbrev pub after_await : List Token → Option (List Token)
after_await ts = after (mark.Keyword keyword.Await) ts

-- whether a started call may end here: at the end of the line, before a comma, or before `)`
abbrev pub is_end : List Token → Bool
is_end [] = true
is_end (token.Operator operator.Comma ∷ ts) = true
is_end (token.Close bracket.Round ∷ ts) = true
is_end _ = false
