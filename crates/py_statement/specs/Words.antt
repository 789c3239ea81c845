-- A means of proof: the names and tokens that decide which statement or header a line is, for the proofs of Python's parser.
use Rattle.std.specs.Prelude.{ℕ, List, [], ◌∷◌, Option, Some, None, find, codes}
use Rattle.std.specs.Str.{bytes_eq}
use Rattle.py_syntax.specs.StatementTables.{action_name, level_name, augmenting, fault_of}
use Rattle.py_syntax.specs.declared.expression.BinOp.{BinOp}
use Rattle.py_syntax.specs.declared.fault_kind.FaultKind.{FaultKind}
use Rattle.py_syntax.specs.declared.keyword.Keyword.{Keyword}
use Rattle.py_syntax.specs.declared.keyword.Keyword.TheVariants as keyword
use Rattle.py_syntax.specs.declared.operator.Operator.TheVariants as operator
use Rattle.py_syntax.specs.declared.statement.Action.TheVariants as action
use Rattle.py_syntax.specs.declared.statement.LogLevel.TheVariants as level
use Rattle.py_syntax.specs.declared.token.Token.{Token}
use Rattle.py_syntax.specs.declared.token.Token.TheVariants as token
use Rattle.py_expression.specs.Phrase.Marks.{after, name_at}
use Rattle.py_expression.specs.declared.phrase.mark.Mark.TheVariants as mark
use Rattle.py_statement.specs.Call.Chosen.{also, made}
use Rattle.py_statement.specs.declared.method.Called.{Called}
use Rattle.py_statement.specs.declared.method.Called.TheVariants as called

abbrev pub called_name : Called → List ℕ
called_name (called.Act a) = action_name a
called_name (called.Log l) = level_name l
called_name called.SetImmediateValue = codes "setimmediatevalue"
called_name called.PutNow = codes "put_nowait"
called_name called.StartSoon = codes "start_soon"

abbrev pub all_called : List Called
all_called = called.Act action.Set ∷ called.Act action.Clear ∷ called.Act action.Release ∷ called.Act action.Kill ∷ called.Log level.Info ∷ called.Log level.Warning ∷ called.Log level.Error ∷ called.SetImmediateValue ∷ called.PutNow ∷ called.StartSoon ∷ []

-- what a method of this name is, where a statement calls it
unfoldable pub called_of : List ℕ → Option Called
called_of name = find (λ m. bytes_eq (called_name m) name) all_called

-- a reserved word at the front
abbrev pub keyword_at : List Token → Option (Keyword × List Token)
keyword_at (token.Keyword k ∷ ts) = Some (k, ts)
keyword_at _ = None

-- the operator of `+=` and the like
abbrev pub augmenting_at : List Token → Option (BinOp × List Token)
augmenting_at (token.Operator o ∷ ts) = made (λ op. (op, ts)) (augmenting o)
augmenting_at _ = None

abbrev pub after_in : List Token → Option (List Token)
after_in ts = after (mark.Keyword keyword.In) ts

abbrev pub after_as : List Token → Option (List Token)
after_as ts = after (mark.Keyword keyword.As) ts

abbrev pub after_with : List Token → Option (List Token)
after_with ts = after (mark.Keyword keyword.With) ts

-- `:` alone
abbrev pub colon_of : List Token → Option (Unit {0})
colon_of (token.Operator operator.Colon ∷ []) = Some tt
colon_of _ = None

-- the kind of fault whose name stands at the front
abbrev pub kind_at : List Token → Option (FaultKind × List Token)
kind_at ts = also (name_at ts) (λ x. made (λ k. (k, x.1)) (fault_of x.0))
