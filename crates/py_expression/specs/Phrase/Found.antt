-- A means of proof: what a call gave, where these constants stand at the front, with these tokens behind them, for the proofs of Python's
-- parser.
use Rattle.std.specs.Prelude.{◌≡◌, List, Result, Ok, Err}
use Rattle.std.specs.Borrow.{Bor}
use Rattle.std.proofs.Common.{Vec, Global}
use Rattle.py_syntax.specs.declared.constant.Const.{Const}
use Rattle.py_syntax.specs.declared.token.Token.{Token}
use Rattle.py_expression.specs.declared.phrase.fault.ReadError.{ReadError}
use Rattle.py_expression.specs.declared.phrase.fault.ReadError.TheVariants as errors

-- these, unless memory ran out
abbrev pub AreFound : List Const → List Token → Result (Vec Const Global × Bor (List Token)) ReadError → Type 0
AreFound cs rest (Ok x) = (x.0.items ≡ cs) × (x.1.now ≡ rest)
AreFound cs rest (Err f) = f ≡ errors.OutOfMemory
