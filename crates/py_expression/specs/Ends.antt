-- A means of proof: where an expression ends, for the proofs of Python's parser.
use Rattle.std.specs.Prelude.{Bool, true, false, ◌∷◌, [], ◌≡◌, ◌⊎◌, ℕ, ◌<◌, ◌≤◌, List, Option, Some, None, Result, Ok, Err}
use Rattle.py_syntax.specs.ExpressionTables.{level_of, function_of, method_of}
use Rattle.py_syntax.specs.ExpressionTrees.{Tree, Constant, FormatString, Name, Bracketed, Attribute, Subscript, Call, MethodCall, Unary, Infix}
use Rattle.py_syntax.specs.ExpressionSpells.{level, Spells}
use Rattle.py_syntax.specs.declared.keyword.Keyword.TheVariants as keyword
use Rattle.py_syntax.specs.declared.operator.Operator.TheVariants as operator
use Rattle.py_syntax.specs.declared.operator.Bracket.TheVariants as bracket
use Rattle.py_syntax.specs.declared.token.Token.{Token}
use Rattle.py_syntax.specs.declared.token.Token.TheVariants as token
use Rattle.py_syntax.specs.declared.expression.Operation.{Operation}
use Rattle.std.specs.Borrow.{Bor}
use Rattle.py_expression.specs.declared.phrase.fault.ReadError.{ReadError}
use Rattle.py_expression.specs.declared.phrase.fault.ReadError.TheVariants as errors
use Rattle.py_expression.specs.declared.measured.Measured.{Measured}
use Rattle.py_expression.specs.Kept.{measured}
use Rattle.py_expression.specs.Shown.{Shown, shown}
use Rattle.py_expression.specs.Tokens.{operation_at, attribute_at}
use Rattle.py_expression.specs.Phrase.Marks.{after_open_square, after_open}

-- whether a token begins an expression
abbrev pub begins_expression : Token → Bool
begins_expression (token.Name n) = true
begins_expression (token.Number n) = true
begins_expression (token.Text bytes) = true
begins_expression token.FormatStart = true
begins_expression (token.Open bracket.Round) = true
begins_expression (token.Keyword keyword.None) = true
begins_expression (token.Keyword keyword.True) = true
begins_expression (token.Keyword keyword.False) = true
begins_expression (token.Keyword keyword.Not) = true
begins_expression (token.Operator operator.Minus) = true
begins_expression (token.Operator operator.Plus) = true
begins_expression (token.Operator operator.Invert) = true
begins_expression _ = false

-- a token that begins an expression stands at the front
abbrev pub starts_expression : List Token → Bool
starts_expression [] = false
starts_expression (t ∷ ts) = begins_expression t

-- how tightly the operator at the front binds, or 0
abbrev pub operation_level : Option (Operation × List Token) → ℕ
operation_level None = 0
operation_level (Some x) = level_of x.0

abbrev pub front : List Token → ℕ
front ts = operation_level (operation_at ts)

-- no attribute and no subscript
abbrev pub NoTail : List Token → Type 0
NoTail rest = (attribute_at rest ≡ None) × (after_open_square rest ≡ None)

-- A bracket behind it belongs to no call of its own: it is a name that no known function has, or an attribute that no method has.
unfoldable pub IsPlain : Tree → Type 0
IsPlain (Name n) = function_of n ≡ None
IsPlain (Attribute e n) = method_of n ≡ None
IsPlain (Constant c) = ⊥
IsPlain (FormatString ps) = ⊥
IsPlain (Bracketed e) = ⊥
IsPlain (Subscript e i) = ⊥
IsPlain (Call f es) = ⊥
IsPlain (MethodCall e m) = ⊥
IsPlain (Unary op e) = ⊥
IsPlain (Infix op l r) = ⊥

abbrev pub IsUncalled : Tree → List Token → Type 0
IsUncalled e rest = (after_open rest ≡ None) ⊎ IsPlain e

-- Nothing at the front of the rest goes on with the tree, where a tree is read that binds so tightly at least.
pub record Stops (least : ℕ) (e : Tree) (rest : List Token) : Type 0 where
  pub no_operator : front rest < least
  pub no_tail : NoTail rest
  pub uncalled : IsUncalled e rest

-- A tree that binds so tightly at least stands at the front, and this is what is kept of it.
pub record IsRead (limit least : ℕ) (ts : List Token) (v : Shown) (rest : List Token) : Type 0 where
  pub tree : Tree
  pub spells : Spells tree ts rest
  pub binds : least ≤ level tree
  pub kept : v ≡ shown limit tree

-- what is kept of this tree, and this rest, unless memory ran out
abbrev pub IsFound : ℕ → Tree → List Token → Result (Measured × Bor (List Token)) ReadError → Type 0
IsFound limit e rest (Ok x) = (measured x.0 ≡ shown limit e) × (x.1.now ≡ rest)
IsFound limit e rest (Err f) = f ≡ errors.OutOfMemory
